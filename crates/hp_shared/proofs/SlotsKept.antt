-- The slot's trail keeps its fact with one entry more.
use Rattle.std.proofs.Common.{◌≡◌, ◌⊎◌, inr, ℕ, ◌≤◌, zero, suc, Bool, true, false, ◌||◌, List, [], ◌∷◌, ◌++◌, Option, None, Some, Ok, Err, refl, sym, ap, ◌∙◌, subst, arith, is_some, IsTrue, MatchBool}
use Rattle.hp_laws.proofs.Variants.{Asked, AtSlot, ExitMaps, Receipt, Slot as OnSlot, SlotEntry, SlotEvent}
use Rattle.hp_model.proofs.Words.{IsLocalRun, IsLocalStep, KeepsPlaces, Reply, Slot, has_place, is_slot_event, most_tasks, removes_maps, slot_event, to_exit}
use Rattle.hp_laws.proofs.settled.Closing.{slot_places}
use Rattle.hp_locked.specs.Views.{HasPlaces, IsNewTrail as IsFreshTrail}
use Rattle.hp_trail.specs.Keeping.{has_room, one_less, with_entry}
use Rattle.hp_events.specs.Answered.{Went}
use Rattle.hp_events.specs.Replies.{is_trace_full}
use Rattle.hp_shared.specs.Slots.{IsActedOr, IsLockedSlot, IsSlotEvent, IsSlotEventDone, IsSlotTrail, SlotView, slot_start}
use Rattle.hp_locked.specs.Told.{IsReceipt}
use Rattle.hp_model.specs.declared.refusal.Refusal.TheVariants as r
use Rattle.hp_mount_laws.specs.Done.{MayEnter}
use Rattle.hp_events.specs.Event.{has_maps_for, is_exit, is_of_mount}
use Rattle.hp_shared.proofs.Acting.{always_goes}
use Rattle.hp_shared.proofs.Places.{has_closing, places_after, room_closing}

pub slot_push : (size k : ℕ) (s : Slot) (es : List SlotEntry) (m : Slot) (e : SlotEntry) (q : Slot) → IsLocalRun size k s es m → IsLocalStep size k m e q → IsLocalRun size k s (es ++ e ∷ []) q
slot_push size k s [] m e q run step = (q, subst (λ (x : Slot). IsLocalStep size k x e q) (sym run) step, refl)
slot_push size k s (x ∷ es) m e q run step = (run.0, run.1, slot_push size k run.0 es m e q run.2 step)

slot_added : (size k : ℕ) (o : Option (List SlotEntry)) (m : Slot) (e : SlotEntry) (q : Slot) → IsSlotTrail size k o m → IsLocalStep size k m e q → IsSlotTrail size k (with_entry o e) q
slot_added size k None m e q run step = tt
slot_added size k (Some es) m e q run step = slot_push size k (slot_start k) es m e q run step

never_none : (o : Option (List SlotEntry)) (e : SlotEntry) → with_entry o e ≡ None → o ≡ None
never_none None e is = refl
never_none (Some es) e is = cc

module _ (size k : ℕ) (o : Option (List SlotEntry)) (left : Option ℕ) (extra : ℕ) (old : Slot) (e : SlotEvent) (reply : Reply) (asked : Option Asked)
    (new : Slot) (was : IsLockedSlot size k o left extra old) (went : Went size k old e reply asked new) where
  keeps : KeepsPlaces most_tasks (to_exit old) (to_exit new) (removes_maps old e)
  keeps = always_goes (λ s. KeepsPlaces most_tasks (to_exit old) (to_exit s) (removes_maps old e)) (slot_event size k went.0 old e) asked old reply new (slot_places size k went.0 old e was.few) went.2

  left_after : (left2 : Option ℕ) → (is_some o ≡ true → left2 ≡ one_less left) → (o ≡ None → left2 ≡ left) → (b : Option (List SlotEntry)) → o ≡ b → left2 ≡ one_less left
  left_after left2 lessens stays None is = stays is ∙ was.counted is ∙ sym (ap one_less (was.counted is))
  left_after left2 lessens stays (Some es) is = lessens (ap is_some is)

  pub slot_noted : (o2 : Option (List SlotEntry)) (left2 : Option ℕ) (extra2 : ℕ) → IsTrue (is_slot_event old e) →
      o2 ≡ with_entry o (record { event = e; reply = reply; asked = asked }) → (is_some o ≡ true → left2 ≡ one_less left) → (o ≡ None → left2 ≡ left) →
      extra2 ≡ extra
      → (removes_maps old e ≡ false → has_room false left extra ≡ true) → IsLockedSlot size k o2 left2 extra2 new
  slot_noted o2 left2 extra2 is_event noted lessens kept stays room =
      let entry : SlotEntry = record { event = e; reply = reply; asked = asked } in
      let less : left2 ≡ one_less left = left_after left2 lessens kept o refl in
      record {
        trail = subst (λ (x : Option (List SlotEntry)). IsSlotTrail size k x new) (sym noted) (slot_added size k o old entry new was.trail (is_event, went.0, went.1, went.2));
        counted = λ none. less ∙ ap one_less (was.counted (never_none o entry (sym noted ∙ none)));
        few = keeps.enough;
        enough = (let enough = was.enough in omega (arith, enough, stays));
        places = subst (λ (x : Option ℕ). HasPlaces x (to_exit new)) (sym less) (places_after most_tasks (to_exit old) (to_exit new) extra (removes_maps old e) left keeps was.enough was.places room);
      }

  -- the exit of a task with maps has a place
  pub exit_fits : removes_maps old e ≡ true → has_room true left extra ≡ true
  exit_fits is = has_closing most_tasks (to_exit old) (to_exit new) extra left (subst (λ (b : Bool). KeepsPlaces most_tasks (to_exit old) (to_exit new) b) is keeps) was.places

  -- there is a place for what may be noted
  pub may_fit : (is_exit : Bool) → removes_maps old e ≡ is_exit → (is_exit || has_room false left extra) ≡ true → has_room true left extra ≡ true
  may_fit true removes may = exit_fits removes
  may_fit false removes may = room_closing left extra may

-- and it leaves those that are kept
pub may_room : (is_exit : Bool) (b : Bool) (left : Option ℕ) (extra : ℕ) → b ≡ is_exit → (is_exit || has_room false left extra) ≡ true → b ≡ false → has_room false left extra ≡ true
may_room true b left extra is may other = cc
may_room false b left extra is may other = may

start_none : (k : ℕ) → ◌≡◌ {A = ℕ} (to_exit (slot_start k)) 0
start_none zero = refl
start_none (suc k) = refl

pub fresh_slot : (size k : ℕ) (o : Option (List SlotEntry)) (left : Option ℕ) (extra : ℕ) (mount : Slot) → mount ≡ slot_start k → IsFreshTrail o →
    (o ≡ None → left ≡ None) → most_tasks ≤ extra → IsLockedSlot size k o left extra mount
fresh_slot size k o left extra mount is fresh counted enough = record {
  trail = starts o fresh;
  counted = counted;
  few = (let none = ap to_exit is ∙ start_none k in omega (arith, none));
  enough = enough;
  places = room left (ap to_exit is ∙ start_none k);
}
  where
    starts : (o : Option (List SlotEntry)) → IsFreshTrail o → IsSlotTrail size k o mount
    starts None fresh = tt
    starts (Some es) fresh = subst (λ (xs : List SlotEntry). IsLocalRun size k (slot_start k) xs mount) (sym fresh) (sym is)

    room : (l : Option ℕ) → to_exit mount ≡ 0 → HasPlaces l (to_exit mount)
    room None e = tt
    room (Some n) e = omega (arith, e)

-- ---- what an event is for the slot

pub full_in : (b : Bool) (A B : Type 0) → b ≡ true → MatchBool b A B → A
full_in true A B e t = t
full_in false A B e t = cc

pub done_in : (b : Bool) (A B : Type 0) → b ≡ false → MatchBool b A B → B
done_in true A B e t = cc
done_in false A B e t = t

pub full_put : (b : Bool) (A B : Type 0) → b ≡ true → A → MatchBool b A B
full_put true A B e t = t
full_put false A B e t = cc

pub done_put : (b : Bool) (A B : Type 0) → b ≡ false → B → MatchBool b A B
done_put true A B e t = cc
done_put false A B e t = t

-- an event of a mount has no place of its own in a trail
pub mount_has_place : (k : ℕ) (e : SlotEvent) → is_of_mount e ≡ true → has_place (OnSlot k e) ≡ false
mount_has_place k (ExitMaps task) m = cc
mount_has_place k other m = refl

may_happen : (s : Slot) (e : SlotEvent) → has_place (OnSlot 0 e) ≡ false → IsTrue (is_slot_event s e)
may_happen s (ExitMaps task) other = cc
may_happen s e other = refl

pub mount_event : (s : Slot) (e : SlotEvent) → is_of_mount e ≡ true → IsTrue (is_slot_event s e)
mount_event s e m = may_happen s e (mount_has_place 0 e m)

-- an entry, where entries are kept, by the section that is told there
pub entry_asked : (k : Bool) (entries : Option (List SlotEntry)) (e : SlotEvent) (reply : Reply) (a b : Option Asked) → is_some entries ≡ k → (k ≡ true → a ≡ b)
    → with_entry entries (record { event = e; reply = reply; asked = a }) ≡ with_entry entries (record { event = e; reply = reply; asked = b })
entry_asked k None e reply a b kept same = refl
entry_asked k (Some es) e reply a b kept same = ap (λ (t : Option Asked). with_entry (Some es) (record { event = e; reply = reply; asked = t })) (same (sym kept))

-- what is asked where the maps are that it goes by
pub work_event : (s : Slot) (e : SlotEvent) → has_maps_for e s ≡ true → IsTrue (is_slot_event s e)
work_event s (ExitMaps task) has = has
work_event s other has = refl

-- an exit alone removes a task's maps
pub work_removes : (s : Slot) (e : SlotEvent) → has_maps_for e s ≡ true → removes_maps s e ≡ is_exit e
work_removes s (ExitMaps task) has = has
work_removes s other has = refl

module _ (full : Type 0) (size k : ℕ) (entries : Option (List SlotEntry)) (left : Option ℕ) (extra : ℕ) (old : Slot) (e : SlotEvent) (reply : Reply)
    (asked : Option Asked) (new : Slot) (acted : IsActedOr full size k old e reply asked new) where
  abbrev with_mount : Slot → SlotView
  with_mount x = record { number = k; mount = x; entries = entries; left = left; extra = extra }

  abbrev Nothing : Type 0
  Nothing = (new ≡ old) × (asked ≡ None) × full × MayEnter (λ c. slot_event size k c old e) old

  abbrev Full : Slot → Option Receipt → Type 0
  Full x receipt = (with_mount x ≡ with_mount old) × (receipt ≡ None) × (asked ≡ None) × ((has_room false left extra ≡ false) ⊎ (full × MayEnter (λ c. slot_event size k c old e) old))

  same_mount : is_trace_full reply ≡ true → new ≡ old
  same_mount is = (full_in (is_trace_full reply) Nothing (Went size k old e reply asked new) is acted).0

  -- the door had no room
  pub was_full : is_trace_full reply ≡ true → full
  was_full is = (full_in (is_trace_full reply) Nothing (Went size k old e reply asked new) is acted).2

  pub event_went : is_trace_full reply ≡ false → Went size k old e reply asked new
  event_went is = done_in (is_trace_full reply) Nothing (Went size k old e reply asked new) is acted

  pub full_stays : is_trace_full reply ≡ true → IsLockedSlot size k entries left extra old → IsLockedSlot size k entries left extra new
  full_stays is was = subst (λ (x : Slot). IsLockedSlot size k entries left extra x) (sym (same_mount is)) was

  pub event_full : is_trace_full reply ≡ true → IsSlotEvent full size (with_mount old) (with_mount new) e reply asked None
  event_full is =
      let t = full_in (is_trace_full reply) Nothing (Went size k old e reply asked new) is acted in
      full_put (is_trace_full reply) (Full new None) (IsSlotEventDone size (with_mount old) (with_mount new) e reply asked None) is (ap with_mount t.0, refl, t.1, inr (t.2, t.3))

  pub event_done : is_trace_full reply ≡ false → (entries2 : Option (List SlotEntry)) (left2 : Option ℕ) (extra2 : ℕ) (receipt : Option Receipt) →
      entries2 ≡ with_entry entries (record { event = e; reply = reply; asked = asked })
      → IsReceipt entries (AtSlot k) (OnSlot k e) reply receipt → IsSlotEvent full size (with_mount old)
      (record { number = k; mount = new; entries = entries2; left = left2; extra = extra2 }) e reply asked receipt
  event_done is entries2 left2 extra2 receipt noted told =
      let v : SlotView = record { number = k; mount = new; entries = entries2; left = left2; extra = extra2 } in
      done_put (is_trace_full reply) ((v ≡ with_mount old) × (receipt ≡ None) × (asked ≡ None) × ((has_room false left extra ≡ false) ⊎ (full × MayEnter (λ c. slot_event size k c old e) old)))
      (IsSlotEventDone size (with_mount old) v e reply asked receipt) is (record { changes = event_went is; entries = noted; told = told })

pub not_full : (x : Reply) → (x ≡ Err r.TraceFull → ⊥) → is_trace_full x ≡ false
not_full (Ok a) h = refl
not_full (Err r.TraceFull) h = absurd (h refl)
not_full (Err other) h = refl

pub went_acted : (full : Type 0) (size k : ℕ) (old : Slot) (e : SlotEvent) (reply : Reply) (asked : Option Asked) (new : Slot) →
    is_trace_full reply ≡ false → Went size k old e reply asked new → IsActedOr full size k old e reply asked new
went_acted full size k old e reply asked new is went =
    done_put (is_trace_full reply) ((new ≡ old) × (asked ≡ None) × full × MayEnter (λ c. slot_event size k c old e) old) (Went size k old e reply asked new) is went

-- what keeps no entries has none
pub kept_none : (o : Option (List SlotEntry)) → is_some o ≡ false → o ≡ None
kept_none None e = refl
kept_none (Some es) e = cc

pub none_added : (o : Option (List SlotEntry)) (e : SlotEntry) → o ≡ None → o ≡ with_entry o e
none_added None e is = refl
none_added (Some es) e is = cc

-- a trail without room is kept
pub full_keeps : (keeps : Bool) (o : Option (List SlotEntry)) (left : Option ℕ) (extra : ℕ) → is_some o ≡ keeps → (o ≡ None → left ≡ None) → has_room false left extra ≡ false
    → keeps ≡ true
full_keeps keeps None left extra kept counted full = (let room = ap (λ (l : Option ℕ). has_room false l extra) (counted refl) in cc)
full_keeps keeps (Some es) left extra kept counted full = sym kept

pub neither : (a b : Bool) → (a || b) ≡ false → (a ≡ false) × (b ≡ false)
neither true b is = cc
neither false b is = (refl, is)

-- ---- where no entries are kept

module _ (full : Type 0) (size k : ℕ) (o : Option (List SlotEntry)) (left : Option ℕ) (extra : ℕ) (old : Slot) (e : SlotEvent) (reply : Reply)
    (asked : Option Asked) (new : Slot) (acted : IsActedOr full size k old e reply asked new) (unkept : is_some o ≡ false) where
  is_noted : o ≡ with_entry o (record { event = e; reply = reply; asked = asked })
  is_noted = none_added o (record { event = e; reply = reply; asked = asked }) (kept_none o unkept)

  pub unnoted_stays : IsTrue (is_slot_event old e) → IsLockedSlot size k o left extra old → IsLockedSlot size k o left extra new
  unnoted_stays is_event was = by_reply (is_trace_full reply) refl
    where
      uncounted : left ≡ None
      uncounted = was.counted (kept_none o unkept)

      by_reply : (b : Bool) → is_trace_full reply ≡ b → IsLockedSlot size k o left extra new
      by_reply true is = full_stays full size k o left extra old e reply asked new acted is was
      by_reply false is =
          slot_noted size k o left extra old e reply asked new was (event_went full size k o left extra old e reply asked new acted is) o left extra is_event
          is_noted (λ some. cc) (λ none. refl) refl (λ closing. ap (λ (l : Option ℕ). has_room false l extra) uncounted)

  pub unnoted_done : IsSlotEvent full size (record { number = k; mount = old; entries = o; left = left; extra = extra })
      (record { number = k; mount = new; entries = o; left = left; extra = extra }) e reply asked None
  unnoted_done = by_reply (is_trace_full reply) refl
    where
      by_reply : (b : Bool) → is_trace_full reply ≡ b → IsSlotEvent full size (record { number = k; mount = old; entries = o; left = left; extra = extra })
          (record { number = k; mount = new; entries = o; left = left; extra = extra }) e reply asked None
      by_reply true is = event_full full size k o left extra old e reply asked new acted is
      by_reply false is = event_done full size k o left extra old e reply asked new acted is o left extra None is_noted (kept_none o unkept)
