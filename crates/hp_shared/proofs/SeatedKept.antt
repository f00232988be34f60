-- A slot's seat in the history, with one event more.
use Rattle.std.proofs.Common.{◌≡◌, ◌⊎◌, inl, inr, ℕ, Bool, true, false, Option, None, Some, List, [], ◌∷◌, ◌++◌, length, refl, sym, ap, ◌∙◌, subst, is_some, if◌then◌else◌, IsTrue}
use Rattle.atomic_table.specs.Seated.{TableId}
use Rattle.hp_history.specs.declared.held.Held.{Held}
use Rattle.hp_history.specs.declared.held.Held.TheVariants.{Slot as SlotPart, Busy}
use Rattle.hp_history.specs.History.{front_of, number_in, receipts_in}
use Rattle.hp_history.specs.Sections.{IsEntered, IsHeld, asked_in, free_slot, section_at, receipts_next, session_view, entry_with, told_more, trail_next}
use Rattle.hp_laws.proofs.Variants.{Asked, AtSlot, Receipt, Slot as OnSlot, SlotEntry, SlotEvent}
use Rattle.hp_model.proofs.Words.{Ask, Finish, Goes, IsLocalRun, Plan, Reply, Slot, is_slot_event, slot_event}
use Rattle.hp_locked.specs.Told.{IsReceipt}
use Rattle.hp_locked.specs.Views.{IsTrailOf}
use Rattle.hp_mount_laws.specs.Done.{MayEnter}
use Rattle.hp_events.specs.Answered.{Went}
use Rattle.hp_events.specs.Replies.{is_trace_full}
use Rattle.hp_shared.specs.Seated.{IsSeatedDone, IsSeatedEvent, IsSeatedSlot, SeatedView, run_in, session_left, slot_left, slot_receipt, slot_view}
use Rattle.hp_events.specs.Event.{full_for}
use Rattle.hp_model.specs.declared.event.SlotEvent.TheVariants as slot
use Rattle.hp_shared.specs.Slots.{IsSlotEvent, IsSlotEventDone, SlotView, slot_start}
use Rattle.hp_shared.proofs.SlotsKept.{done_in, done_put, full_in, full_put, slot_push}
use Rattle.hp_shared.proofs.Kept.{kept_more}
use Rattle.hp_trail.specs.Keeping.{has_room, with_entry}

-- ---- what a seat has that has the slot and a session, before and after its event entered a section

abbrev pub held : ℕ → List SlotEntry → List Held → Option Asked → List Held
held k es v None = SlotPart k es ∷ session_view v ∷ []
held k es v (Some a) = Busy k es (number_in v) (receipts_in v) a ∷ []

-- the section that a door tells, and as the history has it
abbrev pub IsSame : (keeps : Bool) → Option Asked → Option Asked → Type 0
IsSame keeps None o = o ≡ None
IsSame keeps (Some a) o = (place : ℕ) × (keeps ≡ true → a.place ≡ place) × (o ≡ Some (section_at place a))

pub seen : (keeps : Bool) (k : ℕ) (es : List SlotEntry) (v w : List Held) (asked : Option Asked) → IsEntered keeps (held k es v None) asked w
    → (o : Option Asked) × IsSame keeps asked o × (w ≡ held k es v o)
seen keeps k es v w None is = (None, refl, is)
seen keeps k es v w (Some a) is = (Some (section_at is.0 a), (is.0, is.1, refl), is.2)

held_either : (k : ℕ) (es : List SlotEntry) (v : List Held) (o : Option Asked) → IsHeld (held k es v o)
held_either k es v None = inl refl
held_either k es v (Some a) = inr (a, refl)

goes_placed : (p : Plan) (place : ℕ) (a : Asked) (old : Slot) (reply : Reply) (new : Slot) → Goes p (Some a) old reply new → Goes p (Some (section_at place a)) old reply new
goes_placed (Finish o) place a old reply new g = g
goes_placed (Ask sec f) place a old reply new g = g

went_same : (keeps : Bool) (size k : ℕ) (old : Slot) (e : SlotEvent) (reply : Reply) (asked o : Option Asked) (new : Slot) → IsSame keeps asked o
    → Went size k old e reply asked new → Went size k old e reply o new
went_same keeps size k old e reply None o new same w = subst (λ (x : Option Asked). Went size k old e reply x new) (sym same) w
went_same keeps size k old e reply (Some a) o new same w =
    subst (λ (x : Option Asked). Went size k old e reply x new) (sym same.2)
    (w.0, w.1, goes_placed (slot_event size k w.0 old e) same.0 a old reply new w.2)

same_kept : (keeps : Bool) (asked o : Option Asked) → keeps ≡ true → IsSame keeps asked o → o ≡ asked
same_kept keeps None o is same = same
same_kept keeps (Some a) o is same = same.2 ∙ ap (λ n. Some (section_at n a)) (sym (same.1 is))

-- ---- what is left of it

module _ (k : ℕ) (es : List SlotEntry) (v : List Held) (e : SlotEvent) (r : Reply) where
  slot_done : (o : Option Asked) → is_trace_full r ≡ false → slot_left e r (held k es v o) ≡ SlotPart k (es ++ entry_with e r o ∷ [])
  slot_done None is = ap (λ b. if b then SlotPart k es else SlotPart k (es ++ entry_with e r None ∷ [])) is
  slot_done (Some a) is = ap (λ b. if b then SlotPart k es else SlotPart k (es ++ entry_with e r (Some a) ∷ [])) is

  session_done : (o : Option Asked) → is_trace_full r ≡ false → session_left e r (held k es v o) ≡ told_more v (slot_receipt k e r (length es))
  session_done None is = ap (λ b. if b then session_view v else told_more v (slot_receipt k e r (length es))) is
  session_done (Some a) is = ap (λ b. if b then session_view v else told_more v (slot_receipt k e r (length es))) is

  slot_full : is_trace_full r ≡ true → slot_left e r (held k es v None) ≡ SlotPart k es
  slot_full is = ap (λ b. if b then SlotPart k es else SlotPart k (es ++ entry_with e r None ∷ [])) is

  session_full : is_trace_full r ≡ true → session_left e r (held k es v None) ≡ session_view v
  session_full is = ap (λ b. if b then session_view v else told_more v (slot_receipt k e r (length es))) is

-- ---- the receipt that is given

receipt_is : (k place : ℕ) (e : SlotEvent) (r : Reply) (x : Receipt) → x.part ≡ AtSlot k → x.place ≡ place → x.event ≡ OnSlot k e → x.reply ≡ r → x ≡ slot_receipt k e r place
receipt_is k place e r x part at event reply = λ i. record { part = part i; place = at i; event = event i; reply = reply i }

receipt_given : (keeps : Bool) (k : ℕ) (es : List SlotEntry) (entries : Option (List SlotEntry)) (e : SlotEvent) (r : Reply) (receipt : Option Receipt) → IsTrailOf es entries
    → IsReceipt entries (AtSlot k) (OnSlot k e) r receipt → is_some receipt ≡ keeps → receipt ≡ (if keeps then Some (slot_receipt k e r (length es)) else None)
receipt_given keeps k es entries e r None kept told given = ap (λ b. if b then Some (slot_receipt k e r (length es)) else None) given
receipt_given keeps k es None e r (Some x) kept told given = absurd (let is = told.0 in cc)
receipt_given keeps k es (Some xs) e r (Some x) kept told given =
    ap Some (receipt_is k (length es) e r x told.1 (told.2 ∙ ap length kept) told.3 told.4)
    ∙ ap (λ b. if b then Some (slot_receipt k e r (length es)) else None) given

is_kept : (entries : Option (List SlotEntry)) (k : ℕ) (e : SlotEvent) (r : Reply) (receipt : Option Receipt) → IsReceipt entries (AtSlot k) (OnSlot k e) r receipt → is_some entries ≡ true
    → is_some receipt ≡ true
is_kept entries k e r None told is = absurd (let none = ap is_some told in cc)
is_kept entries k e r (Some x) told is = refl

-- ---- the seat with an event more

-- a seat that has the slot alone has no section that is open
pub one_free : (number : ℕ) (views : List (List Held)) → views ≡ slot_view number views ∷ [] → views ≡ (free_slot (front_of views) ∷ []) ∷ []
one_free number views one = one ∙ ap (λ h. (h ∷ []) ∷ []) (sym (ap (λ vs. free_slot (front_of vs)) one))

pub seat_is : (history : TableId) (size : ℕ) (id : TableId) (views : List (List Held)) (k : ℕ) (es : List SlotEntry) (s : SlotView) → id ≡ history → s.number ≡ k
    → views ≡ (SlotPart k es ∷ []) ∷ [] → IsLocalRun size k (slot_start k) es s.mount → IsTrailOf es s.entries → IsSeatedSlot history size id views s
seat_is history size id views k es s named number is ends kept =
    subst (λ vs. IsSeatedSlot history size id vs s) (sym is) (record {
      named = named;
      one = ap (λ n. (SlotPart n es ∷ []) ∷ []) (sym number);
      ends = subst (λ n. IsLocalRun size n (slot_start n) es s.mount) (sym number) ends;
      kept = kept;
    })

-- what is kept of the trail, with the event
kept_next : (keeps : Bool) (k : ℕ) (es : List SlotEntry) (entries next : Option (List SlotEntry)) (e : SlotEvent) (r : Reply) (asked o : Option Asked) (receipt : Option Receipt) →
    IsTrailOf es entries → IsReceipt entries (AtSlot k) (OnSlot k e) r receipt → is_some receipt ≡ keeps → IsSame keeps asked o → next ≡ with_entry entries (entry_with e r asked)
    → IsTrailOf (es ++ entry_with e r o ∷ []) next
kept_next keeps k es None next e r asked o receipt kept told given same noted = subst (IsTrailOf (es ++ entry_with e r o ∷ [])) (sym noted) tt
kept_next keeps k es (Some xs) next e r asked o receipt kept told given same noted =
    let at : o ≡ asked = same_kept keeps asked o (sym given ∙ is_kept (Some xs) k e r receipt told refl) same in
    subst (IsTrailOf (es ++ entry_with e r o ∷ [])) (sym noted)
    (subst (λ (a : Option Asked). IsTrailOf (es ++ entry_with e r o ∷ []) (with_entry (Some xs) (entry_with e r a))) at (kept_more (Some xs) es (entry_with e r o) kept))

-- what an event of the slot does, whose session has its seat in w once it is over
module _ (keeps : Bool) (full : Type 0) (size : ℕ) (s t : SlotView) (es : List SlotEntry) (e : SlotEvent) (r : Reply) (asked : Option Asked)
    (receipt : Option Receipt) (v w : List Held) (entered : IsEntered keeps (held s.number es v None) asked w) (does : IsSlotEvent full size s t e r asked receipt)
    (given : is_trace_full r ≡ false → is_some receipt ≡ keeps) (kept : IsTrailOf es s.entries) where
  abbrev Room : Type 0
  Room = (has_room false s.left s.extra ≡ false) ⊎ (full × MayEnter (λ c. slot_event size s.number c s.mount e) s.mount)

  abbrev Full : Type 0
  Full = (t ≡ s) × (receipt ≡ None) × (asked ≡ None) × Room

  was_full : is_trace_full r ≡ true → Full
  was_full is = full_in (is_trace_full r) Full (IsSlotEventDone size s t e r asked receipt) is does

  was_done : is_trace_full r ≡ false → IsSlotEventDone size s t e r asked receipt
  was_done is = done_in (is_trace_full r) Full (IsSlotEventDone size s t e r asked receipt) is does

  stays : is_trace_full r ≡ true → w ≡ held s.number es v None
  stays is = subst (λ (a : Option Asked). IsEntered keeps (held s.number es v None) a w) (was_full is).2 entered

  there : (o : Option Asked) × IsSame keeps asked o × (w ≡ held s.number es v o)
  there = seen keeps s.number es v w asked entered

  abbrev o : Option Asked
  o = there.0

  same : IsSame keeps asked o
  same = there.1

  is_w : w ≡ held s.number es v o
  is_w = there.2

  went : is_trace_full r ≡ false → Went size s.number s.mount e r o t.mount
  went is = went_same keeps size s.number s.mount e r asked o t.mount same (was_done is).changes

  module _ (views : List (List Held)) (is : views ≡ (slot_left e r w ∷ []) ∷ []) where
    views_full : is_trace_full r ≡ true → views ≡ (SlotPart s.number es ∷ []) ∷ []
    views_full b = is ∙ ap (λ h. (h ∷ []) ∷ []) (ap (slot_left e r) (stays b) ∙ slot_full s.number es v e r b)

    views_done : is_trace_full r ≡ false → views ≡ (SlotPart s.number (es ++ entry_with e r o ∷ []) ∷ []) ∷ []
    views_done b = is ∙ ap (λ h. (h ∷ []) ∷ []) (ap (slot_left e r) is_w ∙ slot_done s.number es v e r o b)

    -- the slot's seat goes on
    pub seat_next : (history id : TableId) → id ≡ history → t.number ≡ s.number → IsTrue (is_slot_event s.mount e) → IsLocalRun size s.number (slot_start s.number) es s.mount
        → IsSeatedSlot history size id views t
    seat_next history id named number is_event runs = by (is_trace_full r) refl
      where
        by : (b : Bool) → is_trace_full r ≡ b → IsSeatedSlot history size id views t
        by true b =
            let was = (was_full b).0 in
            seat_is history size id views s.number es t named number (views_full b)
            (subst (λ (x : SlotView). IsLocalRun size s.number (slot_start s.number) es x.mount) (sym was) runs) (subst (λ (x : SlotView). IsTrailOf es x.entries) (sym was) kept)
        by false b =
            let done = was_done b in
            let goes = went b in
            seat_is history size id views s.number (es ++ entry_with e r o ∷ []) t named number (views_done b)
            (slot_push size s.number (slot_start s.number) es s.mount (entry_with e r o) t.mount runs (is_event, goes.0, goes.1, goes.2))
            (kept_next keeps s.number es s.entries t.entries e r asked o receipt kept done.told (given b) same done.entries)

    -- and the session was told of it
    pub event_seated : (now : List Held) → v ≡ session_view v ∷ [] → now ≡ session_left e r w ∷ []
        → IsSeatedEvent full keeps size (record { slot = s; run = es }) (record { slot = t; run = run_in views }) e r v now receipt
    event_seated now session told = by (is_trace_full r) refl
      where
        old : SeatedView
        old = record { slot = s; run = es }

        new : SeatedView
        new = record { slot = t; run = run_in views }

        by : (b : Bool) → is_trace_full r ≡ b → IsSeatedEvent full keeps size old new e r v now receipt
        by true b =
            let was = was_full b in
            full_put (is_trace_full r) ((new ≡ old) × (now ≡ v) × (receipt ≡ None) × Room) (IsSeatedDone keeps size old new e r v now receipt) b (
              (λ i. record { slot = was.0 i; run = ap run_in (views_full b) i }),
              told ∙ (ap (λ h. h ∷ []) (ap (session_left e r) (stays b) ∙ session_full s.number es v e r b) ∙ sym session),
              was.1,
              was.3,
            )
        by false b =
            done_put (is_trace_full r) ((new ≡ old) × (now ≡ v) × (receipt ≡ None) × Room) (IsSeatedDone keeps size old new e r v now receipt) b (record {
              asked = o;
              changes = went b;
              run = ap run_in (views_done b);
              told = told ∙ ap (λ h. h ∷ []) (ap (session_left e r) is_w ∙ session_done s.number es v e r o b);
              given = receipt_given keeps s.number es s.entries e r receipt kept (was_done b).told (given b);
            })

-- where the event was done

pub slot_went : (e : SlotEvent) (r : Reply) (w : List Held) → is_trace_full r ≡ false → trail_next e r (asked_in w) w ≡ slot_left e r w
slot_went e r w is = sym (ap (λ b. if b then free_slot w else trail_next e r (asked_in w) w) is)

pub session_went : (e : SlotEvent) (r : Reply) (w : List Held) → is_trace_full r ≡ false → receipts_next e r (asked_in w) w ≡ session_left e r w
session_went e r w is = sym (ap (λ b. if b then session_view w else receipts_next e r (asked_in w) w) is)

pub seated_done : (full : Type 0) (keeps : Bool) (size : ℕ) (old new : SeatedView) (e : SlotEvent) (r : Reply) (was now : List Held) (receipt : Option Receipt) → is_trace_full r ≡ false
    → IsSeatedEvent full keeps size old new e r was now receipt → IsSeatedDone keeps size old new e r was now receipt
seated_done full keeps size old new e r was now receipt is does =
    done_in (is_trace_full r)
    ((new ≡ old) × (now ≡ was) × (receipt ≡ None)
    × ((has_room false old.slot.left old.slot.extra ≡ false) ⊎ (full × MayEnter (λ c. slot_event size old.slot.number c old.slot.mount e) old.slot.mount)))
    (IsSeatedDone keeps size old new e r was now receipt) is does

pub never_true : (b : Bool) → (b ≡ true → ⊥) → b ≡ false
never_true true never = absurd (never refl)
never_true false never = refl

-- ---- where a door had room

abbrev Fulls : Type 0 → (size : ℕ) → SlotView → SlotView → SlotEvent → Option Asked → Option Receipt → Type 0
Fulls X size s t e asked receipt =
    (t ≡ s) × (receipt ≡ None) × (asked ≡ None) × ((has_room false s.left s.extra ≡ false) ⊎ (X × MayEnter (λ c. slot_event size s.number c s.mount e) s.mount))

room_as : (A B M : Type 0) (x : Bool) → (A → B) → (x ≡ false) ⊎ (A × M) → (x ≡ false) ⊎ (B × M)
room_as A B M x f (inl y) = inl y
room_as A B M x f (inr y) = inr (f y.0, y.1)

pub full_as : (A B : Type 0) → (A → B) → (size : ℕ) (s t : SlotView) (e : SlotEvent) (r : Reply) (asked : Option Asked) (receipt : Option Receipt) → IsSlotEvent A size s t e r asked receipt
    → IsSlotEvent B size s t e r asked receipt
full_as A B f size s t e r asked receipt does = by (is_trace_full r) refl
  where
    by : (b : Bool) → is_trace_full r ≡ b → IsSlotEvent B size s t e r asked receipt
    by true b =
        let was = full_in (is_trace_full r) (Fulls A size s t e asked receipt) (IsSlotEventDone size s t e r asked receipt) b does in
        full_put (is_trace_full r) (Fulls B size s t e asked receipt) (IsSlotEventDone size s t e r asked receipt) b
        (was.0, was.1, was.2, room_as A B (MayEnter (λ c. slot_event size s.number c s.mount e) s.mount) (has_room false s.left s.extra) f was.3)
    by false b =
        done_put (is_trace_full r) (Fulls B size s t e asked receipt) (IsSlotEventDone size s t e r asked receipt) b
        (done_in (is_trace_full r) (Fulls A size s t e asked receipt) (IsSlotEventDone size s t e r asked receipt) b does)

pub work_full_as : (A B : Type 0) → (A → B) → (e : SlotEvent) → full_for A e → full_for B e
work_full_as A B f slot.Umount full = full
work_full_as A B f (slot.ForkMaps parent child) full = full
work_full_as A B f (slot.ExitMaps task) full = full
work_full_as A B f other full = f full
