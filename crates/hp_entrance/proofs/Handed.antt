-- What a member is told of an event, by what its seat has then.
use Rattle.std.proofs.Common.{◌≡◌, ◌==◌, ℕ, Bool, true, false, List, [], ◌∷◌, Option, None, Some, Ok, refl, sym, ap, subst, ◌∙◌, if◌then◌else◌, MatchBool, option_map}
use Rattle.std.proofs.lemmas.Bool.{eq-eqb, false≢true}
use Rattle.hp_entrance.specs.Members.{MemberView, told_at}
use Rattle.hp_history.specs.declared.held.Held.{Held}
use Rattle.hp_history.specs.History.{looked, receipts_in}
use Rattle.hp_laws.proofs.Variants.{Done, Event, Find, Home, Receipt, Slot as OnSlot, Tasks as OnTasks}
use Rattle.hp_model.proofs.Words.{Reply, has_place, table_event, when_known}
use Rattle.hp_events.specs.Answered.{CanAnswer, IsHanded, IsToldOf}
use Rattle.hp_events.specs.Replies.{is_trace_full}
use Rattle.hp_events.specs.Event.{is_exit}
use Rattle.hp_model.specs.machine.SlotEvent.{SlotEvent}
use Rattle.hp_model.specs.declared.event.SlotEvent.TheVariants.{ExitMaps}
use Rattle.hp_shared.specs.Seated.{IsSeatedDone, IsSeatedEvent, SeatedView}

map_match : (b : Bool) (A B C D : Type 0) → (b ≡ true → A → C) → (b ≡ false → B → D) → MatchBool b A B → MatchBool b C D
map_match true A B C D f g t = f refl t
map_match false A B C D f g t = g refl t

-- an exit, which alone has its place, is done
work_place : (k : ℕ) (e : SlotEvent) (reply : Reply) → (is_exit e ≡ true → reply ≡ Ok Done) → is_trace_full reply ≡ true → has_place (OnSlot k e) ≡ false
work_place k (ExitMaps task) reply exit full = absurd (false≢true (sym (ap is_trace_full (exit refl)) ∙ full))
work_place k other reply exit full = refl

match_false : (b : Bool) (C D : Type 0) → b ≡ false → D → MatchBool b C D
match_false true C D is d = absurd (false≢true (sym is))
match_false false C D is d = d

-- what a slot did
told_done : (kept : Bool) (size : ℕ) (old new : SeatedView) (e : SlotEvent) (reply : Reply) (v w : List Held) (receipt : Option Receipt) →
    IsSeatedDone kept size old new e reply v w receipt → CanAnswer size (OnSlot old.slot.number e) reply × IsToldOf (OnSlot old.slot.number e) reply (receipts_in v) (receipts_in w)
told_done kept size old new e reply v w receipt h = (
  (old.slot.mount, h.asked, new.slot.mount, h.changes),
  (_, ap receipts_in h.told, refl),
)

-- what is asked of a slot
pub work_handed : (kept : Bool) (full : Type 0) (size : ℕ) (old new : SeatedView) (e : SlotEvent) (reply : Reply) (v w : List Held) (receipt : Option Receipt) →
    IsSeatedEvent full kept size old new e reply v w receipt → (is_trace_full reply ≡ true → kept ≡ true) → (is_exit e ≡ true → reply ≡ Ok Done) →
    IsHanded kept size (OnSlot old.slot.number e) reply (receipts_in v) (receipts_in w)
work_handed kept full size old new e reply v w receipt event keeps exit =
    map_match (is_trace_full reply) _ _ _ _
    (λ is h. (keeps is, work_place old.slot.number e reply exit is, ap receipts_in h.1))
    (λ is h. told_done kept size old new e reply v w receipt h) event

-- the same where no entries are kept
pub unnoted_handed : (kept : Bool) (size : ℕ) (old new : SeatedView) (e : SlotEvent) (reply : Reply) (v w : List Held) (receipt : Option Receipt) →
    IsSeatedDone kept size old new e reply v w receipt → is_trace_full reply ≡ false → IsHanded kept size (OnSlot old.slot.number e) reply (receipts_in v) (receipts_in w)
unnoted_handed kept size old new e reply v w receipt h is = match_false (is_trace_full reply) _ _ is (told_done kept size old new e reply v w receipt h)

when_there : (b : Bool) (task home : ℕ) → b ≡ true → option_map (λ (e : ℕ × ℕ). e.1) (if b then Some (task, home) else None) ≡ Some home
when_there true task home is = refl
when_there false task home is = absurd (false≢true is)

-- a task that is noted is found
pub finds : (task home : ℕ) → table_event 0 ((task, home) ∷ []) (Find task) ≡ (Ok (Home home), (task, home) ∷ [])
finds task home = ap (λ (o : Option ℕ). when_known ((task, home) ∷ []) o (λ at. (Ok (Home at), (task, home) ∷ []))) (when_there (task == task) task home (eq-eqb task task refl))

-- a task's home that was read in a word
pub looked_told : (kept : Bool) (size task home : ℕ) (v w : List Held) → w ≡ looked task (Some home) v →
    IsHanded kept size (OnTasks (Find task)) (Ok (Home home)) (receipts_in v) (receipts_in w)
looked_told kept size task home v w is = (
  (0, (task, home) ∷ [], (task, home) ∷ [], finds task home),
  (_, ap receipts_in is, refl),
)

-- the same of the lists that these are
pub handed_as : (kept : Bool) (size : ℕ) (e : Event) (reply : Reply) (was was' now now' : List Receipt) → was ≡ was' → now ≡ now' →
    IsHanded kept size e reply was' now' → IsHanded kept size e reply was now
handed_as kept size e reply was was' now now' a b h =
    subst (λ x. IsHanded kept size e reply x now) (sym a) (subst (λ y. IsHanded kept size e reply was' y) (sym b) h)

-- what the seat had that was taken out of the member
pub told_before : (m : MemberView) (was now : List (List Held)) (v : List Held) → m.receipts ≡ told_at was → now ≡ was → now ≡ v ∷ [] → m.receipts ≡ receipts_in v
told_before m was now v a b c = a ∙ ap told_at (sym b ∙ c)
