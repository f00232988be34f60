-- A fork, slot after slot, and its undoing.
use Rattle.std.proofs.Common.{◌≡◌, ℕ, zero, suc, ◌+◌, ◌<◌, ◌≤◌, Bool, true, false, cond, List, [], ◌∷◌, ◌++◌, Err, Ok, Some, None, length, refl, sym, ap, subst, ◌∙◌, arith, MatchBool, Result, filter}
use Rattle.std.proofs.Common.{slice_index_or, slice_set}
use Rattle.std.specs.List.{range_with_len}
use Rattle.std.proofs.lemmas.List.{get_or-set_other, get_or-set_same}
use Rattle.std.proofs.lemmas.List.Elements.{filter-append}
use Rattle.hp_laws.proofs.Variants.{Answer, Done, Fork, ForkMaps, Refusal, Slot as OnSlot, SlotEvent, Tasks}
use Rattle.hp_model.specs.declared.event.TableEvent.TheVariants as table
use Rattle.hp_model.proofs.Words.{Answered, Ask, Choice, Do, Finish, IsEvent, IsScript, IsSettledState, IsStep, Outcome, Plan, Refused, Reply, Script, Slot, State, fork_slots, fork_tests, forked}
use Rattle.hp_model.proofs.Words.{done_reply, gives, has_maps_of, or_undone, slot_at, slot_event, undone}
use Rattle.hp_laws.specs.Balance.{Always, left_by}
use Rattle.hp_laws.proofs.steps.Outcomes.{event_ends, reply_of}
use Rattle.hp_laws.proofs.promises.Parents.{parent_stays}
use Rattle.hp_laws.proofs.steps.RefusalsKeep.{refusals_change_nothing}
use Rattle.hp_laws.proofs.accesses.SlotShows.{always_gives, always_unless}
use Rattle.hp_system.specs.Event.{AreExited, AreForked, IsForkedOn, mapped_slots}
use Rattle.hp_system.proofs.MachineSteps.{first_more}

-- ---- one event on a slot leaves the others

always_any : (p : Plan) → Always (λ o. Unit {0}) p
always_any (Finish o) = tt
always_any (Ask s f) = λ a. tt

pub event_others : (s t : State) (k : ℕ) (e : SlotEvent) (reply : Reply) → IsEvent s (OnSlot k e) reply t → (j : ℕ) → (j ≡ k → ⊥) → slot_at t j ≡ slot_at s j
event_others s t k e reply is j other =
    let ends = event_ends (λ o. Unit {0}) s k e reply t (λ c. always_any (slot_event s.page_size k c (slot_at s k) e)) is in
    ap (λ (xs : List Slot). slice_index_or xs j None) ends.slots ∙ get_or-set_other s.slots k j (left_by (slot_at s k) ends.outcome) None other

-- ---- the slots where a task has maps

module _ (task : ℕ) where
  test_same : (s t : State) (a n : ℕ) → ((j : ℕ) → a ≤ j → j < a + n → slot_at t j ≡ slot_at s j)
      → filter (λ k. has_maps_of task (slot_at t k)) (range_with_len a n) ≡ filter (λ k. has_maps_of task (slot_at s k)) (range_with_len a n)
  test_same s t a zero same = refl
  test_same s t a (suc n) same =
      let rest = test_same s t (a + 1) n (λ j low high. same j (omega (arith, low)) (omega (arith, high))) in
      ap (λ x. cond (has_maps_of task x) (a ∷ filter (λ k. has_maps_of task (slot_at t k)) (range_with_len (a + 1) n))
      (filter (λ k. has_maps_of task (slot_at t k)) (range_with_len (a + 1) n))) (same a (omega arith) (omega arith))
      ∙ ap (λ ks. cond (has_maps_of task (slot_at s a)) (a ∷ ks) ks) rest

  -- the slots below n are the same
  pub slots_same : (s t : State) (n : ℕ) → ((j : ℕ) → j < n → slot_at t j ≡ slot_at s j) → mapped_slots t n task ≡ mapped_slots s n task
  slots_same s t n same = test_same s t 0 n (λ j low high. same j (omega (arith, high)))

  one_more : (s : State) (n : ℕ) (b : Bool) → has_maps_of task (slot_at s n) ≡ b → mapped_slots s (n + 1) task ≡ mapped_slots s n task ++ cond b (n ∷ []) []
  one_more s n b is =
      let test : ℕ → Bool = λ k. has_maps_of task (slot_at s k) in
      ap (filter test) (first_more n) ∙ filter-append test (range_with_len 0 n) (n ∷ []) ∙ ap (λ c. mapped_slots s n task ++ cond c (n ∷ []) []) is

  pub more_mapped : (s : State) (n : ℕ) → has_maps_of task (slot_at s n) ≡ true → mapped_slots s (n + 1) task ≡ mapped_slots s n task ++ n ∷ []
  more_mapped s n is = one_more s n true is

  pub more_other : (s : State) (n : ℕ) → has_maps_of task (slot_at s n) ≡ false → mapped_slots s (n + 1) task ≡ mapped_slots s n task
  more_other s n is = one_more s n false is ∙ nothing_more (mapped_slots s n task)
    where
      nothing_more : (xs : List ℕ) → xs ++ [] ≡ xs
      nothing_more [] = refl
      nothing_more (x ∷ xs) = ap (λ ys. x ∷ ys) (nothing_more xs)

-- ---- a fork of one slot

-- a slot where the parent has no map
abbrev Stays : Reply → State → State → Type 0
Stays reply s t = (reply ≡ Ok Done) × (t ≡ s)

module _ (parent child : ℕ) (apart : parent ≡ child → ⊥) where
  -- the parent has its maps still
  abbrev Becomes : Slot → Outcome → Type 0
  Becomes old (Refused r) = Unit {0}
  Becomes old (Answered a new) = has_maps_of parent new ≡ has_maps_of parent old

  becomes : (size k : ℕ) (c : Choice) (old : Slot) → Always (Becomes old) (slot_event size k c old (ForkMaps parent child))
  becomes size k c None = tt
  becomes size k c (Some m) =
      always_unless (Becomes (Some m)) (λ r. tt) (fork_tests c m parent child) (gives Done (Some m) (Some (forked parent child m)))
      (always_gives (Becomes (Some m)) Done (Some m) (Some (forked parent child m)) (parent_stays parent child apart m))

  pub parent_has : (s t : State) (k : ℕ) (a : Answer) → k < length s.slots → IsEvent s (OnSlot k (ForkMaps parent child)) (Ok a) t → has_maps_of parent (slot_at t k) ≡ has_maps_of parent (slot_at s k)
  parent_has s t k a within is =
      let ends = event_ends (Becomes (slot_at s k)) s k (ForkMaps parent child) (Ok a) t (λ c. becomes s.page_size k c (slot_at s k)) is in
      by_outcome ends.outcome ends.holds ends.replied ends.slots
    where
      by_outcome : (o : Outcome) → Becomes (slot_at s k) o → Ok a ≡ reply_of o → t.slots ≡ slice_set s.slots k (left_by (slot_at s k) o) →
          has_maps_of parent (slot_at t k) ≡ has_maps_of parent (slot_at s k)
      by_outcome (Refused r) h replied slots = cc
      by_outcome (Answered x new) h replied slots = ap (has_maps_of parent) (ap (λ (xs : List Slot). slice_index_or xs k None) slots ∙ get_or-set_same s.slots k new None within) ∙ h

  -- one slot more of a fork, as the rest of its script sees it
  abbrev rest_at : State → (at n : ℕ) → Script
  rest_at s at n = fork_slots (range_with_len at n) (mapped_slots s at parent) parent child

  pub next_slot : (s t : State) (at n : ℕ) → at < length s.slots → IsForkedOn s at parent child (Ok tt) t → (reply : Reply) (u : State)
      → IsScript t (rest_at t (at + 1) n) reply u → IsScript s (rest_at s at (suc n)) reply u
  next_slot s t at n within is reply u go = by_maps (has_maps_of parent (slot_at s at)) refl is
    where
      ks : List ℕ
      ks = range_with_len (at + 1) n

      done : List ℕ
      done = mapped_slots s at parent

      by_maps : (b : Bool) → has_maps_of parent (slot_at s at) ≡ b → MatchBool b (IsEvent s (OnSlot at (ForkMaps parent child)) (Ok Done) t) (Stays (Ok Done) s t)
          → MatchBool b (IsScript s (Do (OnSlot at (ForkMaps parent child)) (λ r. or_undone done child r (fork_slots ks (done ++ at ∷ []) parent child))) reply u)
          (IsScript s (fork_slots ks done parent child) reply u)
      by_maps true some event =
          let has = parent_has s t at Done within event ∙ some in
          let below = slots_same parent s t at (λ j l. event_others s t at (ForkMaps parent child) (Ok Done) event j (λ e. omega (arith, l, e))) in
          let slots = more_mapped parent t at has ∙ ap (λ xs. xs ++ at ∷ []) below in
          (Ok Done, t, event, subst (λ xs. IsScript t (fork_slots ks xs parent child) reply u) slots go)
      by_maps false none same =
          let slots = more_other parent t at (ap (λ (x : State). has_maps_of parent (slot_at x at)) same.1 ∙ none) ∙ ap (λ (x : State). mapped_slots x at parent) same.1 in
          subst (λ x. IsScript x (fork_slots ks done parent child) reply u) same.1 (subst (λ xs. IsScript t (fork_slots ks xs parent child) reply u) slots go)

  -- a slot that is refused: what was done is undone
  pub slot_refused : (s mid t : State) (at n : ℕ) (r : Refusal) → IsSettledState s → IsForkedOn s at parent child (Err r) mid → AreExited mid (mapped_slots mid at parent) child t
      → (reply : Reply) (u : State) → IsScript t (undone [] child r) reply u → IsScript s (rest_at s at (suc n)) reply u
  slot_refused s mid t at n r settled is exited reply u go = by_maps (has_maps_of parent (slot_at s at)) refl is
    where
      ks : List ℕ
      ks = range_with_len (at + 1) n

      done : List ℕ
      done = mapped_slots s at parent

      by_maps : (b : Bool) → has_maps_of parent (slot_at s at) ≡ b → MatchBool b (IsEvent s (OnSlot at (ForkMaps parent child)) (Err r) mid) (Stays (Err r) s mid)
          → MatchBool b (IsScript s (Do (OnSlot at (ForkMaps parent child)) (λ r. or_undone done child r (fork_slots ks (done ++ at ∷ []) parent child))) reply u)
          (IsScript s (fork_slots ks done parent child) reply u)
      by_maps true some event =
          let same : mid ≡ s = refusals_change_nothing s (OnSlot at (ForkMaps parent child)) r mid settled event in
          let slots = ap (λ (x : State). mapped_slots x at parent) same in
          (Err r, mid, event, subst (λ xs. IsScript mid (undone xs child r) reply u) slots (exited (undone [] child r) reply u go))
      by_maps false none same = absurd (not_ok same.0)
        where
          not_ok : {x : Refusal} {a : Answer} → Err x ≡ Ok a → ⊥
          not_ok e = cc

-- a slot that its event was done on
pub slot_forked : (s t : State) (k parent child : ℕ) (result : Result (Unit {0}) Refusal) → has_maps_of parent (slot_at s k) ≡ true →
    IsEvent s (OnSlot k (ForkMaps parent child)) (done_reply result) t → IsForkedOn s k parent child result t
slot_forked s t k parent child result some event =
    subst (λ b. MatchBool b (IsEvent s (OnSlot k (ForkMaps parent child)) (done_reply result) t) (Stays (done_reply result) s t)) (sym some) event

-- ---- the step

pub fork_refused : (s t : State) (parent child : ℕ) (r : Refusal) → IsEvent s (Tasks (table.FindAndAdd parent child)) (Err r) t → IsStep s (Fork parent child) (Err r) t
unfolding IsStep
fork_refused s t parent child r h = (Err r, t, h, (refl, refl))

pub fork_done : (s mid t : State) (parent child : ℕ) (a : Answer) → IsEvent s (Tasks (table.FindAndAdd parent child)) (Ok a) mid → length mid.slots ≡ length s.slots
    → AreForked mid parent child (Ok tt) t → IsStep s (Fork parent child) (Ok Done) t
unfolding IsStep
fork_done s mid t parent child a h same made =
    (Ok a, mid, h, subst (λ n. IsScript mid (fork_slots (range_with_len 0 n) [] parent child) (Ok Done) t) same made)

pub fork_undone : (s mid t u : State) (parent child : ℕ) (a : Answer) (r : Refusal) (reply : Reply) → IsEvent s (Tasks (table.FindAndAdd parent child)) (Ok a) mid → length mid.slots ≡ length s.slots
    → AreForked mid parent child (Err r) t → IsEvent t (Tasks (table.Remove child)) reply u → IsStep s (Fork parent child) (Err r) u
unfolding IsStep
fork_undone s mid t u parent child a r reply h same made gone =
    (Ok a, mid, h, subst (λ n. IsScript mid (fork_slots (range_with_len 0 n) [] parent child) (Err r) u) same (made (Err r) u (reply, u, gone, (refl, refl))))
