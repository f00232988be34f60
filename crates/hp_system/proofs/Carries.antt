-- From what an event did to a slot and the pool to what it did to the machine, and to what holds after it.
use Rattle.std.proofs.Common.{◌≡◌, ℕ, ◌<◌, false, List, Err, Ok, None, length, refl, sym, ◌∙◌, ap, subst, arith, IsTrue, nat_lt, slice_index_or, slice_set}
use Rattle.std.proofs.lemmas.Bool.Decides.{nat_tests}
use Rattle.std.proofs.lemmas.List.{set-get_or}
use Rattle.hp_laws.proofs.Variants.{Pool as OnPool, PoolEvent, Slot as OnSlot, SlotEvent}
use Rattle.hp_model.specs.declared.refusal.Refusal.TheVariants as refusal
use Rattle.hp_model.proofs.Words.{Answered, Ask, CanHappen, Choice, Finish, Gives, IsEvent, IsFresh, IsReadyMachine, IsSettledState, Machine, Outcome, Plan, Pool, Refused, Reply, Slot, State, Table}
use Rattle.hp_model.proofs.Words.{ThroughDoor, after, asked_pool, is_slot_event, machine_of, planned, pool_event, pool_of, section, slot_event, state_of, with_outcome, with_pool}
use Rattle.hp_laws.specs.Laws.{pool_after}
use Rattle.hp_laws.proofs.settled.StaysSettled.{pool_is_tied, event_settled}
use Rattle.hp_laws.proofs.steps.Tells.{Tells, slot_event_tells}
use Rattle.hp_mount_laws.specs.Done.{Tried}
use Rattle.hp_events.specs.Event.{full_for, is_of_maps}
use Rattle.hp_model.specs.declared.event.SlotEvent.TheVariants as slot
use Rattle.hp_mount_door.specs.Door.{IsReady as IsReadyPool}
use Rattle.hp_system.specs.Event.{IsCarried, took}
use Rattle.hp_system.specs.Sized.{IsSized}
use Rattle.hp_system.proofs.Ready.{ready_pool}

abbrev pub calm : Choice
calm = record { stamp = 0; refused = false; after_grant = false }

-- what holds between steps of the parts of a machine
pub record IsKept (page_size bytes : ℕ) (table : Table) (slots : List Slot) (p : Pool) : Type 0 where
  pub size : page_size ≡ bytes
  pub some : 0 < page_size
  pub tied : pool_of (state_of page_size table slots p) ≡ p
  pub settled : IsSettledState (state_of page_size table slots p)

pub kept_by : {size bytes : ℕ} {t : Table} {xs : List Slot} {p : Pool} (m : Machine) → IsSized size bytes → machine_of size t xs p ≡ m → IsReadyMachine m → IsKept size bytes t xs p
kept_by m sized is r =
    let h = subst IsReadyMachine (sym is) r in
    record { size = sized.size; some = sized.some; tied = h.tied; settled = h.settled }

pub ready_by : {size bytes : ℕ} {t : Table} {xs : List Slot} {p : Pool} → IsKept size bytes t xs p → IsReadyMachine (machine_of size t xs p)
ready_by kept = record { tied = kept.tied; settled = kept.settled }

-- the slot of number k
abbrev pub slot_in : List Slot → ℕ → Slot
slot_in xs k = slice_index_or xs k None

-- the pool has always room to note a section
pub never_full : (plan : Choice → Plan) (old new : Slot) (p q : Pool) (reply : Reply)
    → Tried took (λ d. ⊥) plan old p reply new q → (c : Choice) × IsFresh c old × ThroughDoor took (plan c) old p reply new q
never_full plan old new p q (Ok a) h = h
never_full plan old new p q (Err refusal.TraceFull) h = absurd h.1.1
never_full plan old new p q (Err other) h = h

never_full_for : (e : SlotEvent) → full_for ⊥ e → ⊥
never_full_for slot.Umount full = full
never_full_for (slot.ForkMaps parent child) full = full
never_full_for (slot.ExitMaps task) full = full
never_full_for other full = full

-- nor has it none for any event
pub never_full_at : (e : SlotEvent) (plan : Choice → Plan) (old new : Slot) (p q : Pool) (reply : Reply)
    → Tried took (λ d. full_for ⊥ e) plan old p reply new q → Tried took (λ d. ⊥) plan old p reply new q
never_full_at e plan old new p q (Ok a) h = h
never_full_at e plan old new p q (Err refusal.TraceFull) h = absurd (never_full_for e h.1.1)
never_full_at e plan old new p q (Err other) h = h

module _ (size : ℕ) (t : Table) (xs : List Slot) (k : ℕ) (p : Pool) (tied : pool_of (state_of size t xs p) ≡ p) (old new : Slot) (here : slot_in xs k ≡ old) where
  abbrev before : State
  before = state_of size t xs p

  abbrev left : Pool → State
  left q = state_of size t (slice_set xs k new) q

  outcome_is : (o : Outcome) (reply : Reply) (q : Pool) → Gives o old reply new → with_outcome (state_of size t xs q) k o ≡ (reply, left q)
  outcome_is (Refused r) reply q h =
      ap (λ ys. (Err r, state_of size t ys q)) (sym (set-get_or xs k None)) ∙ ap (λ y. (Err r, state_of size t (slice_set xs k y) q)) (here ∙ sym h.1)
      ∙ ap (λ x. (x, left q)) (sym h.0)
  outcome_is (Answered a slot) reply q h = ap (λ y. (Ok a, state_of size t (slice_set xs k y) q)) (sym h.1) ∙ ap (λ x. (x, left q)) (sym h.0)

  -- a plan that was carried out on the slot and the pool is carried out on the machine, and the pool is left so
  pub plan_is : (plan : Plan) (reply : Reply) (q : Pool) → Tells plan → ThroughDoor took plan old p reply new q
      → (planned before k plan ≡ (reply, left q)) × (pool_after before plan ≡ q)
  plan_is (Finish o) reply q tells h = (outcome_is o reply p h.0 ∙ ap (λ x. (reply, left x)) (sym h.1), tied ∙ sym h.1)
  plan_is (Ask s f) reply q tells h =
      let entered : section (pool_of before) (s p.nr) ≡ (h.0, q) =
      ap (λ x. section x (s p.nr)) tied ∙ ap (λ x. section p x) (tells p h.0 q h.1) ∙ h.1 in
      (ap (λ x. asked_pool before k x f) entered ∙ outcome_is (f h.0) reply q h.2, ap (λ x. x.1) entered)

module _ (size bytes : ℕ) (t : Table) where
  -- an event of a slot: what it did to the machine, and that the machine is kept
  module _ (xs : List Slot) (k : ℕ) (old new : Slot) (p q : Pool) (e : SlotEvent) (reply : Reply) (kept : IsKept size bytes t xs p) (within : k < length xs)
      (here : slot_in xs k ≡ old) (happens : IsTrue (is_slot_event old e)) (h : IsCarried size k p old e reply new q) where
    abbrev was : State
    was = state_of size t xs p

    abbrev is_now : State
    is_now = state_of size t (slice_set xs k new) q

    abbrev plan : Plan
    plan = slot_event size k h.0 (slot_in xs k) e

    went : (planned was k plan ≡ (reply, is_now)) × (pool_after was plan ≡ q)
    went =
        plan_is size t xs k p kept.tied old new here plan reply q (slot_event_tells size k h.0 (slot_in xs k) e)
        (subst (λ y. ThroughDoor took (slot_event size k h.0 y e) old p reply new q) (sym here) h.2)

    can_happen : CanHappen h.0 was (OnSlot k e)
    can_happen =
        let there : IsTrue (nat_lt k (length xs)) = grind (arith, nat_tests, within) in
        (there, subst (λ y. IsTrue (is_slot_event y e)) (sym here) happens, subst (λ y. IsFresh h.0 y) (sym here) h.1)

    pub event_done : IsEvent was (OnSlot k e) reply is_now
    event_done = (h.0, can_happen, went.0)

    pub kept_after : IsKept size bytes t (slice_set xs k new) q
    kept_after =
        let law = pool_is_tied h.0 was (OnSlot k e) can_happen kept.settled in
        record {
          size = kept.size;
          some = kept.some;
          tied = ap (λ (x : Reply × State). pool_of x.1) (sym went.0) ∙ law.0 ∙ went.1;
          settled = event_settled was (OnSlot k e) reply is_now kept.settled event_done;
        }

  -- an event of the pool keeps it
  pub kept_by_pool : (xs : List Slot) (p q : Pool) (e : PoolEvent) (reply : Reply) → IsKept size bytes t xs p → pool_event p e ≡ (reply, q) → IsKept size bytes t xs q
  kept_by_pool xs p q e reply kept h =
      let s : State = state_of size t xs p in
      let law = pool_is_tied calm s (OnPool e) tt kept.settled in
      let left : (pool_event (pool_of s) e).1 ≡ q = ap (λ x. (pool_event x e).1) kept.tied ∙ ap (λ (x : Reply × Pool). x.1) h in
      let same : (after calm s (OnPool e)).1 ≡ state_of size t xs q = ap (with_pool s) left in
      record {
        size = kept.size;
        some = kept.some;
        tied = ap pool_of (sym same) ∙ law.0 ∙ left;
        settled = subst IsSettledState same law.1;
      }

  -- the pool is ready for a section
  pub ready : (xs : List Slot) (p : Pool) → IsKept size bytes t xs p → IsReadyPool p
  ready xs p kept = ready_pool (machine_of size t xs p) (ready_by kept)

-- ---- what a step asks of a slot

-- what goes by no task's maps is an event of any slot
pub happens : (e : SlotEvent) (s : Slot) → is_of_maps e ≡ false → IsTrue (is_slot_event s e)
happens (slot.ForkMaps parent child) s plain = cc
happens (slot.ExitMaps task) s plain = cc
happens other s plain = refl
