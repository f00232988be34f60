-- What a connect, a create and the settings of the pool change; and steps that read change nothing.
use Rattle.std.proofs.Common.{arith, ◌≡◌, ⊎_elim, ℕ, Ok, List, min, sum, sym, ap, ◌∙◌, subst}
use Rattle.std.proofs.lemmas.List.Sums.{sum-map}
use Rattle.hp_laws.proofs.Variants.{Answer, NodeRow, Pool as OnPool, Slot as OnSlot, SlotEvent, Tasks}
use Rattle.hp_model.specs.declared.event.PoolEvent.TheVariants as pool
use Rattle.hp_model.specs.declared.event.SlotEvent.TheVariants as slot
use Rattle.hp_model.specs.declared.event.TableEvent.TheVariants as table
use Rattle.hp_model.specs.declared.step.Step.TheVariants as step
use Rattle.hp_model.proofs.Words.{Answered, Choice, IsEvent, Outcome, Refused, Slot, State, pool_of, set_nr, slot_at, slot_event, with_pool, with_slot}
use Rattle.hp_laws.specs.Balance.{left_by}
use Rattle.hp_laws.proofs.sections.PoolTied.{pool_back}
use Rattle.hp_model.specs.machine.Footprint.{Changes, frames_in}
use Rattle.hp_laws.proofs.footprint.Landings.{Either, Exact, Lands, event_either, with_itself}
use Rattle.hp_laws.proofs.footprint.NodeFrames.{nodes_have, rows_have, setting}

-- ---- steps of the table, and a create

pub connect_changes : (s : State) (task home : ℕ) (a : Answer) (t : State) → IsEvent s (Tasks (table.Add task home)) (Ok a) t → Changes s (step.Connect task home) a t
connect_changes s task home a t is = grind arith

pub attach_changes : (s : State) (task : ℕ) (a : Answer) (t : State) → IsEvent s (Tasks (table.Find task)) (Ok a) t → Changes s (step.Attach task) a t
attach_changes s task a t is = grind arith

pub create_changes : (s : State) (k : ℕ) (name : List ℕ) (a : Answer) (t : State) → IsEvent s (OnSlot k (slot.Create name)) (Ok a) t → Changes s (step.Create k name) a t
create_changes s k name a t is = grind arith

-- ---- steps of the pool

pub overcommit_changes : (s : State) (n : ℕ) (a : Answer) (t : State) → IsEvent s (OnPool (pool.Overcommit n)) (Ok a) t → Changes s (step.Overcommit n) a t
overcommit_changes s n a t is = grind (arith, pool_back)

pub meminfo_changes : (s : State) (a : Answer) (t : State) → IsEvent s (OnPool pool.Meminfo) (Ok a) t → Changes s step.Meminfo a t
meminfo_changes s a t is = grind (arith, pool_back)

pub nodes_changes : (s : State) (a : Answer) (t : State) → IsEvent s (OnPool pool.Nodes) (Ok a) t → Changes s step.Nodes a t
nodes_changes s a t is = grind (arith, pool_back)

pub nr_changes : (s : State) (n : ℕ) (a : Answer) (t : State) → IsEvent s (OnPool (pool.Nr n)) (Ok a) t → Changes s (step.Nr n) a t
nr_changes s n a t is =
    let p = set_nr n (pool_of s) in
    let same : with_pool s p ≡ t = ap (λ x. x.1) is.2 in
    let target : p.nr ≡ min n (sum (frames_in s)) = ap (λ x. min n x) (sym (sum-map (λ (r : NodeRow). r.frames) (pool_of s).nodes.rows) ∙ ap sum (rows_have s 0 s.nodes)) in
    subst (λ x. Changes s (step.Nr n) a x) same
    (ap (λ nr. record (with_pool s p) { nr = nr }) target, nodes_have p.nodes.rows ∙ setting n (pool_of s) ∙ rows_have s 0 s.nodes)

-- ---- events of a slot that read

abbrev Reads : Slot → Outcome → Type 0
Reads old (Refused r) = Unit {0}
Reads old (Answered a new) = new ≡ old

stays : (s : State) (k : ℕ) (o : Outcome) → Reads (slot_at s k) o → (t : State) → t ≡ with_slot s k (left_by (slot_at s k) o) → t ≡ s
stays s k (Refused r) h t e = e ∙ with_itself s k
stays s k (Answered a new) h t e = e ∙ ap (λ x. with_slot s k x) h ∙ with_itself s k

pub read_only : (s : State) (k : ℕ) (e : SlotEvent) (a : Answer) (t : State)
    → ((c : Choice) → Either s (Reads (slot_at s k)) (λ o. ⊥) (slot_event s.page_size k c (slot_at s k) e)) → IsEvent s (OnSlot k e) (Ok a) t → t ≡ s
read_only s k e a t all is =
    ⊎_elim (λ (x : Exact (Reads (slot_at s k)) s k (Ok a) t). stays s k x.outcome x.holds t x.left) (λ (x : Lands (λ o. ⊥) s k (Ok a) t). absurd x.holds)
    (event_either (Reads (slot_at s k)) (λ o. ⊥) s k e (Ok a) t (λ c fresh. all c) is)

module _ (s : State) (k : ℕ) (a : Answer) (t : State) where
  pub read_changes : (name : List ℕ) (i offset count : ℕ) → IsEvent s (OnSlot k (slot.Read name i offset count)) (Ok a) t → t ≡ s
  read_changes name i offset count is = read_only s k (slot.Read name i offset count) a t (λ c. all c (slot_at s k)) is
    where
      all : (c : Choice) (old : Slot) → Either s (Reads old) (λ o. ⊥) (slot_event s.page_size k c old (slot.Read name i offset count))
      all c old = grind arith

  pub ls_changes : IsEvent s (OnSlot k slot.Ls) (Ok a) t → t ≡ s
  ls_changes is = read_only s k slot.Ls a t (λ c. all c (slot_at s k)) is
    where
      all : (c : Choice) (old : Slot) → Either s (Reads old) (λ o. ⊥) (slot_event s.page_size k c old slot.Ls)
      all c old = grind arith

  pub stat_changes : (name : List ℕ) → IsEvent s (OnSlot k (slot.Stat name)) (Ok a) t → t ≡ s
  stat_changes name is = read_only s k (slot.Stat name) a t (λ c. all c (slot_at s k)) is
    where
      all : (c : Choice) (old : Slot) → Either s (Reads old) (λ o. ⊥) (slot_event s.page_size k c old (slot.Stat name))
      all c old = grind arith

  pub df_changes : IsEvent s (OnSlot k slot.Df) (Ok a) t → t ≡ s
  df_changes is = read_only s k slot.Df a t (λ c. all c (slot_at s k)) is
    where
      all : (c : Choice) (old : Slot) → Either s (Reads old) (λ o. ⊥) (slot_event s.page_size k c old slot.Df)
      all c old = grind arith
