-- What a remount of an open slot answers and leaves, at the pool that stands.
use Rattle.std.proofs.Common.{arith, ◌≡◌, subst, ℕ, ◌-◌, ◌==◌, false, Some, Result as ResultOf, Ok, List, sym, if◌then◌else◌, slice_set}
use Rattle.std.proofs.lemmas.Grind.{common_steps}
use Rattle.hp_laws.proofs.Variants.{Limits, PoolAnswer, Refusal, Slot as OnSlot, SlotTaken}
use Rattle.hp_model.specs.declared.event.SlotEvent.TheVariants as slot
use Rattle.hp_model.proofs.Words.{IsEvent, Mount, Outcome, Pool, Refused, Reply, State, can_grant, committed_of, committed_with, limits, planned, pool_of, remount_outcome, remount_section, section}
use Rattle.hp_model.proofs.Words.{slot_at, wanted_of, with_outcome, with_pool}
use Rattle.hp_laws.specs.Balance.{left_by}
use Rattle.hp_laws.proofs.steps.Outcomes.{reply_of}
use Rattle.hp_laws.proofs.steps.SlotsBalanced.{remount_tells}
use Rattle.hp_laws.proofs.steps.Walk.{remounting}

-- the reply is that of the outcome, and so is the slot that is left
pub record EndsIn (s : State) (k : ℕ) (o : Outcome) (reply : Reply) (t : State) : Type 0 where
  pub replied : reply ≡ reply_of o
  pub slots : t.slots ≡ slice_set s.slots k (left_by (slot_at s k) o)

settled_ends : (u : State) (k : ℕ) (o : Outcome) → EndsIn u k o (with_outcome u k o).0 (with_outcome u k o).1
settled_ends u k o = grind (arith, common_steps)

module _ (s : State) (k : ℕ) (options : List ℕ) (m : Mount) where
  abbrev pub wanted : ResultOf Limits Refusal
  wanted = limits s.nr s.page_size (wanted_of options)

  -- what the pool answers
  abbrev pub remount_told : PoolAnswer
  remount_told = (section (pool_of s) (remount_section m wanted)).0

  abbrev pub remount_left : Outcome
  remount_left = if k == 0 then Refused SlotTaken else remount_outcome m remount_told wanted

  open_ends : EndsIn s k (remount_outcome m remount_told wanted) (planned s k (remounting s.page_size m options)).0 (planned s k (remounting s.page_size m options)).1
  open_ends =
      let q : PoolAnswer × Pool = section (pool_of s) (remount_section m wanted) in
      let u : State = with_pool s q.1 in
      let ends = λ (nr : ℕ). remount_outcome m q.0 (limits nr s.page_size (wanted_of options)) in
      let nr : q.0.nr ≡ s.nr = remount_tells (pool_of s) m wanted in
      let at = settled_ends u k (ends s.nr) in
      subst (λ n. EndsIn s k (ends s.nr) (with_outcome u k (ends n)).0 (with_outcome u k (ends n)).1) (sym nr) (record { replied = at.replied; slots = at.slots })

  pub remount_ends : slot_at s k ≡ Some m → (reply : Reply) (t : State) → IsEvent s (OnSlot k (slot.Remount options)) reply t → EndsIn s k remount_left reply t
  remount_ends there reply t is = grind (arith, common_steps, remounting, settled_ends, open_ends)

  -- it grants what the pool can commit; and giving back is never refused
  pub told_granted : (l : Limits) → wanted ≡ Ok l → remount_told.granted ≡ false → can_grant (committed_with m l.min - committed_of m) (pool_of s) ≡ false
  told_granted l is = grind arith
