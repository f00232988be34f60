-- All threads of a run keep the order.
use Rattle.std.proofs.Common.{◌==◌, ℕ, true, false, refl}
use Rattle.std.specs.Prelude.{if◌then◌else◌}
use Rattle.hp_order.specs.Waiting.{Thread, IsOrdered}
use Rattle.hp_order.specs.Running.{Does, asks, tries, lets, rests, takes, wakes, Reached, start, step, NoRunHasCycle, EachRunGoesOn}
use Rattle.hp_order.proofs.Cycles.{no_cycle, ends_at_work}

one_ordered : (rank : ℕ → ℕ) (threads : ℕ → Thread) (i : ℕ) (t : Thread) → Does rank threads i t → IsOrdered rank t
one_ordered rank threads i t (asks l at below) = below
one_ordered rank threads i t (tries l at below free) = tt
one_ordered rank threads i t (lets l rest at is) = tt
one_ordered rank threads i t (rests at none) = refl
one_ordered rank threads i t (takes l at free) = tt
one_ordered rank threads i t (wakes at) = tt

pub all_ordered : (rank : ℕ → ℕ) (threads : ℕ → Thread) → Reached rank threads → (j : ℕ) → IsOrdered rank (threads j)
all_ordered rank threads start j = tt
all_ordered rank threads (step {threads = before} i t run does) j =
    elim (j == i) as (λ b. IsOrdered rank (if b then t else before j)) [
      | true ↦ one_ordered rank before i t does
      | false ↦ all_ordered rank before run j
    ]

pub no_run : NoRunHasCycle
no_run rank threads run = no_cycle rank threads (all_ordered rank threads run)

pub each_run : EachRunGoesOn
each_run rank most threads bound run = ends_at_work rank most threads bound (all_ordered rank threads run)
