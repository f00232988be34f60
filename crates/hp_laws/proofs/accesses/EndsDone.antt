-- A fault is refused, or answered that it is done.
use Rattle.std.proofs.Common.{arith, ℕ, Some}
use Rattle.hp_laws.proofs.Variants.{Done, Intent, Refusal}
use Rattle.hp_model.proofs.Words.{Answered, Choice, Mount, Outcome, Refused, Spot, fault}
use Rattle.hp_laws.proofs.steps.Outcomes.{Always}

-- what holds of all refusals, and of `Done` with any mount
module _ (Q : Outcome → Type 0) (stops : (r : Refusal) → Q (Refused r)) (done : (n : Mount) → Q (Answered Done (Some n))) where
  module _ (c : Choice) (size : ℕ) (m : Mount) (s : Spot) (home i : ℕ) where
    pub fault_done : (intent : Intent) → Always Q (fault c size m home i intent s)
    fault_done intent = grind arith
