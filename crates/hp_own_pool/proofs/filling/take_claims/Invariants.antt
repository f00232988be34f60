use Rattle.std.proofs.Common.{◌-◌, ◌≤◌}
use Rattle.hp_model.proofs.Words.{IsSettled}
use Rattle.hp_own_pool.proofs.Takings.{AreTaken}
use Rattle.hp_own_pool.proofs.filling.take_claims.Given as goal

abbrev pub invariant-loop-done : goal.invariant-loop-done
invariant-loop-done g l = record {
  within : l.done ≤ l.count;
  taken : AreTaken l.initial.pool l.pool l.initial.share l.share l.done l.parcel;
  settled : IsSettled l.initial.pool → IsSettled l.pool;
}

abbrev pub decreases-loop-done : goal.decreases-loop-done
decreases-loop-done g l = l.count - l.done
