use Rattle.std.proofs.Common.{◌≡◌, ◌+◌, ◌<◌, ◌++◌, replicate}
use Rattle.hp_mount_door.specs.Filling.{nodes_in}
use Rattle.hp_own_pool.proofs.filling.add_claim.Given as goal

abbrev pub invariant-loop-claim : goal.invariant-loop-claim
invariant-loop-claim g l = record {
  some : 0 < l.claim.amount;
  node : l.claim.node ≡ l.initial.claim.node;
  room : l.batch.room + l.initial.claim.amount ≡ l.initial.batch.room + l.claim.amount;
  pages : (replicate l.claim.amount g.row.K ++ nodes_in l.batch.pages) ≡ (replicate l.initial.claim.amount g.row.K ++ nodes_in l.initial.batch.pages);
}

abbrev pub decreases-loop-claim : goal.decreases-loop-claim
decreases-loop-claim g l = l.claim.amount
