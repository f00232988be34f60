use Rattle.std.proofs.Common.{◌≡◌, [], length}
use Rattle.hp_own_pool.proofs.Returning.{AreCounted}
use Rattle.hp_locked.proofs.nodes.NodeLocks.gather.Given as goal

abbrev pub invariant-loop-page : goal.invariant-loop-page
invariant-loop-page g l = AreCounted l.fn.going.going l.going.going l.parcel × (record l.going { going = [] } ≡ record l.fn.going { going = [] }) × (l.turn.held ≡ l.fn.turn.held)

abbrev pub decreases-loop-page : goal.decreases-loop-page
decreases-loop-page g l = length l.going.going
