use Rattle.std.proofs.Common.{◌≡◌, map, take}
use Rattle.hp_trail.specs.Tellers.{blank}
use Rattle.hp_trail.specs.Walk.{lists}
use Rattle.hp_trail.proofs.tellers.Tellers.none.Given as goal

abbrev pub invariant-loop-trail : goal.invariant-loop-trail
invariant-loop-trail l = lists l.rows.items ≡ map blank (take l.trail-index (lists l.slots))
