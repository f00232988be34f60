use Rattle.std.proofs.Common.{◌+◌, ◌*◌, length}
use Rattle.hp_trail.specs.Walk.{cursor_at, receipts_left}
use Rattle.hp_trail.proofs.Joining.{IsJoining}
use Rattle.hp_trail.proofs.join.pass_all.Given as goal

abbrev pub invariant-loop-session : goal.invariant-loop-session
invariant-loop-session l = IsJoining l.fn.walk.trails l.fn.walk.receipts l.walk l.order.items l.work.items

abbrev pub decreases-loop-session : goal.decreases-loop-session
decreases-loop-session l = length l.work.items + 3 * receipts_left l.fn.walk.receipts (cursor_at l.walk.cursors.sessions)
