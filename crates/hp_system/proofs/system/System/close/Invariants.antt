use Rattle.std.proofs.Common.{vec_len}
use Rattle.hp_system.proofs.Ending.{IsGoing}
use Rattle.hp_system.proofs.system.System.close.Given as goal

abbrev pub invariant-loop-slot : goal.invariant-loop-slot
invariant-loop-slot g l = IsGoing l.initial.slots.items l.initial.pool l.slots.items l.pool

abbrev pub decreases-loop-slot : goal.decreases-loop-slot
decreases-loop-slot g l = vec_len l.slots
