use Rattle.std.proofs.Common.{◌<◌, ◌≤◌, ◌-◌, length}
use Rattle.hp_file.proofs.fork_lists.run_end.Given as goal

abbrev pub invariant-loop-end : goal.invariant-loop-end
invariant-loop-end l = record { some : l.from < l.end; within : l.end ≤ length l.places }

abbrev pub decreases-loop-end : goal.decreases-loop-end
decreases-loop-end l = length l.places - l.end
