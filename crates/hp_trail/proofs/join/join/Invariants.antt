use Rattle.std.proofs.Common.{◌<◌, ℕ, Contains}
use Rattle.hp_trail.proofs.join.join.Given as goal

abbrev pub invariant-loop-session : goal.invariant-loop-session
invariant-loop-session l = (s : ℕ) → s < l.session → Contains l.work.items s
