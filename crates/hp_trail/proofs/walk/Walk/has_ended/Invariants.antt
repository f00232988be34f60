use Rattle.std.proofs.Common.{◌<◌, ◌≤◌, ℕ, length}
use Rattle.hp_trail.specs.Walk.{cursor_at, session}
use Rattle.hp_trail.proofs.walk.Walk.has_ended.Given as goal

abbrev pub invariant-loop-session : goal.invariant-loop-session
invariant-loop-session l = (s : ℕ) → s < l.session → length (session l.self.receipts s) ≤ cursor_at l.self.cursors.sessions s
