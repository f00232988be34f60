-- What a session leaves.
use Rattle.std.specs.Prelude.{◌≡◌}
use Rattle.hp_sessions.specs.Calls.{SessionView}
use Rattle.hp_shared.specs.Ended.{FinishedView}

-- its number, what it was told, and what it saw of the order of all events
pub record HasLeft (session : SessionView) (left : FinishedView) : Type 0 where
  pub number : left.number ≡ session.clock.number
  pub receipts : left.receipts ≡ session.receipts
  pub seen : left.seen ≡ session.clock.seen
