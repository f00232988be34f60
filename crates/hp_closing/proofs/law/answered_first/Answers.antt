use Rattle.hp_closing.proofs.Time.{answered_first}
use Rattle.hp_closing.proofs.law.answered_first.Goals as goal

pub returns : goal.returns
returns c = answered_first c.calls_stand_in_time.ensures
