use Rattle.hp_laws.proofs.follows.Follows.{follows}
use Rattle.hp_laws.proofs.what_follows.Goals as goal

pub returns : goal.returns
returns c = follows
