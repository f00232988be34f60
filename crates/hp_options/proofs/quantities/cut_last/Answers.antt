use Rattle.hp_options.proofs.Lasts.{last_is}
use Rattle.hp_options.proofs.quantities.cut_last.Goals as goal

pub returns-in-len1-up-clause-last : goal.returns-in-len1-up-clause-last
returns-in-len1-up-clause-last c = last_is c.args.text.now
