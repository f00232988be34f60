use Rattle.hp_options.proofs.Percents.{percent_split}
use Rattle.hp_options.proofs.amounts.percent_pages.Goals as goal

pub returns : goal.returns
returns c = percent_split c.args.nr c.args.percent
