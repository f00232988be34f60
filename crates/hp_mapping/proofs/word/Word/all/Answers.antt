use Rattle.hp_mapping.proofs.FilledWords.{ones_blank, ones_marked}
use Rattle.hp_mapping.proofs.word.Word.all.Goals as goal

pub returns-clause-marked : goal.returns-clause-marked
returns-clause-marked c = rw c.bits_below.ensures (ones_marked c.args.count c.requires)

pub returns-clause-blank : goal.returns-clause-blank
returns-clause-blank c = rw c.bits_below.ensures (ones_blank c.args.count)
