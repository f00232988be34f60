use Rattle.hp_mapping.proofs.FilledWords.{all_blank, all_marked}
use Rattle.hp_mapping.proofs.words.all_marks.Goals as goal

pub returns-clause-marked : goal.returns-clause-marked
returns-clause-marked c = rw c.set_word.ensures (all_marked c.args.count c.bits_below.result c.in_ok-words.words.items c.in_ok-words.ensures c.bits_below.ensures)

pub returns-clause-blank : goal.returns-clause-blank
returns-clause-blank c = rw c.set_word.ensures (all_blank c.args.count c.bits_below.result c.in_ok-words.words.items c.in_ok-words.ensures c.bits_below.ensures)
