use Rattle.std.proofs.Common.{sym, arith}
use Rattle.hp_wire_lines.proofs.LineEnds.{end_left}
use Rattle.hp_wire_lines.proofs.words.Words.end.Goals as goal

pub returns-else-self : goal.returns-else-self
returns-else-self c = sym (end_left c.self.inside.line.now c.self.inside.at c.args.self.now (omega arith) c.self.view_is)
