use Rattle.std.proofs.Common.{sym, ap, ◌∙◌, arith, get_or}
use Rattle.std.specs.Int.{IsInRange}
use Rattle.hp_model.proofs.Words.{number_at}
use Rattle.hp_wire_lines.proofs.Fronts.{taken_digit}
use Rattle.hp_wire_lines.proofs.words.Words.number.Goals as goal

pub returns-then-line-from-eq32 : goal.returns-then-line-from-eq32
returns-then-line-from-eq32 c =
    let line = c.self.inside.line.now in
    let at = c.self.inside.at in
    let digit : IsInRange 48 57 (get_or line at 0) = c.if-not-is_ascii_digit.ensures.cases in
    ap number_at (sym c.self.view_is) ∙ taken_digit line at c.from-digit.result (omega arith) digit c.from-digit.ensures c.if-line-from-eq32.true
