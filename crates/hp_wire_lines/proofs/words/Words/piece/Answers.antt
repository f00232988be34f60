use Rattle.std.proofs.Common.{sym, ap, ◌∙◌, arith}
use Rattle.std.proofs.lemmas.List.{take_rest}
use Rattle.hp_text.specs.Pieces.{pieces_by}
use Rattle.hp_model.proofs.Words.{piece_at}
use Rattle.hp_wire_lines.proofs.Fronts.{past, no_piece, next_piece}
use Rattle.hp_wire_lines.proofs.words.Words.piece.Goals as goal

pub returns-then-from-line-clause-value : goal.returns-then-from-line-clause-value
returns-then-from-line-clause-value c = ap piece_at (sym c.self.view_is ∙ past _ _ c.if-from-line.true) ∙ no_piece

pub returns-clause-value : goal.returns-clause-value
returns-clause-value c =
    let line = c.self.inside.line.now in
    let at = c.self.inside.at in
    let all = sym (take_rest line at) in
    ap piece_at (sym c.self.view_is)
    ∙ next_piece line c.first_piece.result.0.now at c.first_piece.result.1 (omega arith) (ap (pieces_by 32) all ∙ c.first_piece.ensures.pieces) (all ∙ c.first_piece.ensures.whole)
