use Rattle.std.proofs.lemmas.Result.{err_from_is_err_and}
use Rattle.hp_wire_lines.proofs.Fronts.{taken_piece, taken_no_piece}
use Rattle.hp_wire_lines.proofs.words.Words.any_number.Goals as goal

pub returns-in_err-piece : goal.returns-in_err-piece
returns-in_err-piece c =
    let p = err_from_is_err_and c.from_residual.result c.from_residual.ensures.1 in
    rw (p.1, p.2) (taken_no_piece c.in_err-piece.field-0.0 c.args.self.now c.in_err-piece.ensures.value)

pub returns : goal.returns
returns c = taken_piece c.number_of.result c.in_ok-piece.piece.now c.piece.new.self c.args.self.now c.in_ok-piece.ensures.value c.number_of.ensures
