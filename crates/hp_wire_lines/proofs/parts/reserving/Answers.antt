use Rattle.std.proofs.Common.{sym, ap, ◌∙◌, ◌≡◌, Bool, true, false, Ok, Err, codes, if◌then◌else◌}
use Rattle.std.specs.Str.{bytes_eq}
use Rattle.hp_model.specs.declared.refusal.Refusal.TheVariants.{BadLine}
use Rattle.hp_model.specs.declared.step.Reserving.TheVariants.{NoReserve}
use Rattle.std.proofs.lemmas.Result.{err_from_is_err_and}
use Rattle.hp_wire_lines.proofs.Keywords.{reserving_none, reserving_last, reserving_more}
use Rattle.hp_wire_lines.proofs.parts.reserving.Goals as goal

pub returns-in_default : goal.returns-in_default
returns-in_default c = sym (reserving_none c.args.words.now c.in_default.field-0 c.in_default.ensures.value)

pub returns-in_err-end : goal.returns-in_err-end
returns-in_err-end c =
    let p = err_from_is_err_and c.from_residual.result c.from_residual.ensures.1 in
    rw (p.1, p.2) (sym (reserving_more c.args.words.now c.in-Ok.piece.now c.piece.new.self c.in_err-end.field-0.0 c.in-Ok.ensures.value (sym c.in_err-end.ensures)))

pub returns-then-is_known : goal.returns-then-is_known
returns-then-is_known c =
    let test : bytes_eq c.in-Ok.piece.now (codes "noreserve") ≡ true = sym c.is_known.ensures ∙ c.if-is_known.true in
    sym (reserving_last c.args.words.now c.in-Ok.piece.now c.piece.new.self c.in-Ok.ensures.value (sym c.in_ok-end.ensures) ∙ ap (λ (b : Bool). if b then Ok NoReserve else Err BadLine) test)

pub returns-else-is_known : goal.returns-else-is_known
returns-else-is_known c =
    let test : bytes_eq c.in-Ok.piece.now (codes "noreserve") ≡ false = sym c.is_known.ensures ∙ c.if-is_known.false in
    sym (reserving_last c.args.words.now c.in-Ok.piece.now c.piece.new.self c.in-Ok.ensures.value (sym c.in_ok-end.ensures) ∙ ap (λ (b : Bool). if b then Ok NoReserve else Err BadLine) test)
