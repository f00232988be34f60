use Rattle.std.proofs.Common.{◌++◌, length, ap, ◌∙◌}
use Rattle.std.proofs.lemmas.List.{drop-replicate}
use Rattle.hp_model.specs.declared.answer.Answer.TheVariants.{Bytes}
use Rattle.hp_model.proofs.told.copied_bytes.Goals as goal

pub returns : goal.returns
returns c =
    let bytes = c.args.bytes.now in
    let rest = c.split_at_mut-front.ensures.back ∙ drop-replicate (length bytes) 256 0 in
    ap (λ xs. Bytes (length bytes) (xs ++ c.split_at_mut-front.result.1.now)) c.copy_from_slice.ensures.after ∙ ap (λ ys. Bytes (length bytes) (bytes ++ ys)) rest
