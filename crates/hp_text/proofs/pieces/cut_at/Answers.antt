use Rattle.std.proofs.Common.{◌∙◌, ◌∷◌, ◌++◌, ◌+◌, List, ℕ, sym, ap, take, rules}
use Rattle.hp_text.proofs.Cuts.{cut, rest_is, uncut}
use Rattle.hp_text.specs.Pieces.{pieces_by}
use Rattle.hp_text.proofs.pieces.cut_at.Goals as goal

pub returns-in-None : goal.returns-in-None
returns-in-None c = record { pieces = uncut c.args.separator c.args.text.now (sym c.requires ∙ c.in-None.is); whole = search rules }

pub returns-in-Some : goal.returns-in-Some
returns-in-Some c =
    let text = c.args.text.now in
    let at = c.in-Some.at in
    let h = cut c.args.separator text at (sym c.requires ∙ c.in-Some.is) in
    record {
      pieces = h.pieces ∙ ap (λ (rest : List ℕ). take at text ∷ pieces_by c.args.separator rest) (sym (rest_is (at + 1) text));
      whole = h.whole ∙ ap (λ (rest : List ℕ). take at text ++ c.args.separator ∷ rest) (sym (rest_is (at + 1) text));
    }
