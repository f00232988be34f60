-- A line that isn't read to its end has a piece left.
use Rattle.std.proofs.Common.{◌≡◌, ℕ, ◌≤◌, List, length, drop, sym, ◌∙◌, ap, Err, ◌==◌}
use Rattle.hp_wire_lines.proofs.Fronts.{within}
use Rattle.hp_wire_lines.proofs.Pieces.{first_piece}
use Rattle.hp_wire_lines.specs.Words.{pieces_from}
use Rattle.hp_model.proofs.Words.{end_at}
use Rattle.hp_model.specs.declared.refusal.Refusal.TheVariants.{BadLine}

pub end_left : (line : List ℕ) (at : ℕ) (left : List (List ℕ)) → at ≤ length line → pieces_from at line ≡ left → end_at left ≡ Err BadLine
unfolding end_at
end_left line at left h view =
    let f = first_piece (λ b. b == 32) (drop at line) in
    ap end_at (sym view ∙ within at line h ∙ f.2)
