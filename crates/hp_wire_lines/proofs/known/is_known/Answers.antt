use Rattle.std.proofs.Common.{arith, sym, ◌∙◌}
use Rattle.hp_wire_lines.proofs.SameWords.{after_four}
use Rattle.hp_wire_lines.proofs.known.is_known.Goals as goal

pub fours-preserved : goal.fours-preserved
fours-preserved c =
    let same = sym c.four_at.ensures ∙ c.if-four_at.false ∙ c.four_at-in-fours.ensures in
    record {
      within = omega arith;
      left = after_four c.args.word.now c.args.known.now c.fours.at (omega arith) (omega arith)
          (λ i. (c.type_inv.word i).fits) (λ i. (c.type_inv.known i).fits) same ∙ c.fours.invariant.left;
    }
