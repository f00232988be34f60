use Rattle.std.proofs.Common.{arith, ◌≡◌, ◌*◌, ◌/◌, ◌%◌, ◌-◌, ◌<◌, ◌^◌, ◌≤◌, eqb, get_or, ⊎_elim, ap, ◌∙◌}
use Rattle.std.specs.Int.{bit_at}
use Rattle.std.proofs.lemmas.Bool.{cases_lt}
use Rattle.std.proofs.lemmas.Nat.Bits.{bit_at_ones}
use Rattle.hp_inode.proofs.bits.full_to.Goals as goal

pub loop-at-preserved : goal.loop-at-preserved
loop-at-preserved c =
    let words = c.args.words.now in
    let at = c.loop-at.at in
    let was = c.loop-at.invariant in
    let word : get_or words at 0 ≡ 2 ^ 64 - 1 = omega arith in
    record {
      from = omega (arith, was.from);
      to = λ more. omega arith;
      full = λ k low high. ⊎_elim
          (λ (below : k < 64 * at). was.full k low below)
          (λ (above : 64 * at ≤ k).
          let here : k / 64 ≡ at = omega (arith, above, high) in
          ap (λ j. eqb (bit_at (get_or words j 0) (k % 64)) 1) here ∙ ap (λ n. eqb (bit_at n (k % 64)) 1) word
          ∙ ap (λ x. eqb x 1) (bit_at_ones 64 (k % 64) (omega arith)))
          (cases_lt k (64 * at));
    }
