use Rattle.std.proofs.Common.{◌+◌, ◌*◌, ◌-◌, ◌≡◌, ◌<◌, ◌∙◌, ◌^◌, ap, ℕ, arith, min}
use Rattle.std.proofs.lemmas.Bool.Decides.{nat_tests}
use Rattle.std.proofs.lemmas.Nat.Bits.{ones_shl, ones_shr}
use Rattle.hp_model.proofs.Words.{within}
use Rattle.hp_marks.proofs.Bits.{has_between}
use Rattle.hp_marks.proofs.marks.bits_within.Goals as goal

-- the places of a word, counted from the word's start
in_word : (a b s low high i : ℕ) → low ≡ a - s → high ≡ min (b - s) 64 → i < 64 → within low high i ≡ within a b (s + i)
in_word a b s low high i low_is high_is lt = grind (arith, nat_tests)

pub returns : goal.returns
returns c i lt =
    let low = c.saturating_sub-low.result in
    let high = c.min-high.result in
    let back : 64 - (64 - high) ≡ high = omega arith in
    has_between low high i _ _ (ones_shl 64 low (omega arith)) (ones_shr 64 (64 - high) (omega arith) ∙ ap (λ k. 2 ^ k - 1) back) lt
    ∙ in_word c.args.a c.args.b (64 * c.args.at) low high i (omega arith) (omega arith) lt
