use Rattle.std.proofs.lemmas.Grind.{common_steps}
use Rattle.std.proofs.Common.{◌≡◌, ◌-◌, ◌/◌, ◌%◌, ◌<◌, ◌^◌, eqb, get_or, ap, ◌∙◌, arith}
use Rattle.std.specs.Int.{bit_at}
use Rattle.std.proofs.lemmas.Nat.Bits.{bit_at_ones}
use Rattle.hp_model.proofs.Counting.{count_outside}
use Rattle.hp_marks.specs.Marks.{marked}
use Rattle.hp_marks.proofs.Words.{unmarked_past}
use Rattle.hp_inode.proofs.Counted.{counted_whole}
use Rattle.hp_inode.proofs.Removed.{counted_in_word}
use Rattle.hp_inode.proofs.bits.count_in_word.Goals as goal

pub returns-then-at-words : goal.returns-then-at-words
returns-then-at-words c = grind (arith, common_steps, count_outside, unmarked_past)

pub returns-then-words-at : goal.returns-then-words-at
returns-then-words-at c =
    let words = c.args.words.now in
    let a = c.args.a in
    let word : get_or words (a / 64) 0 ≡ 2 ^ 64 - 1 = c.if-words-at.true in
    counted_whole (marked words) a (c.args.b - a) (λ k low high.
    let here : k / 64 ≡ a / 64 = omega (arith, low, high, c.requires.some, c.requires.one) in
    ap (λ j. eqb (bit_at (get_or words j 0) (k % 64)) 1) here ∙ ap (λ n. eqb (bit_at n (k % 64)) 1) word ∙ ap (λ x. eqb x 1) (bit_at_ones 64 (k % 64) (omega arith)))

pub returns : goal.returns
returns c =
    let bits = c.bits_within.result in
    let small : bits < 2 ^ 64 = omega arith in
    c.from.ensures ∙ counted_in_word c.args.words.now (c.args.a / 64) c.args.a c.args.b bits (omega arith) c.requires.some c.requires.one small c.bits_within.ensures
