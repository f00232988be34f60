use Rattle.std.proofs.Common.{arith, rules, sym, ap, ◌∙◌, ◌<◌, ◌≤◌, ◌^◌, ◌≡◌, ◌-◌, ◌/◌, ◌*◌, ℕ, false, eqb, get_or, set, length, not, bit_and, count_ones}
use Rattle.std.proofs.lemmas.List.{length-set}
use Rattle.std.proofs.lemmas.Bool.Decides.{nat_tests}
use Rattle.hp_inode.specs.EntryBlock.{IsRemoved}
use Rattle.hp_marks.specs.Marks.{marked}
use Rattle.hp_inode.proofs.Spread.{cleared_entries}
use Rattle.hp_inode.proofs.Removed.{removed_in_word}
use Rattle.hp_inode.proofs.Tables.{written_back}
use Rattle.hp_inode.proofs.entry_block.EntryBlock.remove_in_word.Goals as goal

zero_of : (n : ℕ) → not (eqb n 0) ≡ false → n ≡ 0
zero_of n off = grind (arith, nat_tests)

pub invariant_of-self : goal.invariant_of-self
invariant_of-self c =
    let words = c.self.inside.words.items in
    let marks = c.self.inside.marks.items in
    let at = c.args.a / 64 in
    let left = bit_and (get_or c.as_slice.result.now at 0) (18446744073709551615 - c.bits_within-bits.result) in
    let enough : c.args.b ≤ 64 * length words = rw c.self.view_is c.requires.within in
    let within : at < length words = omega arith in
    let long : length c.set_mark.new.words ≡ length marks = search rules in
    rw (c.as_mut_slice.ensures.value, written_back words (set words at left) (length-set words at left), written_back marks c.set_mark.new.words long)
    (cleared_entries words marks c.set_mark.new.words at left c.self.invariant within long
    (λ j other. c.set_mark.ensures.others j other ∙ ap (λ ws. marked ws j) c.as_mut_slice-2.ensures.value)
    (λ off. zero_of _ (sym c.set_mark.ensures.here ∙ off)))

pub returns-clause-removed : goal.returns-clause-removed
returns-clause-removed c =
    let words = c.self.inside.words.items in
    let at = c.args.a / 64 in
    let bits = c.bits_within-bits.result in
    let enough : c.args.b ≤ 64 * length words = rw c.self.view_is c.requires.within in
    let small : bits < 2 ^ 64 = omega arith in
    let here : IsRemoved c.args.a c.args.b words (set words at (bit_and (get_or words at 0) (18446744073709551615 - bits))) (count_ones (bit_and (get_or words at 0) bits)) =
    removed_in_word words at c.args.a c.args.b bits (omega arith) (omega arith) c.requires.some (omega arith) small c.bits_within-bits.ensures in
    rw (
      c.from.ensures,
      c.as_mut_slice.ensures.value,
      c.as_slice.ensures,
      written_back words
          (set words at (bit_and (get_or words at 0) (18446744073709551615 - bits)))
          (length-set words at (bit_and (get_or words at 0) (18446744073709551615 - bits))),
      ← c.self.view_is,
    ) here
