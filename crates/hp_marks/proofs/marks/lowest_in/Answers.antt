use Rattle.std.proofs.Common.{◌<◌, ◌^◌, arith, rules, slice_index_or}
use Rattle.std.specs.Int.{w64}
use Rattle.std.proofs.lemmas.Nat.Bits.{bit_at-trailing_zeros}
use Rattle.hp_marks.proofs.Words.{lowest_there, some_within}
use Rattle.hp_marks.proofs.marks.lowest_in.Goals as goal

pub overflow_add-result : goal.overflow_add-result
overflow_add-result c =
    let small : slice_index_or c.args.words.now c.args.at 0 < 2 ^ 64 = search rules in
    omega (arith, some_within c.args.words.now c.args.at c.requires.some, (bit_at-trailing_zeros w64 (slice_index_or c.args.words.now c.args.at 0) c.requires.some small).0)

pub returns : goal.returns
returns c =
    let small : slice_index_or c.args.words.now c.args.at 0 < 2 ^ 64 = search rules in
    lowest_there c.args.words.now c.args.at c.requires.some small
