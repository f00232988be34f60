use Rattle.std.proofs.lemmas.Grind.{common_steps}
use Rattle.std.proofs.Common.{arith, ap, ◌∙◌, ◌-◌}
use Rattle.std.specs.List.{range_with_len}
use Rattle.std.proofs.lemmas.List.FromFn.{length-range_with_len}
use Rattle.hp_model.proofs.Counting.{count_not}
use Rattle.hp_marks.specs.Marks.{marked}
use Rattle.hp_inode.specs.EntryBlock.{count_in}
use Rattle.hp_inode.proofs.entry_block.EntryBlock.missing.Goals as goal

pub overflow_sub-result : goal.overflow_sub-result
overflow_sub-result c = grind (arith, common_steps, length-range_with_len, count_not)

pub returns : goal.returns
returns c =
    let range = range_with_len c.args.a (c.args.b - c.args.a) in
    let counted = c.count_bits.ensures ∙ ap (λ ws. count_in ws c.args.a c.args.b) (c.as_slice.ensures ∙ c.self.view_is) in
    omega (arith, counted, count_not (marked c.args.self.now) range, length-range_with_len c.args.a (c.args.b - c.args.a))
