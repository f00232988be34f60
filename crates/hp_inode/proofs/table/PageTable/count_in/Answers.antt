use Rattle.std.proofs.Common.{◌≡◌, ◌+◌, ◌-◌, ◌%◌, ap, ◌∙◌, arith, count_by, is_some}
use Rattle.std.specs.List.{range_with_len}
use Rattle.hp_inode.specs.Rows.{page_in}
use Rattle.hp_inode.proofs.Counted.{counted_in_block, none_in_block}
use Rattle.hp_inode.proofs.table.PageTable.count_in.Goals as goal

pub returns-in-Some : goal.returns-in-Some
returns-in-Some c =
    let from = c.args.a % 65536 in
    let wide : from + c.args.part - from ≡ c.args.part = omega arith in
    rw (← c.self.view_is) (c.count.ensures ∙ ap (λ m. count_by (λ k. is_some (page_in c.in-Some.block.now k)) (range_with_len from m)) wide
    ∙ counted_in_block _ c.args.a c.args.part c.requires c.in-Some.block.now c.in-Some.ensures)

pub returns-in-None : goal.returns-in-None
returns-in-None c = rw (← c.self.view_is) (none_in_block _ c.args.a c.args.part c.requires c.in-None.ensures)
