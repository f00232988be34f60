use Rattle.std.proofs.lemmas.Grind.{common_steps}
use Rattle.std.proofs.Common.{◌+◌, ◌%◌, ◌≤◌, ◌∙◌, arith}
use Rattle.hp_inode.specs.Blocks.{entered_at}
use Rattle.hp_inode.proofs.Blocks.{counted_here, counted_on, few_in, near_counted, still_entered, taken_out}
use Rattle.hp_inode.proofs.entries.Entries.remove.Goals as goal

pub returns-then-b-le-BLOCK-clause-count : goal.returns-then-b-le-BLOCK-clause-count
returns-then-b-le-BLOCK-clause-count c = c.remove_in.ensures.count ∙ near_counted c.args.self.now c.args.a c.args.b c.if-b-le-BLOCK.true

pub overflow_add-removed : goal.overflow_add-removed
overflow_add-removed c = grind (arith, common_steps, counted_here, few_in)

pub loop-at-preserved : goal.loop-at-preserved
loop-at-preserved c =
    let at = c.loop-at.at in
    let count = c.within_block-count.result in
    let held = c.loop-at.invariant in
    let fits : at % 65536 + count ≤ 65536 = omega (arith, c.within_block-count.ensures) in
    let part = c.remove_in-removed.ensures.count ∙ counted_here c.loop-at.self at count fits ∙ still_entered c.args.self.now c.loop-at.self c.args.a at count held.left in
    record {
      from = omega (arith, held.from);
      to = omega (arith, c.within_block-count.ensures, c.loop-at-test.true, held.from);
      counted = omega (arith, part, held.counted, counted_on (entered_at c.args.self.now) c.args.a at count held.from);
      left = taken_out c.loop-at.self c.remove_in-removed.new.self at count fits c.remove_in-removed.ensures.others c.args.self.now c.args.a held.from
          c.remove_in-removed.ensures.here held.left;
    }
