use Rattle.std.proofs.lemmas.Grind.{common_steps}
use Rattle.std.proofs.Common.{ℕ, Bool, ◌+◌, ◌%◌, ◌≤◌, not, ◌∙◌, arith}
use Rattle.hp_inode.specs.Blocks.{entered_at}
use Rattle.hp_inode.proofs.Blocks.{counted_on, few_in, missed_here, near_missing}
use Rattle.hp_inode.proofs.entries.Entries.missing.Goals as goal

pub returns-then-b-le-BLOCK : goal.returns-then-b-le-BLOCK
returns-then-b-le-BLOCK c = c.missing_in.ensures ∙ near_missing c.args.self.now c.args.a c.args.b c.if-b-le-BLOCK.true

pub overflow_add-missing : goal.overflow_add-missing
overflow_add-missing c = grind (arith, common_steps, few_in, missed_here)

pub loop-at-preserved : goal.loop-at-preserved
loop-at-preserved c =
    let at = c.loop-at.at in
    let count = c.within_block-count.result in
    let held = c.loop-at.invariant in
    let fits : at % 65536 + count ≤ 65536 = omega (arith, c.within_block-count.ensures) in
    let absent : ℕ → Bool = λ i. not (entered_at c.args.self.now i) in
    let part = c.missing_in-missing.ensures ∙ missed_here c.args.self.now at count fits in
    record {
      from = omega (arith, held.from);
      to = omega (arith, c.within_block-count.ensures, c.loop-at-test.true, held.from);
      counted = omega (arith, part, held.counted, counted_on absent c.args.a at count held.from);
    }
