use Rattle.std.proofs.Common.{arith, rules, ◌*◌, ◌+◌, ◌-◌, ◌<◌, ◌^◌, get_or, set, count_ones}
use Rattle.hp_inode.specs.EntryBlock.{IsRemoved}
use Rattle.hp_inode.proofs.Removed.{joined, removed_word, few_removed, passed, passed_from, passed_to}
use Rattle.hp_inode.proofs.entry_block.clear_words.Goals as goal

pub loop-at-preserved-then-word-eq0 : goal.loop-at-preserved-then-word-eq0
loop-at-preserved-then-word-eq0 c =
    let was = c.loop-at.invariant in
    let finds = c.first_within.ensures in
    let from = passed_from c.args.words.now c.loop-at.words c.args.marks.now c.requires.entries c.args.from c.loop-at.at c.args.end c.loop-at.count
    was.from c.loop-at-test.true was.removed c.if-word-eq0.true c.first_within.result finds in
    let to = passed_to c.args.words.now c.loop-at.words c.args.marks.now c.requires.entries c.args.from c.loop-at.at c.args.end c.loop-at.count
    was.from c.loop-at-test.true was.removed c.if-word-eq0.true c.first_within.result finds in
    rw c.unwrap_or-at.ensures (record {
      from = omega (arith, was.from, from);
      within = to;
      removed = passed c.args.words.now c.loop-at.words c.args.marks.now c.requires.entries c.args.from c.loop-at.at c.args.end c.loop-at.count
          was.from c.loop-at-test.true was.removed c.if-word-eq0.true c.first_within.result finds;
    })

more : (c : goal.After-from) → IsRemoved (64 * c.args.from) (64 * c.clear_full-next.result) c.args.words.now c.clear_full-next.new.words
    (c.loop-at.count + (c.from.result + 64 * (c.clear_full-next.result - c.loop-at.at - 1)))
more c =
    let words = c.loop-at.words in
    let at = c.loop-at.at in
    let next = c.clear_full-next.result in
    let small : get_or words at 0 < 2 ^ 64 = search rules in
    let here = joined c.args.words.now words (set words at 0) (64 * c.args.from) (64 * at) (64 * (at + 1))
    _ _ (c.loop-at.count + count_ones (get_or words at 0)) (omega arith) (omega arith) (omega arith) c.loop-at.invariant.removed
    (removed_word words at (omega arith) small) in
    joined c.args.words.now (set words at 0) c.clear_full-next.new.words (64 * c.args.from) (64 * (at + 1)) (64 * next) _ _ _ (omega arith)
    (omega (arith, c.clear_full-next.ensures.from)) (omega (arith, c.from.ensures)) here c.clear_full-next.ensures.removed

pub overflow_add-count-else-word-eq0 : goal.overflow_add-count-else-word-eq0
overflow_add-count-else-word-eq0 c = omega (arith, few_removed _ _ _ _ _ (more c))

pub loop-at-preserved : goal.loop-at-preserved
loop-at-preserved c = record { from = omega arith; within = omega arith; removed = more c }
