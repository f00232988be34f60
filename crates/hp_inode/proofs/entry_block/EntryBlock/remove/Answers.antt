use Rattle.std.proofs.Common.{arith, ap, ◌-◌, ◌/◌, ◌*◌, ◌+◌, length}
use Rattle.hp_inode.specs.EntryBlock.{IsRemoved}
use Rattle.hp_inode.proofs.Removed.{joined, none_past, removed_past, few_removed}
use Rattle.hp_inode.proofs.entry_block.EntryBlock.remove.Goals as goal

none : (c : goal.Then-a-b) → IsRemoved c.args.a c.args.b c.args.self.now c.args.self.now 0
none c = none_past c.args.self.now c.args.a c.args.b c.min-b.result (omega (arith, c.min-b.ensures, c.len.ensures.value, ap length c.self.view_is)) c.if-a-b.true

pub returns-then-a-b-clause-count : goal.returns-then-a-b-clause-count
returns-then-a-b-clause-count c = (none c).counted

one : (c : goal.After-remove_in_word) → IsRemoved c.args.a c.args.b c.args.self.now c.remove_in_word.new.self c.remove_in_word.result
one c = removed_past c.args.self.now c.remove_in_word.new.self c.args.a c.min-b.result c.args.b c.remove_in_word.result
    (omega (arith, c.min-b.ensures, c.len.ensures.value, ap length c.self.view_is)) (omega arith) c.remove_in_word.ensures.removed

pub returns-then-first-last-clause-count : goal.returns-then-first-last-clause-count
returns-then-first-last-clause-count c = (one c).counted

pub returns-then-first-last-clause-left : goal.returns-then-first-last-clause-left
returns-then-first-last-clause-left c = (one c).left

pub overflow_add-result : goal.overflow_add-result
overflow_add-result c = omega (arith, few_removed _ _ _ _ _ c.remove_in_word-head.ensures.removed, few_removed _ _ _ _ _ c.remove_words-middle.ensures.removed)

all : (c : goal.After-remove_in_word-2) → IsRemoved c.args.a c.args.b c.args.self.now c.remove_in_word-2.new.self
    (c.remove_in_word-head.result + c.remove_words-middle.result + c.remove_in_word-2.result)
all c =
    let b = c.min-b.result in
    let last = (b - 1) / 64 in
    let most : IsRemoved c.args.a (64 * last) c.args.self.now c.remove_words-middle.new.self (c.remove_in_word-head.result + c.remove_words-middle.result) =
    joined c.args.self.now c.remove_in_word-head.new.self c.remove_words-middle.new.self c.args.a (64 * (c.args.a / 64 + 1)) (64 * last)
    _ _ _ (omega arith) (omega arith) (omega arith) c.remove_in_word-head.ensures.removed c.remove_words-middle.ensures.removed in
    removed_past c.args.self.now c.remove_in_word-2.new.self c.args.a b c.args.b _ (omega (arith, c.min-b.ensures, c.len.ensures.value, ap length c.self.view_is)) (omega arith)
    (joined c.args.self.now c.remove_words-middle.new.self c.remove_in_word-2.new.self c.args.a (64 * last) b _ _ _ (omega arith) (omega arith) (omega arith) most c.remove_in_word-2.ensures.removed)

pub overflow_add-result-2 : goal.overflow_add-result-2
overflow_add-result-2 c = omega (arith, few_removed _ _ _ _ _ (all c))

pub returns-clause-count : goal.returns-clause-count
returns-clause-count c = (all c).counted

pub returns-clause-left : goal.returns-clause-left
returns-clause-left c = (all c).left
