use Rattle.std.proofs.Common.{ℕ, ◌≡◌, ◌+◌, ◌-◌, ◌*◌, ◌<◌, ◌≤◌, length, None}
use Rattle.hp_inode.specs.Blocks.{page_at}
use Rattle.hp_inode.proofs.table.PageTable.take_from.Given as goal

abbrev pub invariant-loop-at : goal.invariant-loop-at
invariant-loop-at l = record {
  same : l.self ≡ l.fn.self;
  small : l.from < 65536;
  low : l.a ≤ l.at * 65536 + l.from;
  before : (k : ℕ) → l.a ≤ k → k < l.at * 65536 + l.from → k < l.b → page_at l.fn.self k ≡ None;
}

abbrev pub decreases-loop-at : goal.decreases-loop-at
decreases-loop-at l = length l.fn.self - l.at
