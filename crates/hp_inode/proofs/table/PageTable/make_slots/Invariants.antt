use Rattle.std.proofs.Common.{ℕ, ◌≡◌, ◌-◌, ◌/◌, ◌<◌, ◌≤◌, max, true}
use Rattle.hp_inode.specs.Blocks.{page_at, has_slot_at}
use Rattle.hp_inode.proofs.table.PageTable.make_slots.Given as goal

abbrev pub invariant-loop-at : goal.invariant-loop-at
invariant-loop-at l = record {
  from : l.a ≤ l.at;
  to : l.at ≤ max l.a l.b;
  pages : (k : ℕ) → page_at l.self k ≡ page_at l.fn.self k;
  kept : (k : ℕ) → has_slot_at l.fn.self k ≡ true → has_slot_at l.self k ≡ true;
  made : (k : ℕ) → l.a ≤ k → k < l.at → has_slot_at l.self k ≡ true;
  below : (k : ℕ) → k / 64 < l.a / 64 → has_slot_at l.self k ≡ has_slot_at l.fn.self k;
}

abbrev pub decreases-loop-at : goal.decreases-loop-at
decreases-loop-at l = l.b - l.at
