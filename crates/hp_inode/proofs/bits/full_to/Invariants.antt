use Rattle.std.proofs.Common.{ℕ, ◌≡◌, ◌*◌, ◌-◌, ◌<◌, ◌≤◌, true}
use Rattle.hp_marks.specs.Marks.{marked}
use Rattle.hp_inode.proofs.bits.full_to.Given as goal

abbrev pub invariant-loop-at : goal.invariant-loop-at
invariant-loop-at l = record {
  from : l.from ≤ l.at;
  to : l.from < l.at → l.at ≤ l.last;
  full : (k : ℕ) → 64 * l.from ≤ k → k < 64 * l.at → marked l.words k ≡ true;
}

abbrev pub decreases-loop-at : goal.decreases-loop-at
decreases-loop-at l = l.last - l.at
