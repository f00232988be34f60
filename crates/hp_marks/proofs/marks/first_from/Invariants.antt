use Rattle.std.proofs.Common.{ℕ, ◌≡◌, ◌*◌, ◌<◌, ◌≤◌, false}
use Rattle.hp_marks.specs.Marks.{marked}
use Rattle.hp_marks.proofs.marks.first_from.Given as goal

abbrev pub invariant-loop-at : goal.invariant-loop-at
invariant-loop-at l = (k : ℕ) → l.n ≤ k → k < 64 * l.at → marked l.words k ≡ false
