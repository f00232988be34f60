use Rattle.std.proofs.Common.{ℕ, ◌≡◌, ◌*◌, ◌<◌, ◌≤◌, ◌||◌}
use Rattle.hp_model.proofs.Words.{within}
use Rattle.hp_marks.specs.Marks.{marked}
use Rattle.hp_marks.proofs.marks.set_marks.Given as goal

abbrev pub invariant-loop-at : goal.invariant-loop-at
invariant-loop-at l = record {
  from : l.a ≤ 64 * l.at;
  done : (k : ℕ) → k < 64 * l.at → marked l.words k ≡ (marked l.fn.words k || within l.a l.b k);
  rest : (k : ℕ) → 64 * l.at ≤ k → marked l.words k ≡ marked l.fn.words k;
}
