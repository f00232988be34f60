use Rattle.std.proofs.Common.{ℕ, ◌≡◌, ◌-◌, ◌<◌, ◌≤◌, true}
use Rattle.hp_model.proofs.Words.{cell_at, has_page}
use Rattle.hp_lookup.proofs.Words.{file_at}
use Rattle.hp_mount_files.proofs.files.Files.past_paged.Given as goal

abbrev pub invariant-loop-at : goal.invariant-loop-at
invariant-loop-at g l = record {
  from : l.from ≤ l.at;
  to : l.at ≤ l.to;
  paged : (j : ℕ) → l.from ≤ j → j < l.at → has_page (cell_at (file_at l.self.files l.file) j) ≡ true;
}

abbrev pub decreases-loop-at : goal.decreases-loop-at
decreases-loop-at g l = l.to - l.at
