use Rattle.std.proofs.Common.{◌≡◌, ℕ, ◌<◌, false, slice_index_or}
use Rattle.hp_lookup.proofs.Words.{NumberedFile}
use Rattle.hp_lookup.proofs.Finding.{has_numbered}
use Rattle.hp_mount_files.proofs.files.Files.file_with.Given as goal

abbrev pub invariant-loop-at : goal.invariant-loop-at
invariant-loop-at g l = (k : ℕ) (d : NumberedFile) → k < l.at → has_numbered l.task l.number (slice_index_or l.files.files k d) ≡ false
