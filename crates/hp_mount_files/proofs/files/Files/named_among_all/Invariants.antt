use Rattle.std.proofs.Common.{◌≡◌, ℕ, ◌<◌, false, slice_index_or}
use Rattle.hp_lookup.proofs.Words.{NumberedFile, has_label, label_of}
use Rattle.hp_mount_files.proofs.files.Files.named_among_all.Given as goal

abbrev pub invariant-loop-at : goal.invariant-loop-at
invariant-loop-at g l = (k : ℕ) (d : NumberedFile) → k < l.at → has_label l.name (label_of (slice_index_or l.files.files k d)) ≡ false
