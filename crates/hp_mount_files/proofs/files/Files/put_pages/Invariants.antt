use Rattle.std.proofs.Common.{◌≡◌, ◌+◌, ◌-◌, ◌≤◌, length, slice_set}
use Rattle.hp_lookup.proofs.Words.{file_at}
use Rattle.hp_file.proofs.Zeros.{IsPutting}
use Rattle.hp_mount_files.proofs.files.Files.put_pages.Given as goal

abbrev pub invariant-loop-index : goal.invariant-loop-index
invariant-loop-index g l = record {
  putting : IsPutting g.N.Naming.page_bytes l.from l.to l.index (file_at l.initial.self.files l.file).cells (file_at l.self.files l.file).cells l.initial.batch.pages l.batch.pages;
  files : l.self.files ≡ slice_set l.initial.self.files l.file (record (file_at l.initial.self.files l.file) { cells = (file_at l.self.files l.file).cells });
  going : l.self.going ≡ l.initial.self.going;
  room : l.self.room + length l.initial.batch.pages ≡ l.initial.self.room + length l.batch.pages;
  low : l.from ≤ l.index;
  high : l.index ≤ l.to;
  fits : length l.initial.batch.pages ≤ l.initial.self.room;
}

abbrev pub decreases-loop-index : goal.decreases-loop-index
decreases-loop-index g l = l.to - l.index
