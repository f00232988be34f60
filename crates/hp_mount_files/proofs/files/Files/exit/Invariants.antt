use Rattle.std.proofs.Common.{◌≡◌, map, filter}
use Rattle.hp_model.proofs.Words.{file_without, is_kept}
use Rattle.hp_lookup.proofs.Words.{IsLeft}
use Rattle.hp_mount_files.proofs.files.Files.exit.Given as goal

abbrev pub invariant-loop-map : goal.invariant-loop-map
invariant-loop-map g l = record {
  files : filter is_kept (map (file_without l.task) l.self.files) ≡ filter is_kept (map (file_without l.task) l.initial.self.files);
  left : IsLeft l.reserves l.initial.self l.self;
}
