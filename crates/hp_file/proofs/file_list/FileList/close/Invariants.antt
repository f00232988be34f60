use Rattle.std.proofs.Common.{length}
use Rattle.hp_lookup.proofs.Words.{in_files}
use Rattle.hp_file.specs.HeldPages.{AreDropped}
use Rattle.hp_file.proofs.file_list.FileList.close.Given as goal

abbrev pub invariant-loop-file : goal.invariant-loop-file
invariant-loop-file g l = AreDropped (λ n. in_files n l.initial.files.files) (λ n. in_files n l.files.files) l.initial.pages l.pages

abbrev pub decreases-loop-file : goal.decreases-loop-file
decreases-loop-file g l = length l.files.files
