use Rattle.std.proofs.Common.{◌≡◌, ◌+◌, length, sum_by}
use Rattle.hp_lookup.proofs.Words.{NumberedFile, emptied, file_owed, in_files, left_by, map_sum}
use Rattle.hp_file.specs.HeldPages.{AreDropped}
use Rattle.hp_file.proofs.Punched.{first_mapped}
use Rattle.hp_file.proofs.leaving.drop_maps_of.Given as goal

abbrev pub invariant-loop-at : goal.invariant-loop-at
invariant-loop-at g l =
    AreDropped (λ n. in_files n l.initial.files.files) (λ n. in_files n l.files.files) l.initial.pages l.pages
    × (l.files.files ≡ first_mapped (λ (f : NumberedFile). emptied (left_by l.task f)) l.at l.initial.files.files)
    × (l.reserves + sum_by file_owed l.files.files ≡ sum_by file_owed l.initial.files.files) × (l.maps + map_sum l.files.files ≡ map_sum l.initial.files.files)
    × (length l.files.files ≡ length l.initial.files.files)
