use Rattle.std.proofs.Common.{◌≡◌, ◌≤◌, ◌++◌, drop, length, take, filter}
use Rattle.hp_lookup.proofs.Words.{is_used}
use Rattle.hp_file.proofs.file_list.FileList.retain_used.Given as goal

abbrev pub invariant-loop-at : goal.invariant-loop-at
invariant-loop-at l =
    (l.at ≤ length l.initial.self.files) × (l.self.files ≡ take l.at l.initial.self.files ++ filter is_used (drop l.at l.initial.self.files))

abbrev pub decreases-loop-at : goal.decreases-loop-at
decreases-loop-at l = l.at
