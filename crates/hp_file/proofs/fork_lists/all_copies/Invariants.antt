use Rattle.std.proofs.Common.{◌≡◌, ◌+◌, ◌-◌, ◌<◌, ◌^◌, drop, sum_by}
use Rattle.hp_file.proofs.Joining.{file_copies}
use Rattle.hp_file.proofs.fork_lists.all_copies.Given as goal

abbrev pub invariant-loop-maps : goal.invariant-loop-maps
invariant-loop-maps l = l.count < 2 ^ 64 - 1 → l.count + sum_by file_copies (drop l.maps-index l.lists) ≡ sum_by file_copies l.lists
