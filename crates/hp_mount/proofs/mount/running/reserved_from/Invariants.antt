use Rattle.std.proofs.Common.{ℕ, ◌<◌, ◌≤◌}
use Rattle.hp_lookup.proofs.Words.{file_at}
use Rattle.hp_mount.specs.Running.{IsReserved}
use Rattle.hp_mount.proofs.mount.running.reserved_from.Given as goal

abbrev pub invariant-loop-next : goal.invariant-loop-next
invariant-loop-next g l = (j : ℕ) → l.index ≤ j → j < l.next → IsReserved (file_at l.files.files l.at.file) l.at.map j
