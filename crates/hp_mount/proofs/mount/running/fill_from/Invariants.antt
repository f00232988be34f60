use Rattle.std.proofs.Common.{◌≡◌, ◌+◌, ◌≤◌, ◌<◌, ℕ, List, length}
use Rattle.hp_lookup.proofs.Words.{file_at}
use Rattle.hp_mount.specs.Running.{AreReserved, filled_from}
use Rattle.hp_mount.proofs.mount.running.fill_from.Given as goal

abbrev pub invariant-loop-taken : goal.invariant-loop-taken
invariant-loop-taken g l = record {
  from : l.index ≤ l.end;
  left : l.end + length (g.D.RunDoor.waiting l.door) ≡ l.fn.index + length (g.D.RunDoor.waiting l.fn.door);
  file : l.at.file < length l.files.files;
  reserved : AreReserved (file_at l.files.files l.at.file) l.at.map l.end (length (g.D.RunDoor.waiting l.door));
  room : length (g.D.RunDoor.waiting l.door) ≤ l.files.room;
  filled : filled_from g.N.Naming.page_bytes l.at.file l.end (g.D.RunDoor.waiting l.door) l.files
      ≡ filled_from g.N.Naming.page_bytes l.at.file l.fn.index (g.D.RunDoor.waiting l.fn.door) l.fn.files;
  took : (d : g.row.D.Denot) (nodes : List ℕ) → g.D.RunDoor.took d nodes l.fn.door → g.D.RunDoor.took d nodes l.door;
}

abbrev pub decreases-loop-taken : goal.decreases-loop-taken
decreases-loop-taken g l = length (g.D.RunDoor.waiting l.door)
