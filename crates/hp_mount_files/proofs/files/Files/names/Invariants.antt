use Rattle.std.proofs.Common.{◌≡◌, ◌≤◌, length, take, vec_len, vec_capacity}
use Rattle.hp_mount_files.proofs.Listing.{AreShort, names_in}
use Rattle.hp_mount_files.proofs.files.Files.names.Given as goal

abbrev pub invariant-loop-at : goal.invariant-loop-at
invariant-loop-at g l = record {
  named : l.names.items ≡ names_in (take l.at l.files.files);
  few : length l.names.items ≤ l.at;
  filled : vec_len l.names ≤ l.at;
  room : length l.files.files ≤ vec_capacity l.names;
  short : AreShort l.names.items;
}
