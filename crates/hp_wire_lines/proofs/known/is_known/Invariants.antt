use Rattle.std.proofs.Common.{length, ◌-◌, ◌≡◌, ◌≤◌, drop}
use Rattle.std.specs.Str.{bytes_eq}
use Rattle.hp_wire_lines.proofs.known.is_known.Given as goal

abbrev pub invariant-fours : goal.invariant-fours
invariant-fours l = record {
  within : l.at ≤ length l.known;
  left : bytes_eq (drop l.at l.word) (drop l.at l.known) ≡ bytes_eq l.word l.known;
}

abbrev pub decreases-fours : goal.decreases-fours
decreases-fours l = length l.known - l.at

abbrev pub invariant-left : goal.invariant-left
invariant-left l = record {
  within : l.at ≤ length l.known;
  left : bytes_eq (drop l.at l.word) (drop l.at l.known) ≡ bytes_eq l.word l.known;
}

abbrev pub decreases-left : goal.decreases-left
decreases-left l = length l.known - l.at
