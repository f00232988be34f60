use Rattle.std.proofs.Common.{◌≡◌, ◌+◌, ◌-◌, ◌≤◌, ◌<◌, length, true}
use Rattle.std.specs.List.{list_all}
use Rattle.hp_model.proofs.Words.{is_word_byte}
use Rattle.hp_wire_lines.specs.Words.{between, piece_with, pieces_from}
use Rattle.hp_wire_lines.proofs.words.end_of_word.Given as goal

abbrev pub invariant-loop-n : goal.invariant-loop-n
invariant-loop-n l = record {
  some : 0 < l.n;
  within : l.from + l.n ≤ length l.line;
  printed : list_all is_word_byte (between l.from (l.from + l.n) l.line) ≡ true;
  front : pieces_from l.from l.line ≡ piece_with (between l.from (l.from + l.n) l.line) (pieces_from (l.from + l.n) l.line);
}

abbrev pub decreases-loop-n : goal.decreases-loop-n
decreases-loop-n l = length l.rest - l.n
