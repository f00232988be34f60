use Rattle.std.proofs.Common.{◌≡◌, ◌+◌}
use Rattle.hp_wire_lines.specs.Words.{between, piece_with, pieces_from}
use Rattle.hp_wire_lines.proofs.words.near_end.Given as goal

abbrev pub invariant-near : goal.invariant-near
invariant-near l = pieces_from l.from l.line ≡ piece_with (between l.from (l.from + l.i) l.line) (pieces_from (l.from + l.i) l.line)
