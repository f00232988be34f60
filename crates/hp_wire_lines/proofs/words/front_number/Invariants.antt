use Rattle.std.proofs.Common.{◌≡◌, ◌≤◌, ◌<◌, ◌-◌, ◌^◌}
use Rattle.hp_model.proofs.Words.{number_at}
use Rattle.hp_wire_lines.specs.Words.{number_after, pieces_from}
use Rattle.hp_wire_lines.proofs.words.front_number.Given as goal

abbrev pub invariant-loop-at : goal.invariant-loop-at
invariant-loop-at l = record {
  behind : l.from < l.at;
  within : l.at ≤ l.end;
  small : l.value < 10 ^ (l.at - l.from);
  so_far : number_after l.value (l.at - l.from) (pieces_from l.at l.line) ≡ number_at (pieces_from l.from l.line);
}

abbrev pub decreases-loop-at : goal.decreases-loop-at
decreases-loop-at l = l.end - l.at
