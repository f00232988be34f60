use Rattle.std.proofs.Common.{◌≡◌, ◌≤◌, ◌+◌, ◌-◌, ◌*◌, length, drop, vec_len, vec_capacity}
use Rattle.hp_model.proofs.Words.{rows_text}
use Rattle.hp_text.proofs.Added.{Adding}
use Rattle.hp_wire_lines.proofs.writing.push_rows.Given as goal

abbrev pub invariant-loop-row : goal.invariant-loop-row
invariant-loop-row l = record {
  adding : Adding l.fn.out l.out (rows_text l.row-index (drop l.row-index l.rows)) (rows_text 0 l.rows);
  room : vec_len l.out + 84 * (length l.rows - l.row-index) ≤ vec_capacity l.out;
  node : l.node ≡ l.row-index;
}
