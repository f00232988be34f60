use Rattle.std.proofs.Common.{◌≤◌, ◌+◌, ◌-◌, ◌*◌, length, drop, vec_len, vec_capacity}
use Rattle.hp_model.proofs.Words.{names_text}
use Rattle.hp_text.proofs.Added.{Adding}
use Rattle.hp_wire_lines.proofs.writing.push_name_lines.Given as goal

abbrev pub invariant-loop-name : goal.invariant-loop-name
invariant-loop-name l = record {
  adding : Adding l.fn.out l.out (names_text (drop l.name-index l.names)) (names_text l.names);
  room : vec_len l.out + 65 * (length l.names - l.name-index) ≤ vec_capacity l.out;
}
