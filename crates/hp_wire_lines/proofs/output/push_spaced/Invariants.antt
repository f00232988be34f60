use Rattle.std.proofs.Common.{◌≤◌, ◌+◌, ◌-◌, ◌*◌, length, drop, vec_len, vec_capacity}
use Rattle.hp_model.proofs.Words.{spaced}
use Rattle.hp_text.proofs.Added.{Adding}
use Rattle.hp_wire_lines.proofs.output.push_spaced.Given as goal

abbrev pub invariant-loop-n : goal.invariant-loop-n
invariant-loop-n l = record {
  adding : Adding l.fn.out l.out (spaced (drop l.n-index l.numbers)) (spaced l.numbers);
  short : length (spaced l.numbers) ≤ length (spaced (drop l.n-index l.numbers)) + 21 * l.n-index;
  room : vec_len l.out + 21 * (length l.numbers - l.n-index) ≤ vec_capacity l.out;
}
