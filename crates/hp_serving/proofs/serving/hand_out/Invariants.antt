use Rattle.std.proofs.Common.{◌≡◌, ◌+◌}
use Rattle.hp_serving.proofs.serving.hand_out.Given as goal

abbrev pub invariant-loop : goal.invariant-loop
invariant-loop g l = l.book.total ≡ l.fn.book.total + l.counter
