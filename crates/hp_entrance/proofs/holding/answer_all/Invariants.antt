use Rattle.std.proofs.Common.{◌≡◌, false, Ok, take}
use Rattle.std.specs.List.{All}
use Rattle.hp_model.specs.beside.Queue.{is_load}
use Rattle.hp_laws.proofs.Variants.{Done}
use Rattle.hp_entrance.proofs.holding.answer_all.Given as goal

abbrev pub invariant-loop-i : goal.invariant-loop-i
invariant-loop-i l = record {
  faults : All (λ q. is_load q.step ≡ false) l.queue;
  done : All (λ q. q.reply ≡ Ok Done) (take l.i l.queue);
}
