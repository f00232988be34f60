use Rattle.std.proofs.Common.{◌≡◌, ◌∷◌, [], take, drop}
use Rattle.hp_events.specs.Queues.{AreAccessesHanded}
use Rattle.hp_entrance.proofs.holding.held_accesses.Given as goal

abbrev pub invariant-loop-done : goal.invariant-loop-done
invariant-loop-done g l = record {
  handed : AreAccessesHanded g.N.Naming.page_bytes l.at (take l.done l.fn.queue) (take l.done l.queue) l.fn.member.receipts l.member.receipts;
  left : drop l.done l.queue ≡ drop l.done l.fn.queue;
  number : l.slot.slot.number ≡ l.at;
  owner : l.member.number ≡ l.fn.member.number;
  room : l.member.room ≡ l.fn.member.room;
  turn : l.turn.held ≡ 1 ∷ [];
}
