use Rattle.std.proofs.Common.{◌≡◌, take}
use Rattle.hp_wire.specs.Answered.{Gains}
use Rattle.hp_wire.specs.Queues.{queued_text}
use Rattle.hp_wire.proofs.replies.Replies.add_queued.Given as goal

abbrev pub invariant-loop-at : goal.invariant-loop-at
invariant-loop-at g l = record {
  added : Gains (g.W.Write.contents l.fn.writer) l.fn.self.text (g.W.Write.contents l.writer) l.self.text (queued_text l.fn.self.page (take l.at l.fn.queue));
  page : l.self.page ≡ l.fn.self.page;
  sure : g.W.Sink.is_sure l.fn.writer → g.W.Sink.is_sure l.writer;
  lent : g.W.Sink.lent l.writer ≡ g.W.Sink.lent l.fn.writer;
  connection : g.W.Sink.connection l.writer ≡ g.W.Sink.connection l.fn.writer;
}
