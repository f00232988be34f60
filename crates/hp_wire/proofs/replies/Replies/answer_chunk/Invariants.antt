use Rattle.std.proofs.Common.{◌≡◌, ◌+◌, ◌<◌, ◌≤◌, ◌++◌, [], length, List, false}
use Rattle.hp_model.proofs.Words.{Line}
use Rattle.hp_wire.specs.Answered.{Answered}
use Rattle.hp_wire.specs.Queues.{AreRead}
use Rattle.hp_wire.proofs.LineCuts.{CutOff}
use Rattle.hp_wire.proofs.replies.Replies.answer_chunk.Given as goal

abbrev pub invariant-loop-after : goal.invariant-loop-after
invariant-loop-after g l = (done : List Line) × (waiting : List Line) × record {
  answered : Answered g.S.Service.may_answer l.fn.self.page l.fn.service done l.service (g.W.Write.contents l.fn.writer) l.fn.self.text (g.W.Write.contents l.writer) l.self.text;
  read : AreRead waiting l.queue;
  cut : CutOff l.chunk l.rest (done ++ waiting);
  count : l.count ≡ length (done ++ waiting);
  few : l.count + length l.rest ≤ length l.chunk;
  places : length l.queue < 16;
  alone : l.several ≡ false → l.queue ≡ [];
  ready : g.S.Service.is_ready l.service;
  page : l.self.page ≡ l.fn.self.page;
  sure : g.W.Sink.is_sure l.fn.writer → g.W.Sink.is_sure l.writer;
  lent : g.W.Sink.lent l.writer ≡ g.W.Sink.lent l.fn.writer;
  connection : g.W.Sink.connection l.writer ≡ g.W.Sink.connection l.fn.writer;
}

abbrev pub decreases-loop-after : goal.decreases-loop-after
decreases-loop-after g l = length l.rest
