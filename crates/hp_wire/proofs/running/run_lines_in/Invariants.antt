use Rattle.std.proofs.Common.{◌≡◌, ◌≤◌, [], length}
use Rattle.hp_wire.proofs.Turns.{Progress}
use Rattle.hp_wire.proofs.running.run_lines_in.Given as goal

abbrev pub invariant-loop : goal.invariant-loop
invariant-loop g l = record {
  progress : Progress g.S.Service.may_answer (g.S.Service.page l.fn.service) (g.R.Read.remaining l.fn.reader, g.R.Source.heard l.fn.reader)
      (g.R.Read.remaining l.reader, g.R.Source.heard l.reader) l.fn.service l.service
      (g.W.Write.contents l.fn.writer) (g.W.Write.contents l.writer) l.unanswered l.total l.count;
  limit : l.total ≤ 1073741824;
  turns : l.counter ≤ l.total;
  held : length l.unanswered ≤ 1025;
  few : l.count ≤ l.total;
  page : l.replies.page ≡ g.S.Service.page l.fn.service;
  ready : g.S.Service.is_ready l.service;
  none : l.replies.text ≡ [];
  no_queue : l.queue ≡ [];
  reader : g.R.Source.is_sure l.fn.reader → g.R.Source.is_sure l.reader;
  writer : g.W.Sink.is_sure l.fn.writer → g.W.Sink.is_sure l.writer;
  lent : g.W.Sink.lent l.writer ≡ g.W.Sink.lent l.fn.writer;
  reads_of : g.R.Source.connection l.reader ≡ g.R.Source.connection l.fn.reader;
  writes_to : g.W.Sink.connection l.writer ≡ g.W.Sink.connection l.fn.writer;
}
