use Rattle.hp_serving.proofs.Known.{was_refused}
use Rattle.hp_serving.proofs.connection.answer_no_session.Goals as goal

pub returns-clause-refused : goal.returns-clause-refused
returns-clause-refused g c =
    was_refused (g.B.Write.contents c.write_whole-sent.new.writer) c.write_whole-sent.result (g.B.Sink.has_failed c.write_whole-sent.new.writer)
    c.requires.unsaid c.write_whole-sent.ensures.sent c.write_whole-sent.ensures.cut
    c.write_whole-sent.ensures.failed
