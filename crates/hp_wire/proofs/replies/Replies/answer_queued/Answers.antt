use Rattle.std.proofs.lemmas.Result.{err_from_is_err_and}
use Rattle.hp_wire.specs.Queues.{queued_text}
use Rattle.hp_wire.proofs.Together.{part_whole, texts}
use Rattle.hp_wire.proofs.replies.Replies.answer_queued.Goals as goal

pub returns-in_err-add_queued-clause-cut : goal.returns-in_err-add_queued-clause-cut
returns-in_err-add_queued-clause-cut g c =
    let p = err_from_is_err_and c.from_residual.result c.from_residual.ensures.1 in
    let cut = c.in_err-add_queued.ensures.cut in
    let page = c.args.self.now.page in
    let after = c.do_all.new.self in
    rw (p.1, p.2) (λ lines read. (
      cut.0,
      part_whole (queued_text page after) (texts g.S.Service.may_answer page c.args.service.now c.do_all.new.service lines c.args.queue.now after read c.do_all.ensures.done) cut.1,
    ))

pub returns-clause-answered : goal.returns-clause-answered
returns-clause-answered g c =
    let page = c.args.self.now.page in
    let after = c.do_all.new.self in
    λ lines read. record {
      text = queued_text page after;
      replies = texts g.S.Service.may_answer page c.args.service.now c.do_all.new.service lines c.args.queue.now after read c.do_all.ensures.done;
      gained = c.in_ok-add_queued.ensures.added;
    }
