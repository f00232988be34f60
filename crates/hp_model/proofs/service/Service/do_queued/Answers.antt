use Rattle.std.proofs.Common.{◌∙◌}
use Rattle.hp_model.proofs.Queues.{does_next, left_next}
use Rattle.hp_model.proofs.service.Service.do_queued.Goals as goal

pub loop-at-preserved : goal.loop-at-preserved
loop-at-preserved g c =
    let i = c.loop-at.invariant in
    record {
      done = does_next g.Self.Service.may_answer c.args.self.now c.loop-at.self c.do_one.new.self c.args.queue.now c.loop-at.queue c.loop-at.at
          c.do_one.new.queued c.index-queue-at.result c.loop-at-test.true c.loop-at.auto.queue i.left i.done c.do_one.ensures.done;
      left = left_next c.args.queue.now c.loop-at.queue c.loop-at.at c.do_one.new.queued i.left;
      ready = c.do_one.ensures.ready;
      page = c.do_one.ensures.same_page ∙ i.page;
    }
