use Rattle.std.proofs.Common.{sym, subst, ◌∙◌, arith}
use Rattle.hp_model.proofs.Words.{DoesAll}
use Rattle.hp_sessions.specs.Calls.{IsCallAnswered, SessionView}
use Rattle.hp_sessions.proofs.Timing.{one_in_time, queue_in_time}
use Rattle.hp_sessions.proofs.session.service.SessionService.do_queued.Goals as goal

pub returns-then-queue-gt1-clause-done : goal.returns-then-queue-gt1-clause-done
returns-then-queue-gt1-clause-done g c =
    let kept = g.P.Parts.keeps in
    let size = g.P.Parts.page in
    let s = c.self.inside.asking in
    let before = c.args.queue.now in
    let after = c.do_queued.new.queue in
    let t = c.look-then-queue-gt1.new.self in
    subst (λ (v : SessionView). DoesAll (λ old step reply new. IsCallAnswered kept size old step reply new) v before after t) c.self.view_is
    (queue_in_time kept size s c.look.new.self c.do_queued.new.self t before after (sym c.is_empty.ensures ∙ c.if-is_empty.false) c.look.ensures c.do_queued.ensures.done
    c.look-then-queue-gt1.ensures)

pub returns-else-queue-gt1-clause-done : goal.returns-else-queue-gt1-clause-done
returns-else-queue-gt1-clause-done g c =
    let kept = g.P.Parts.keeps in
    let size = g.P.Parts.page in
    let s = c.self.inside.asking in
    let before = c.args.queue.now in
    let after = c.do_queued.new.queue in
    let t = c.do_queued.new.self in
    let one = c.if-queue-gt1.false in
    let same = c.do_queued.auto.queue in
    subst (λ (v : SessionView). DoesAll (λ old step reply new. IsCallAnswered kept size old step reply new) v before after t) c.self.view_is
    (one_in_time kept size s c.look.new.self t before after (sym c.is_empty.ensures ∙ c.if-is_empty.false) (omega (arith, one, same)) c.look.ensures
    c.do_queued.ensures.done)
