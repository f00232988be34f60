use Rattle.std.proofs.Common.{◌+◌, ap, subst}
use Rattle.hp_shared.specs.Runs.{IsPageMore, RunView, run_view}
use Rattle.hp_shared.proofs.Entered.{is_more}
use Rattle.hp_shared.proofs.run.Taking.step.Goals as goal

pub returns-clause-taken : goal.returns-clause-taken
returns-clause-taken g c is =
    let d = c.self.inside in
    let took = c.in-Ok in
    let left = c.leave.ensures in
    let new : RunView = run_view d.access d.intent c.leave.result.views c.leave.new.mine.me.0 c.add.new.self.nodes c.add.new.self.is_full in
    subst (λ (x : RunView). IsPageMore (x.index + c.args.done) x new) c.self.view_is
    (is_more _ d.seat.views d.access d.intent (d.access.index + c.args.done) c.in-Some.home took.claim.node d.mine.me.0 c.look.new.seat.me.0 c.join.new.mine.me.0
    c.take_page.new.mine.me.0 c.leave.new.mine.me.0 c.leave.result.views took._asked (ap (λ m. m.0) c.in-Some.ensures.view) (ap (λ m. m.0) c.join.ensures.both)
    took.ensures.entered took.ensures.asks took.ensures.answer left.trail (ap (λ m. m.0) left.told) d.taken.nodes c.add.new.self.nodes d.taken.is_full
    c.add.new.self.is_full c.add.ensures)
