use Rattle.std.proofs.Common.{length, sym, subst, ◌∙◌}
use Rattle.hp_laws.proofs.promises.Promised.{promised}
use Rattle.hp_laws.proofs.promises.SmallReplies.{within_limits}
use Rattle.hp_model.proofs.Words.{IsScript, IsStep, told_reply}
use Rattle.hp_system.proofs.system.service.SystemService.answer.Given.{Over}
use Rattle.hp_system.proofs.system.service.SystemService.answer.Goals as goal
use Rattle.hp_system.proofs.system.service.SystemService.answer.Goals.{After-do_work}

-- what was done is the step
module _ (g : Over) (c : After-do_work g) where
  step : IsStep c.args.self.now.state c.args.step.now (told_reply c.do_work.new.reply) c.do_work.new.self.state
  unfolding IsStep
  step =
      let s = c.args.self.now.state in
      subst (λ script. IsScript s script (told_reply c.do_work.new.reply) c.do_work.new.self.state) (sym (c.work_of.ensures.script (length s.slots))) c.do_work.ensures.done

pub returns-clause-answered : goal.returns-clause-answered
returns-clause-answered g c =
    let s = c.args.self.now.state in
    let done = step g (goal.at.returns-clause-answered g c).After-do_work in (
      done,
      promised s c.args.step.now (told_reply c.do_work.new.reply) c.do_work.new.self.state c.requires.ready.settled done,
      λ none. c.do_work.ensures.memory (sym (c.work_of.ensures.memory s) ∙ none),
    )

pub returns-clause-limits : goal.returns-clause-limits
returns-clause-limits g c =
    within_limits c.args.self.now.state c.args.step.now (told_reply c.do_work.new.reply) c.do_work.new.self.state c.requires.ready.settled
    (step g (goal.at.returns-clause-limits g c).After-do_work) (λ usage. c.do_work.ensures.usage (sym c.work_of.ensures.usage ∙ usage))
