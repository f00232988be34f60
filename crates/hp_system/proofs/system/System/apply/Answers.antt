use Rattle.std.proofs.Common.{sym, subst}
use Rattle.hp_model.proofs.Words.{IsPromised, IsStep, IsWithinLimits}
use Rattle.hp_system.proofs.system.System.apply.Goals as goal

pub into_reply-requires : goal.into_reply-requires
into_reply-requires g c = c.answer.ensures.limits

pub returns-clause-step : goal.returns-clause-step
returns-clause-step g c = subst (λ r. IsStep c.args.self.now.state c.args.step.now r c.answer.new.self.state) (sym c.into_reply.ensures) c.answer.ensures.answered.0

pub returns-clause-promised : goal.returns-clause-promised
returns-clause-promised g c = subst (λ r. IsPromised c.args.self.now.state c.args.step.now r c.answer.new.self.state) (sym c.into_reply.ensures) c.answer.ensures.answered.1

pub returns-clause-limits : goal.returns-clause-limits
returns-clause-limits g c = subst IsWithinLimits (sym c.into_reply.ensures) c.answer.ensures.limits
