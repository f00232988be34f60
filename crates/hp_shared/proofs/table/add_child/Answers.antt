use Rattle.std.proofs.Common.{ap, sym, ◌∙◌, Result}
use Rattle.hp_history.proofs.TablesOf.{child_done, child_refused}
use Rattle.hp_model.proofs.Words.{done_reply}
use Rattle.hp_laws.proofs.Variants.{Refusal}
use Rattle.hp_shared.proofs.table.add_child.Goals as goal

pub returns-in-Ok-clause-event : goal.returns-in-Ok-clause-event
returns-in-Ok-clause-event c = λ n. c.add_child.ensures n ∙ ap (λ (r : Result (Unit {0}) Refusal). (done_reply r, c.add_child.new.self)) c.in-Ok.is

pub returns-in-Err-clause-event : goal.returns-in-Err-clause-event
returns-in-Err-clause-event c = λ n. c.add_child.ensures n ∙ ap (λ (r : Result (Unit {0}) Refusal). (done_reply r, c.add_child.new.self)) c.in-Err.is

pub returns-in-Ok-clause-change : goal.returns-in-Ok-clause-change
returns-in-Ok-clause-change c =
    child_done 0 c.args.tasks.now c.add_child.new.self c.args.parent c.args.child c.in-Some.home (sym c.home.ensures ∙ c.in-Some.is)
    (c.add_child.ensures 0 ∙ ap (λ (r : Result (Unit {0}) Refusal). (done_reply r, c.add_child.new.self)) c.in-Ok.is)

pub returns-in-Err-clause-change : goal.returns-in-Err-clause-change
returns-in-Err-clause-change c =
    child_refused 0 c.args.tasks.now c.add_child.new.self c.args.parent c.args.child c.in-Some.home c.in-Err.refusal (sym c.home.ensures ∙ c.in-Some.is)
    (c.add_child.ensures 0 ∙ ap (λ (r : Result (Unit {0}) Refusal). (done_reply r, c.add_child.new.self)) c.in-Err.is)
