use Rattle.std.proofs.Common.{ap, sym, ◌∙◌, Result}
use Rattle.hp_history.proofs.TablesOf.{remove_done, remove_refused}
use Rattle.hp_model.proofs.Words.{done_reply}
use Rattle.hp_laws.proofs.Variants.{Refusal}
use Rattle.hp_shared.proofs.table.remove.Goals as goal

pub returns-in-Ok-clause-event : goal.returns-in-Ok-clause-event
returns-in-Ok-clause-event c = λ n. c.remove_task.ensures.event n ∙ ap (λ (r : Result (Unit {0}) Refusal). (done_reply r, c.remove_task.new.self)) c.in-Ok.is

pub returns-in-Err-clause-event : goal.returns-in-Err-clause-event
returns-in-Err-clause-event c = λ n. c.remove_task.ensures.event n ∙ ap (λ (r : Result (Unit {0}) Refusal). (done_reply r, c.remove_task.new.self)) c.in-Err.is

pub returns-in-Ok-clause-change : goal.returns-in-Ok-clause-change
returns-in-Ok-clause-change c =
    let at = sym c.home.ensures ∙ c.in-Some.is in (
      at,
      remove_done 0 c.args.tasks.now c.remove_task.new.self c.args.task c.in-Some.home at
          (c.remove_task.ensures.event 0 ∙ ap (λ (r : Result (Unit {0}) Refusal). (done_reply r, c.remove_task.new.self)) c.in-Ok.is),
    )

pub returns-in-Err-clause-change : goal.returns-in-Err-clause-change
returns-in-Err-clause-change c =
    remove_refused 0 c.args.tasks.now c.remove_task.new.self c.args.task c.in-Some.home c.in-Err.refusal (sym c.home.ensures ∙ c.in-Some.is)
    (c.remove_task.ensures.event 0 ∙ ap (λ (r : Result (Unit {0}) Refusal). (done_reply r, c.remove_task.new.self)) c.in-Err.is)
