use Rattle.std.proofs.Common.{ap, ◌∙◌, Result}
use Rattle.hp_history.proofs.TablesOf.{add_done, add_refused}
use Rattle.hp_model.proofs.Words.{done_reply}
use Rattle.hp_laws.proofs.Variants.{Refusal}
use Rattle.hp_shared.proofs.table.add.Goals as goal

pub returns-in-Ok-clause-change : goal.returns-in-Ok-clause-change
returns-in-Ok-clause-change c =
    add_done c.args.nodes c.args.tasks.now c.add_task.new.self c.args.task c.args.home (c.add_task.ensures ∙ ap (λ (r : Result (Unit {0}) Refusal). (done_reply r, c.add_task.new.self)) c.in-Ok.is)

pub returns-in-Err-clause-change : goal.returns-in-Err-clause-change
returns-in-Err-clause-change c =
    add_refused c.args.nodes c.args.tasks.now c.add_task.new.self c.args.task c.args.home c.in-Err.refusal
    (c.add_task.ensures ∙ ap (λ (r : Result (Unit {0}) Refusal). (done_reply r, c.add_task.new.self)) c.in-Err.is)
