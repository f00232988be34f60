use Rattle.std.proofs.Common.{length, refl, ap, ◌∙◌}
use Rattle.hp_laws.proofs.Variants.{Done, Remove}
use Rattle.hp_model.proofs.Words.{Machine, done_reply}
use Rattle.hp_system.proofs.MachineSteps.{exit_done, exit_refused, table_went}
use Rattle.hp_system.proofs.Ready.{ready_with}
use Rattle.hp_system.proofs.system.System.exit.Goals as goal

pub returns-in-Err-clause-ready : goal.returns-in-Err-clause-ready
returns-in-Err-clause-ready g c = ready_with c.self.view_is c.requires.ready

pub exit_slots-requires : goal.exit_slots-requires
exit_slots-requires g c = record { ready = ready_with c.self.view_is c.requires.ready }

pub returns-in-Err-clause-step : goal.returns-in-Err-clause-step
returns-in-Err-clause-step g c =
    let gives = c.remove_task.ensures.event (length c.self.inside.pool.nodes.rows) ∙ ap (λ r. (done_reply r, c.remove_task.new.self)) c.in-Err.is in
    exit_refused _ _ c.args.task c.in-Err.refusal (table_went (Remove c.args.task) c.self.view_is refl gives)

pub returns-clause-step : goal.returns-clause-step
returns-clause-step g c =
    let gives = c.remove_task.ensures.event (length c.self.inside.pool.nodes.rows) ∙ ap (λ r. (done_reply r, c.remove_task.new.self)) c.in_default.is in
    exit_done _ _ _ c.args.task Done (table_went (Remove c.args.task) c.self.view_is refl gives) (ap (λ (x : Machine). length x.state.slots) c.self.view_is) c.exit_slots.ensures.done
