use Rattle.std.proofs.Common.{length, refl, sym, subst, ap, ◌∙◌}
use Rattle.hp_laws.proofs.Variants.{Done, FindAndAdd, Remove}
use Rattle.hp_model.proofs.Words.{Machine, done_reply, state_of}
use Rattle.hp_laws.proofs.keeping.Homes.{child_is_another}
use Rattle.hp_system.proofs.Forking.{fork_done, fork_refused, fork_undone}
use Rattle.hp_system.proofs.MachineSteps.{taken_out, table_went}
use Rattle.hp_system.proofs.Ready.{ready_with}
use Rattle.hp_system.specs.Event.{AreForked}
use Rattle.hp_system.proofs.system.System.fork.Goals as goal

pub returns-in-Err-clause-ready : goal.returns-in-Err-clause-ready
returns-in-Err-clause-ready g c = ready_with c.self.view_is c.requires.ready

pub fork_slots-requires-clause-ready : goal.fork_slots-requires-clause-ready
fork_slots-requires-clause-ready g c = ready_with c.self.view_is c.requires.ready

pub fork_slots-requires-clause-apart : goal.fork_slots-requires-clause-apart
fork_slots-requires-clause-apart g c =
    let gives = c.add_child.ensures 0 ∙ ap (λ r. (done_reply r, c.add_child.new.self)) c.in_default.is in
    child_is_another 0 c.args.parent c.args.child c.self.inside.table c.add_child.new.self Done gives

pub returns-in-Err-clause-step : goal.returns-in-Err-clause-step
returns-in-Err-clause-step g c =
    let gives = c.add_child.ensures (length c.self.inside.pool.nodes.rows) ∙ ap (λ r. (done_reply r, c.add_child.new.self)) c.in-Err.is in
    fork_refused _ _ c.args.parent c.args.child c.in-Err.refusal (table_went (FindAndAdd c.args.parent c.args.child) c.self.view_is refl gives)

pub returns-in-Ok-clause-step : goal.returns-in-Ok-clause-step
returns-in-Ok-clause-step g c =
    let s = c.self.inside in
    let mid = state_of s.page_bytes c.add_child.new.self s.slots.items s.pool in
    let gives = c.add_child.ensures (length s.pool.nodes.rows) ∙ ap (λ r. (done_reply r, c.add_child.new.self)) c.in_default.is in
    let made = subst (λ r. AreForked mid c.args.parent c.args.child r c.fork_slots.new.self.state) c.in-Ok.is c.fork_slots.ensures.done in
    fork_done _ mid _ c.args.parent c.args.child Done (table_went (FindAndAdd c.args.parent c.args.child) c.self.view_is refl gives)
    (ap (λ (x : Machine). length x.state.slots) c.self.view_is) made

pub returns-in-Err-fork_slots-clause-ready : goal.returns-in-Err-fork_slots-clause-ready
returns-in-Err-fork_slots-clause-ready g c = ready_with c.self-2.view_is c.fork_slots.ensures.ready

pub returns-in-Err-fork_slots-clause-step : goal.returns-in-Err-fork_slots-clause-step
returns-in-Err-fork_slots-clause-step g c =
    let s = c.self.inside in
    let mid = state_of s.page_bytes c.add_child.new.self s.slots.items s.pool in
    let gives = c.add_child.ensures (length s.pool.nodes.rows) ∙ ap (λ r. (done_reply r, c.add_child.new.self)) c.in_default.is in
    let made = subst (λ r. AreForked mid c.args.parent c.args.child r c.fork_slots.new.self.state) c.in-Err-fork_slots.is c.fork_slots.ensures.done in
    let taken = taken_out c.args.child (length c.self-2.inside.pool.nodes.rows) c.self-2.inside.table in
    fork_undone _ mid _ _ c.args.parent c.args.child Done c.in-Err-fork_slots.refusal taken.0 (table_went (FindAndAdd c.args.parent c.args.child) c.self.view_is refl gives)
    (ap (λ (x : Machine). length x.state.slots) c.self.view_is) made
    (table_went (Remove c.args.child) c.self-2.view_is refl (taken.1 ∙ ap (λ u. (taken.0, u)) (sym c.remove.ensures)))
