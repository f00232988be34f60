use Rattle.std.proofs.Common.{Err, length, sym, ap, subst, ◌∙◌}
use Rattle.hp_laws.proofs.Variants.{NoSuchTask, SlotEvent}
use Rattle.hp_events.specs.Event.{with_home}
use Rattle.hp_events.specs.Works.{work_script}
use Rattle.hp_model.proofs.Words.{IsScript, Machine, State, home_of, on_slot, told_reply}
use Rattle.hp_system.proofs.MachineSteps.{task_found, task_not_found}
use Rattle.hp_system.proofs.system.System.do_work.Goals as goal

pub returns-in-Some-clause-done : goal.returns-in-Some-clause-done
returns-in-Some-clause-done g c =
    let s = c.args.self.now.state in
    let w = c.in-OfTask in
    let known = ap (λ (x : State). home_of x.table w.task) (sym (ap (λ (x : Machine). x.state) c.self.view_is)) ∙ sym c.home.ensures ∙ c.in-Some.is in
    subst (λ x. IsScript s (work_script (length s.slots) x) (told_reply c.on_slot-in-Some.new.reply) c.on_slot-in-Some.new.self.state) (sym w.is)
    (task_found s w.task c.on_slot-in-Some.new.self.state c.in-Some.home (λ home. on_slot (length s.slots) w.slot (with_home home w.event))
    (told_reply c.on_slot-in-Some.new.reply) known
    (subst (λ (e : SlotEvent). IsScript s (on_slot (length s.slots) w.slot e) (told_reply c.on_slot-in-Some.new.reply) c.on_slot-in-Some.new.self.state)
    c.set_home.ensures c.on_slot-in-Some.ensures.done))

pub returns-in-None-clause-done : goal.returns-in-None-clause-done
returns-in-None-clause-done g c =
    let s = c.args.self.now.state in
    let w = c.in-OfTask in
    let unknown = ap (λ (x : State). home_of x.table w.task) (sym (ap (λ (x : Machine). x.state) c.self.view_is)) ∙ sym c.home.ensures ∙ c.in-None.is in
    subst (λ x. IsScript s (work_script (length s.slots) x) (Err NoSuchTask) s) (sym w.is)
    (task_not_found s w.task (λ home. on_slot (length s.slots) w.slot (with_home home w.event)) unknown)
