use Rattle.std.proofs.Common.{◌<◌, length, arith, rules}
use Rattle.std.proofs.lemmas.Grind.{common_steps}
use Rattle.hp_model.proofs.Words.{Choice, slot_event, told_reply}
use Rattle.hp_system.proofs.Carries.{happens, never_full_at}
use Rattle.hp_system.proofs.Ready.{pool_ready}
use Rattle.hp_system.proofs.MachineSteps.{done_on}
use Rattle.hp_system.proofs.system.System.on_slot.Goals as goal

pub ask-requires-clause-ready : goal.ask-requires-clause-ready
ask-requires-clause-ready g c = pool_ready c.self.view_is c.requires.ready

pub returns : goal.returns
returns g c =
    let s = c.self.inside in
    let within : c.args.slot < length s.slots.items = omega (arith, c.if-at-len.false, c.len.ensures) in
    let x = c.index_mut.result.now in
    let e = c.args.event.now in
    let did = done_on c.self.view_is c.args.slot within x c.index_mut.ensures.value c.self.invariant c.requires.ready c.ask.new.slot c.ask.new.door e (told_reply c.ask.new.reply)
    (happens e x c.requires.plain)
    (never_full_at e (λ (y : Choice). slot_event g.N.Naming.page_bytes c.args.slot y x e) x c.ask.new.slot s.pool c.ask.new.door (told_reply c.ask.new.reply) c.ask.ensures.done) in
    record { done = did.script; memory = grind (arith, common_steps); limits = search rules; size = search rules; ready = did.ready }
