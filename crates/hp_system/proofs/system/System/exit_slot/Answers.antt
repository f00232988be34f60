use Rattle.std.proofs.Common.{◌≡◌, true, Ok, refl, sym, ap, ◌∙◌, rules, IsTrue}
use Rattle.hp_laws.proofs.Variants.{Done, ExitMaps}
use Rattle.hp_model.proofs.Words.{has_maps_of, slot_at}
use Rattle.hp_system.proofs.Ready.{pool_ready}
use Rattle.hp_system.proofs.MachineSteps.{done_on, leaves_there, slot_there, within_of}
use Rattle.hp_system.proofs.system.System.exit_slot.Goals as goal

pub leave-requires-clause-ready : goal.leave-requires-clause-ready
leave-requires-clause-ready g c = pool_ready c.self.view_is c.requires.ready

pub returns-then-has_maps : goal.returns-then-has_maps
returns-then-has_maps g c =
    let x = c.index_mut-slot.result.now in
    let read = c.index_mut-slot.ensures.value in
    let within = within_of c.self.view_is c.args.at c.requires.within in
    let some : has_maps_of c.args.task x ≡ true = sym c.has_maps.ensures ∙ c.if-has_maps.true in
    let happens : IsTrue (has_maps_of c.args.task x) = rw some refl in
    let there : has_maps_of c.args.task (slot_at c.args.self.now.state c.args.at) ≡ true = ap (has_maps_of c.args.task) (slot_there c.self.view_is c.args.at within x read) ∙ some in
    let did = done_on c.self.view_is c.args.at within x read c.self.invariant c.requires.ready c.leave.new.slot c.leave.new.door (ExitMaps c.args.task) (Ok Done) happens
    (c.leave.ensures.done g.N.Naming.page_bytes c.args.at) in
    record { done = leaves_there _ _ c.args.at c.args.task (Ok Done) there did.event; others = search rules; slots = search rules; size = search rules; ready = did.ready }
