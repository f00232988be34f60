use Rattle.std.proofs.Common.{◌≡◌, ◌==◌, true, refl, sym, ap, ◌∙◌, rules}
use Rattle.std.proofs.lemmas.Bool.{eqb-true, false_from_ne_true}
use Rattle.hp_model.proofs.Words.{done_reply, has_maps_of, slot_at}
use Rattle.hp_laws.proofs.Variants.{ForkMaps}
use Rattle.hp_system.proofs.Ready.{pool_ready}
use Rattle.hp_system.proofs.Forking.{slot_forked}
use Rattle.hp_system.proofs.MachineSteps.{done_on, slot_there, within_of}
use Rattle.hp_system.proofs.system.System.fork_slot.Goals as goal

pub fork-requires-clause-ready : goal.fork-requires-clause-ready
fork-requires-clause-ready g c = pool_ready c.self.view_is c.requires.ready

pub fork-requires-clause-apart : goal.fork-requires-clause-apart
fork-requires-clause-apart g c = false_from_ne_true (c.args.parent == c.args.child) (λ e. c.requires.apart (eqb-true c.args.parent c.args.child e))

pub returns : goal.returns
returns g c =
    let x = c.index_mut-slot.result.now in
    let read = c.index_mut-slot.ensures.value in
    let within = within_of c.self.view_is c.args.at c.requires.within in
    let some : has_maps_of c.args.parent (slot_at c.args.self.now.state c.args.at) ≡ true =
    ap (has_maps_of c.args.parent) (slot_there c.self.view_is c.args.at within x read) ∙ sym c.has_maps.ensures ∙ c.if-not-has_maps.false in
    let did = done_on c.self.view_is c.args.at within x read c.self.invariant c.requires.ready c.fork.new.slot c.fork.new.door (ForkMaps c.args.parent c.args.child)
    (done_reply c.fork.result) refl (c.fork.ensures.done g.N.Naming.page_bytes c.args.at) in
    record { done = slot_forked _ _ c.args.at c.args.parent c.args.child c.fork.result some did.event; slots = search rules; size = search rules; ready = did.ready }
