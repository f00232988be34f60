use Rattle.std.proofs.Common.{◌<◌, Some, ap, length, refl, sym, arith, ◌∙◌, rules}
use Rattle.hp_model.specs.declared.event.SlotEvent.TheVariants.{Load}
use Rattle.hp_mount.specs.declared.mount.reach.MapAccess.{MapAccess}
use Rattle.hp_model.proofs.Words.{bytes_reply}
use Rattle.hp_system.proofs.Accesses.{load_is, of_mount, of_none, of_no_slot, of_nobody}
use Rattle.hp_system.proofs.Ready.{pool_ready}
use Rattle.hp_system.proofs.system.service.SystemService.load.Goals as goal

pub load-requires-clause-ready : goal.load-requires-clause-ready
load-requires-clause-ready g c = pool_ready c.self.view_is c.requires.ready

pub returns-in_default : goal.returns-in_default
returns-in_default g c =
    let it = of_nobody c.self.invariant c.self.view_is c.requires.ready (load_is c.args.access.now c.args.count) (sym c.home.ensures ∙ c.in_default.is) in
    record { answered = (it.step, it.promised, search rules); ready = it.ready; same_page = refl; few = search rules }

pub returns-then-at-len : goal.returns-then-at-len
returns-then-at-len g c =
    let known = sym c.home.ensures ∙ c.in-Some.is in
    let it = of_no_slot c.self.invariant c.self.view_is c.requires.ready (load_is c.args.access.now c.args.count) c.in-Some.home known (omega (arith, c.if-at-len.true, c.len.ensures)) in
    record { answered = (it.step, it.promised, search rules); ready = it.ready; same_page = refl; few = search rules }

pub returns-in_default-index_mut : goal.returns-in_default-index_mut
returns-in_default-index_mut g c =
    let known = sym c.home.ensures ∙ c.in-Some.is in
    let within : c.args.access.now.slot < length c.self.inside.slots.items = omega (arith, c.if-at-len.false, c.len.ensures) in
    let it = of_none c.self.invariant c.self.view_is c.requires.ready (load_is c.args.access.now c.args.count) c.in-Some.home known within c.index_mut.result.now c.index_mut.ensures.value
    c.in_default-index_mut.is in
    record { answered = (it.step, it.promised, search rules); ready = it.ready; same_page = search rules; few = search rules }

pub returns : goal.returns
returns g c =
    let known = sym c.home.ensures ∙ c.in-Some.is in
    let within : c.args.access.now.slot < length c.self.inside.slots.items = omega (arith, c.if-at-len.false, c.len.ensures) in
    let it = of_mount c.self.invariant c.self.view_is c.requires.ready (load_is c.args.access.now c.args.count) c.in-Some.home known within c.index_mut.result.now c.index_mut.ensures.value
    (Some c.in-Some-index_mut.mount) (Some c.load.new.self) c.load.new.door (bytes_reply c.load.result) _ c.in-Some-index_mut.is
    (ap (λ (at : MapAccess). Load at.task c.in-Some.home at.map at.index c.args.access.now.offset c.args.count) c.place_of.ensures) (c.load.ensures.done c.args.access.now.slot) in
    record { answered = (it.step, it.promised, search rules); ready = it.ready; same_page = search rules; few = search rules }
