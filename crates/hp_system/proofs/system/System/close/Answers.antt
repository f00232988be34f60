use Rattle.std.proofs.Common.{◌++◌, ◌∷◌, [], Some, subst, ap, sym, ◌∙◌, arith}
use Rattle.std.proofs.lemmas.List.{nil_from_length}
use Rattle.hp_model.proofs.Words.{Machine, counts_of}
use Rattle.hp_mount_door.specs.Door.{IsReady as IsReadyPool}
use Rattle.hp_system.proofs.Ending.{all_are_free, going_begins, going_ends, going_goes}
use Rattle.hp_system.specs.Event.{AllGo, SlotGoes}
use Rattle.hp_system.proofs.system.System.close.Goals as goal

pub loop-slot-init : goal.loop-slot-init
loop-slot-init g c =
    let s = c.self.inside in
    going_begins s.slots.items s.pool (subst (λ (m : Machine). IsReadyPool m.pool) (sym c.self.view_is) c.requires.ready)

pub exit_all-requires : goal.exit_all-requires
exit_all-requires g c = c.loop-slot.invariant.ready

pub close-requires : goal.close-requires
close-requires g c = record { ready = c.exit_all.ensures.ready }

pub loop-slot-preserved-in-Ok : goal.loop-slot-preserved-in-Ok
loop-slot-preserved-in-Ok g c =
    let rest = c.pop.new.self.items in
    let m = c.in-Some-slot.mount in
    let popped = c.in-Some.ensures.items ∙ ap (λ x. rest ++ x ∷ []) c.in-Some-slot.is in
    let goes : SlotGoes (Some m) c.loop-slot.pool c.close.new.door = (c.exit_all.new.mount, c.exit_all.new.pool, c.exit_all.ensures.gone, c.in-Ok.ensures.done) in
    going_goes c.self.inside.slots.items c.self.inside.pool c.loop-slot.slots.items rest (Some m) c.loop-slot.pool c.close.new.door popped goes c.close.ensures.left c.loop-slot.invariant

pub returns-clause-free : goal.returns-clause-free
returns-clause-free g c = λ ready.
    let s = c.self.inside in
    let was = c.loop-slot in
    let none = nil_from_length was.slots.items (omega (arith, was.slots.ok.0, c.in_default.ensures.cases.0)) in
    let gone = going_ends s.slots.items s.pool was.slots.items was.pool none was.invariant in
    c.close-3.ensures ∙ ap counts_of c.into_parts-pool.ensures
    ∙ all_are_free s.page_bytes g.N.Naming.page_bytes s.table s.slots.items s.pool was.pool c.args.self c.self.invariant c.self.view_is gone ready

pub returns-clause-counts : goal.returns-clause-counts
returns-clause-counts g c =
    let s = c.self.inside in
    let was = c.loop-slot in
    let none = nil_from_length was.slots.items (omega (arith, was.slots.ok.0, c.in_default.ensures.cases.0)) in
    let gone = going_ends s.slots.items s.pool was.slots.items was.pool none was.invariant in
    (was.pool, subst (λ (m : Machine). AllGo m.state.slots m.pool was.pool) c.self.view_is gone, c.close-3.ensures ∙ ap counts_of c.into_parts-pool.ensures)
