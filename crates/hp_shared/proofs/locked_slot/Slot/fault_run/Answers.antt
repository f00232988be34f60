use Rattle.std.proofs.Common.{Some, ◌∙◌, subst}
use Rattle.hp_model.proofs.Words.{Slot}
use Rattle.hp_shared.specs.Slots.{IsLockedSlot}
use Rattle.hp_shared.proofs.Running.{locked_on}
use Rattle.hp_shared.proofs.locked_slot.Slot.fault_run.Goals as goal

pub invariant_of-self-2 : goal.invariant_of-self-2
invariant_of-self-2 g c =
    let s = c.self.inside in
    let size = g.N.Naming.page_bytes in
    let went = c.fault_run.ensures.done s.number in
    locked_on size s.number c.args.access.now.task c.args.access.now.map c.args.access.now.index (g.T.Trail.entries s.trail) (g.T.Trail.left s.trail)
    (g.T.Trail.extra s.trail) (g.met.T.Trail.kept s.trail ∙ c.requires.unkept) went.nodes (Some c.in-Some.mount) (Some c.fault_run.new.self) went.faulted
    (subst (λ (m : Slot). IsLockedSlot size s.number (g.T.Trail.entries s.trail) (g.T.Trail.left s.trail) (g.T.Trail.extra s.trail) m) c.in-Some.is c.self.invariant)
