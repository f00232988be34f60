use Rattle.std.proofs.Common.{◌≡◌, sym, subst, ap, ◌∙◌, arith}
use Rattle.hp_model.proofs.Words.{has_maps_of, slot_at}
use Rattle.hp_system.specs.Event.{AreExited, mapped_slots}
use Rattle.hp_system.proofs.Forking.{more_mapped, more_other}
use Rattle.hp_system.proofs.MachineSteps.{exited_more}
use Rattle.hp_system.proofs.system.System.undo_fork.Goals as goal
use Rattle.hp_system.proofs.system.System.undo_fork.Goals.{then-has_maps, else-has_maps}

pub loop-at-preserved : goal.loop-at-preserved
loop-at-preserved g c =
    let was = c.loop-at.invariant in
    let s = c.args.self.now.state in
    let now = c.loop-at.self.state in
    let at = c.loop-at.at in
    let parent = c.args.parent in
    let child = c.args.child in
    let there : has_maps_of parent (slot_at s at) ≡ c.has_maps.result = ap (has_maps_of parent) (sym (was.same at (omega arith))) ∙ sym c.has_maps.ensures in
    elim c.if-has_maps.branch [
      | then-has_maps w ↦
          let next = w.exit_slot.new.self.state in
          rw w.self-is (record {
            done = subst (λ ks. AreExited s ks child next) (sym (more_mapped parent s at (there ∙ w.if-has_maps.true)))
                (exited_more s now next (mapped_slots s at parent) at child was.done w.exit_slot.ensures.done);
            same = λ j l. w.exit_slot.ensures.others j (λ e. omega (arith, l, e)) ∙ was.same j (omega (arith, l));
            slots = w.exit_slot.ensures.slots ∙ was.slots;
            size = w.exit_slot.ensures.size ∙ was.size;
            ready = w.exit_slot.ensures.ready;
          })
      | else-has_maps w ↦
          rw w.self-is (record {
            done = subst (λ ks. AreExited s ks child now) (sym (more_other parent s at (there ∙ w.if-has_maps.false))) was.done;
            same = λ j l. was.same j (omega (arith, l));
            slots = was.slots;
            size = was.size;
            ready = was.ready;
          })
    ]
