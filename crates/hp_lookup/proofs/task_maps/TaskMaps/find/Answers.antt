use Rattle.std.proofs.Common.{◌≡◌, ◌-◌, ℕ, List, false, subst}
use Rattle.hp_model.specs.Lists.{is_among}
use Rattle.hp_lookup.specs.Table.{IsGap}
use Rattle.hp_lookup.proofs.Rising.{gap_none}
use Rattle.hp_lookup.proofs.task_maps.TaskMaps.find.Goals as goal

pub returns-in-Err : goal.returns-in-Err
returns-in-Err c =
    let gap = subst (λ (ys : List ℕ). IsGap ys c.args.number c.in-Err.field-0) c.deref.ensures.value c.in-Err.ensures.err in
    subst (λ (ys : List ℕ). is_among c.args.number ys ≡ false) c.self.view_is (gap_none c.self.inside.maps.items c.self.invariant.rise c.args.number c.in-Err.field-0 gap)
