use Rattle.std.proofs.lemmas.Grind.{common_steps}
use Rattle.std.proofs.Common.{◌≡◌, ◌==◌, ◌-◌, ℕ, List, [], cond, remove, ap, arith, subst, ◌∙◌}
use Rattle.hp_lookup.specs.Table.{IsGap, IsPlace, TaskNumbers, numbers_at, numbers_under}
use Rattle.hp_lookup.proofs.Tables.{numbers_removed, without_none}
use Rattle.hp_lookup.proofs.map_table.MapTable.forget_task.Goals as goal

pub returns-in-Ok : goal.returns-in-Ok
returns-in-Ok c =
    let s = c.self.inside in
    let place = subst (λ (ys : List ℕ). IsPlace ys c.args.task c.in-Ok.at) c.deref.ensures.value c.in-Ok.ensures.ok in
    record {
      with = λ t. subst (λ (v : TaskNumbers). numbers_under t c.remove.new.self.items c.remove-in-Ok.new.self.items ≡ cond (c.args.task == t) [] (numbers_at t v)) c.self.view_is
          (ap (λ (ys : List ℕ). numbers_under t ys c.remove-in-Ok.new.self.items) c.remove.ensures.items ∙ ap (numbers_under t (remove s.tasks.items c.in-Ok.at)) c.remove-in-Ok.ensures.items
          ∙ numbers_removed s.tasks.items s.maps.items c.self.invariant c.args.task c.in-Ok.at place t);
      room = grind (arith, common_steps);
    }

pub returns-in_default : goal.returns-in_default
returns-in_default c =
    let s = c.self.inside in
    let gap = subst (λ (ys : List ℕ). IsGap ys c.args.task c.in_default.field-0) c.deref.ensures.value c.in_default.ensures.err in
    record {
      with = λ t. subst (λ (v : TaskNumbers). numbers_at t v ≡ cond (c.args.task == t) [] (numbers_at t v)) c.self.view_is
          (without_none s.tasks.items s.maps.items c.self.invariant c.args.task c.in_default.field-0 gap t);
      room = omega arith;
    }
