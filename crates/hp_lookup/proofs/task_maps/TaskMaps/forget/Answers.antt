use Rattle.std.proofs.Common.{◌-◌, ℕ, List, remove, subst, sym}
use Rattle.hp_lookup.specs.Table.{IsGap, IsPlace, IsLessBy}
use Rattle.hp_lookup.proofs.Rising.{gap_none}
use Rattle.hp_lookup.proofs.Tables.{less_absent, less_removed}
use Rattle.hp_lookup.proofs.task_maps.TaskMaps.forget.Goals as goal

pub returns-in-Ok : goal.returns-in-Ok
returns-in-Ok c =
    let xs : List ℕ = c.self.inside.maps.items in
    let place = subst (λ (ys : List ℕ). IsPlace ys c.args.number c.in-Ok.at) c.deref.ensures.value c.in-Ok.ensures.ok in
    subst (λ (ys : List ℕ). IsLessBy c.args.number ys c.remove.new.self.items) c.self.view_is
    (subst (λ (ys : List ℕ). IsLessBy c.args.number xs ys) (sym c.remove.ensures.items) (less_removed c.args.number xs c.in-Ok.at c.self.invariant.rise place))

pub returns-in_default : goal.returns-in_default
returns-in_default c =
    let xs : List ℕ = c.self.inside.maps.items in
    let gap = subst (λ (ys : List ℕ). IsGap ys c.args.number c.in_default.field-0) c.deref.ensures.value c.in_default.ensures.err in
    subst (λ (ys : List ℕ). IsLessBy c.args.number ys ys) c.self.view_is (less_absent c.args.number xs (gap_none xs c.self.invariant.rise c.args.number c.in_default.field-0 gap))
