use Rattle.std.proofs.Common.{◌≡◌, ◌-◌, ℕ, List, [], length, ap, arith, subst, sym}
use Rattle.hp_lookup.specs.Table.{IsPlace, TaskNumbers, numbers_at}
use Rattle.hp_lookup.proofs.Tables.{own_some}
use Rattle.hp_lookup.proofs.map_table.MapTable.put.Goals as goal

pub returns-in_default : goal.returns-in_default
returns-in_default c =
    let s = c.self.inside in
    let place = subst (λ (ys : List ℕ). IsPlace ys c.args.task c.in_default.field-0) c.deref.ensures.value c.in_default.ensures.ok in
    let some = own_some s.tasks.items s.maps.items c.self.invariant c.args.task c.in_default.field-0 place in
    let none = ap length (subst (λ (v : TaskNumbers). numbers_at c.args.task v ≡ []) (sym c.self.view_is) c.requires.none) in
    absurd (omega (arith, some, none))
