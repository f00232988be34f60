use Rattle.std.proofs.lemmas.Grind.{common_steps}
use Rattle.std.proofs.Common.{◌≡◌, ◌-◌, ℕ, List, [], IfOk, get_or, arith, subst, sym, ◌∙◌}
use Rattle.hp_lookup.specs.Table.{IsGap, IsPlace, TaskNumbers, numbers_at}
use Rattle.hp_lookup.proofs.Tables.{no_numbers, own_numbers}
use Rattle.hp_lookup.proofs.map_table.MapTable.copy_of.Goals as goal

pub returns-in-Ok : goal.returns-in-Ok
returns-in-Ok c =
    let s = c.self.inside in
    let place = subst (λ (ys : List ℕ). IsPlace ys c.args.task c.in-Ok.at) c.deref.ensures.value c.in-Ok.ensures.ok in
    let here : c.index.result.now ≡ get_or s.maps.items c.in-Ok.at [] = grind (arith, common_steps) in
    let own : c.index.result.now ≡ numbers_at c.args.task c.args.self.now =
    subst (λ (v : TaskNumbers). c.index.result.now ≡ numbers_at c.args.task v) c.self.view_is
    (here ∙ sym (own_numbers s.tasks.items s.maps.items c.self.invariant c.args.task c.in-Ok.at place)) in
    subst (λ (ns : List ℕ). IfOk c.copy.result (λ copy. copy ≡ ns)) own c.copy.ensures

pub returns-in-Err : goal.returns-in-Err
returns-in-Err c =
    let s = c.self.inside in
    let gap = subst (λ (ys : List ℕ). IsGap ys c.args.task c.in-Err.field-0) c.deref.ensures.value c.in-Err.ensures.err in
    let none : numbers_at c.args.task c.args.self.now ≡ [] =
    subst (λ (v : TaskNumbers). numbers_at c.args.task v ≡ []) c.self.view_is (no_numbers s.tasks.items s.maps.items c.self.invariant c.args.task c.in-Err.field-0 gap) in
    c.new.ensures ∙ sym none
