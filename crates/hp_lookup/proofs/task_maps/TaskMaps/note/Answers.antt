use Rattle.std.proofs.lemmas.Grind.{common_steps}
use Rattle.std.proofs.Common.{◌≡◌, ◌-◌, ℕ, List, insert, arith, subst, sym}
use Rattle.hp_lookup.specs.Table.{AreNumbers, IsGap, IsMoreBy}
use Rattle.hp_lookup.proofs.Tables.{more_inserted, numbers_inserted_are}
use Rattle.hp_lookup.proofs.task_maps.TaskMaps.note.Goals as goal

pub invariant_of-self-else-is_err : goal.invariant_of-self-else-is_err
invariant_of-self-else-is_err c =
    let xs : List ℕ = c.self.inside.maps.items in
    let gap = subst (λ (ys : List ℕ). IsGap ys c.args.number c.in-Err.at) c.deref.ensures.value c.in-Err.ensures.err in
    let one : c.insert.new.self.items ≡ insert xs c.in-Err.at c.args.number = grind (arith, common_steps) in
    subst AreNumbers (sym one) (numbers_inserted_are c.args.number xs c.in-Err.at c.self.invariant gap c.requires)

pub returns-else-is_err-clause-ok : goal.returns-else-is_err-clause-ok
returns-else-is_err-clause-ok c =
    let xs : List ℕ = c.self.inside.maps.items in
    let gap = subst (λ (ys : List ℕ). IsGap ys c.args.number c.in-Err.at) c.deref.ensures.value c.in-Err.ensures.err in
    let one : c.insert.new.self.items ≡ insert xs c.in-Err.at c.args.number = grind (arith, common_steps) in
    subst (λ (ys : List ℕ). IsMoreBy c.args.number ys c.insert.new.self.items) c.self.view_is
    (subst (λ (ys : List ℕ). IsMoreBy c.args.number xs ys) (sym one) (more_inserted c.args.number xs c.in-Err.at gap.within))
