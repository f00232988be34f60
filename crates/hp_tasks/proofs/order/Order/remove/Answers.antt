use Rattle.std.proofs.Common.{◌≡◌, ℕ, List, ◌∷◌, get_or, sym, subst, ◌∙◌, arith}
use Rattle.std.specs.List.Sorted.{IsNonDecreasing, IsPermutation}
use Rattle.std.proofs.lemmas.List.{get_or_default}
use Rattle.std.proofs.lemmas.List.Sorted.{IsPermutation-remove}
use Rattle.hp_tasks.specs.Table.{IsPlaceOf}
use Rattle.hp_tasks.proofs.Ordered.{rise_removed}
use Rattle.hp_tasks.proofs.order.Order.remove.Goals as goal
use Rattle.hp_tasks.proofs.order.Order.remove.Goals.{After-remove-2}

module _ (c : After-remove-2) where
  abbrev tasks : List ℕ
  tasks = c.self.inside.tasks.items

  place : IsPlaceOf tasks c.args.task c.in-Some.at
  place = subst (λ xs. IsPlaceOf xs c.args.task c.in-Some.at) c.deref.ensures.value c.in-Some.ensures.some

  parted : IsPermutation tasks (c.args.task ∷ c.remove.new.self.items)
  parted =
      let read : c.args.task ≡ get_or tasks c.in-Some.at c.args.task = sym (get_or_default tasks c.in-Some.at c.args.task 0 place.within ∙ place.there) in
      subst (λ xs. IsPermutation tasks (c.args.task ∷ xs)) (sym c.remove.ensures.items) (IsPermutation-remove tasks c.in-Some.at c.args.task place.within read)

pub invariant_of-self : goal.invariant_of-self
invariant_of-self c = record {
  rise = subst IsNonDecreasing (sym c.remove.ensures.items) (rise_removed c.self.inside.tasks.items c.args.task c.self.invariant.rise c.in-Some.at (place c).within);
  each = omega (arith, c.self.invariant.each, c.remove.ensures.len, c.remove-2.ensures.len);
  room = omega (arith, c.self.invariant.room, c.remove.ensures.capacity);
  stands_room = omega (arith, c.self.invariant.stands_room, c.remove-2.ensures.capacity);
}
