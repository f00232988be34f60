use Rattle.std.proofs.Common.{◌≡◌, ◌∷◌, ℕ, List, length, ap, sym, subst, ◌∙◌, cond, arith, insert}
use Rattle.std.specs.List.Sorted.{IsPermutation}
use Rattle.std.proofs.lemmas.List.Sorted.{IsPermutation-insert}
use Rattle.hp_tasks.proofs.order.Order.add.Goals as goal

pub returns : goal.returns
returns c =
    let tasks : List ℕ = c.self.inside.tasks.items in
    let at = c.place_for-at.result in
    let ok = c.insert.ensures.succeeds (omega (arith, c.requires, ap length c.self.view_is, ap length c.deref.ensures.value, c.deref.ensures.len, c.self.invariant.room)) in
    let items : c.insert.new.self.items ≡ insert tasks at c.args.task = c.insert.ensures.items ∙ ap (λ b. cond b (insert tasks at c.args.task) tasks) ok in
    subst (λ xs. IsPermutation (c.args.task ∷ xs) c.insert.new.self.items) c.self.view_is
    (subst (IsPermutation (c.args.task ∷ tasks)) (sym items) (IsPermutation-insert tasks at c.args.task))
