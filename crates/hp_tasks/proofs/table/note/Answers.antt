use Rattle.std.proofs.Common.{◌≡◌, ◌==◌, ◌+◌, ℕ, Some, [], ◌∷◌, ◌++◌, cond, get_or, length, set, sym, subst, ap, ◌∙◌, arith}
use Rattle.std.proofs.lemmas.List.Sorted.{sum_by-IsPermutation}
use Rattle.hp_model.proofs.Counting.{count_cons}
use Rattle.hp_tasks.specs.Table.{AreNoted, has_rest, task_row_at}
use Rattle.hp_tasks.proofs.Noted.{noted_listed, noted_placed, times}
use Rattle.hp_tasks.proofs.table.note.Goals as goal
use Rattle.hp_tasks.proofs.table.note.Goals.{After-add}

-- the new number is once among the others
counts : (c : After-add) (t : ℕ) → times t c.add.new.self ≡ cond (c.args.task == t) 1 0 + times t c.args.order.now
counts c t =
    omega (arith, sum_by-IsPermutation (λ (n : ℕ). cond (n == t) 1 0) (c.args.task ∷ c.args.order.now) c.add.new.self c.add.ensures, count_cons (λ (n : ℕ). n == t) c.args.task c.args.order.now)

pub returns-then-is_of_rest-clause-noted : goal.returns-then-is_of_rest-clause-noted
returns-then-is_of_rest-clause-noted c home =
    noted_listed c.args.slots.now c.args.places.now c.args.order.now c.requires.noted c.args.task home c.add.new.self (counts c)

pub returns-then-is_of_rest-clause-listed : goal.returns-then-is_of_rest-clause-listed
returns-then-is_of_rest-clause-listed c t = omega (arith, counts c t)

pub returns-else-is_of_rest-clause-noted : goal.returns-else-is_of_rest-clause-noted
returns-else-is_of_rest-clause-noted c home =
    let slots = c.args.slots.now in
    let places = c.args.places.now in
    let rest = c.rest_of-rest.ensures.rest in
    let free = ap (λ r. has_rest r (task_row_at slots (get_or places r 0))) (sym rest) ∙ sym c.is_of_rest.ensures ∙ c.if-is_of_rest.false in
    subst (λ r. AreNoted (slots ++ Some (c.args.task, home) ∷ []) (set places r (length slots)) c.args.order.now) (sym rest)
    (noted_placed slots places c.args.order.now c.requires.noted c.args.task home free (omega (arith, c.rest_of-rest.ensures.few, rest, c.told-places)))
