use Rattle.std.proofs.Common.{get_or, refl, ap, sym, ◌∙◌}
use Rattle.hp_tasks.specs.Table.{has_task, task_row_at}
use Rattle.hp_tasks.proofs.Noted.{not_there}
use Rattle.hp_tasks.proofs.Slots.{found_some, none_at}
use Rattle.hp_tasks.proofs.table.place_in.Goals as goal

pub returns-in_err-noted-clause-none : goal.returns-in_err-noted-clause-none
returns-in_err-noted-clause-none c is =
    let place = ap (λ r. has_task c.args.task (task_row_at c.args.slots.now (get_or c.args.places.now r 0))) c.rest_of.ensures.rest in
    not_there c.args.slots.now c.args.places.now c.args.order.now c.requires c.args.task (c.in_err-noted.ensures refl)
    (sym place ∙ sym c.stands_at.ensures.stands ∙ c.if-stands_at.false)

pub returns-clause-some : goal.returns-clause-some
returns-clause-some c = found_some c.args.slots.now c.args.task c.place_among_all.result c.place_among_all.ensures

pub returns-clause-none : goal.returns-clause-none
returns-clause-none c is = none_at c.args.slots.now c.args.task (sym c.place_among_all.ensures ∙ is)
