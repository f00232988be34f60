use Rattle.std.proofs.Common.{◌≡◌, ◌<◌, true, Some, None, length, sym, subst, ◌∙◌}
use Rattle.std.proofs.lemmas.List.{get_or_read}
use Rattle.hp_model.proofs.Words.{home_of}
use Rattle.hp_tasks.specs.Table.{has_task, task_row_at}
use Rattle.hp_tasks.proofs.Slots.{home_there, task_of}
use Rattle.hp_tasks.proofs.table.TaskTable.home.Goals as goal

pub returns-in-Some : goal.returns-in-Some
returns-in-Some c =
    let slots = c.self.inside.slots.items in
    let at = c.in_ok-at.at in
    let e = c.in-Some.entry in
    let below : at < length slots = subst (λ xs. at < length xs) c.deref.ensures.value c.in_ok-at.ensures.below in
    let has = subst (λ xs. has_task c.args.task (task_row_at xs at) ≡ true) c.deref.ensures.value c.in_ok-at.ensures.some in
    let here : task_row_at slots at ≡ Some e = sym (get_or_read slots at c.index.result.now below c.index.ensures None) ∙ c.in-Some.is in
    sym (subst (λ t. home_of t c.args.task ≡ Some e.1) c.self.view_is
    (home_there c.args.task slots at e (c.self.invariant.once c.args.task) here (task_of slots c.args.task at e has here)))
