use Rattle.std.proofs.Common.{rules, arith, sym, subst, ap, ◌∙◌, length, is_some}
use Rattle.std.proofs.lemmas.Fn.{filter_same}
use Rattle.hp_tasks.specs.Table.{HasEachOnce, tasks_in}
use Rattle.hp_tasks.proofs.Noted.{closed_alone}
use Rattle.hp_tasks.proofs.Slots.{closed, closed_length}
use Rattle.hp_tasks.proofs.table.make_slot.Goals as goal

pub note_all-requires : goal.note_all-requires
note_all-requires c =
    let slots = c.args.slots.now.items in
    let left = c.deref.ensures.value ∙ filter_same _ is_some _ (λ x b f' k. search rules) _ _ c.retain.ensures.filtered in
    let same = ap tasks_in left ∙ closed slots in
    record {
      few = omega (arith, ap length left, closed_length slots, c.requires.few);
      alone = closed_alone slots c.args.places.now c.args.order.now c.requires.noted c.deref.result.now left (subst HasEachOnce (sym same) c.requires.once);
    }

pub returns-clause-tasks : goal.returns-clause-tasks
returns-clause-tasks c = ap tasks_in (filter_same _ is_some _ (λ x b f' k. search rules) _ _ c.retain.ensures.filtered) ∙ closed c.args.slots.now.items

pub returns-clause-room : goal.returns-clause-room
returns-clause-room c =
    let left = ap length (filter_same _ is_some _ (λ x b f' k. search rules) _ _ c.retain.ensures.filtered) in
    let few = c.requires.few in
    omega (arith, left, few, closed_length c.args.slots.now.items)
