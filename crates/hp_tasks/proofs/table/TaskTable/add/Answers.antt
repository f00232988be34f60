use Rattle.std.proofs.Common.{◌≡◌, ◌==◌, ◌+◌, ◌≤◌, ℕ, List, ◌++◌, ◌∷◌, [], Some, None, cond, length, ap, sym, subst, ◌∙◌, arith, count_by}
use Rattle.std.proofs.lemmas.List.{length-append}
use Rattle.std.proofs.lemmas.List.Elements.{filter_map-append}
use Rattle.hp_model.proofs.Words.{Table, added, home_of}
use Rattle.hp_tasks.specs.Table.{AreNoted, HasEachOnce, TaskRow, tasks_in}
use Rattle.hp_tasks.proofs.Noted.{times}
use Rattle.hp_tasks.proofs.Tasks.{listed_more, no_more, once_added}
use Rattle.hp_tasks.proofs.table.TaskTable.add.Goals as goal

-- the tasks, and one more behind them
more : (slots before after : List TaskRow) (task home : ℕ) → tasks_in before ≡ tasks_in slots → after ≡ before ++ Some (task, home) ∷ []
    → tasks_in after ≡ added (tasks_in slots) task home
more slots before after task home same is =
    ap tasks_in is ∙ filter_map-append (λ (slot : TaskRow). slot) before (Some (task, home) ∷ []) ∙ ap (λ (t : Table). t ++ (task, home) ∷ []) same

pub note-requires : goal.note-requires
note-requires c =
    let tasks = tasks_in c.self.inside.slots.items in
    let few = no_more c.self.inside.order tasks c.self.invariant.once c.self.invariant.listed in
    record {
      few = omega (arith, c.make_slot.ensures.room, ap length c.deref.ensures.value);
      room = omega (arith, few, ap length c.self.view_is, ap length c.make_slot.ensures.order, c.requires.room);
      noted = subst (λ (rows : List TaskRow). AreNoted rows c.deref_mut-2.result.now c.make_slot.new.order) (sym c.deref.ensures.value)
          (subst (λ (places : List ℕ). AreNoted c.make_slot.new.slots.items places c.make_slot.new.order) (sym c.deref_mut-2.ensures.value) c.make_slot.ensures.noted);
    }

pub invariant_of-self : goal.invariant_of-self
invariant_of-self c =
    let slots = c.self.inside.slots.items in
    let tasks = tasks_in slots in
    let task = c.args.task in
    let home = c.args.home in
    let absent = subst (λ (t : Table). home_of t task ≡ None) (sym c.self.view_is) c.requires.absent in
    let is = more slots c.make_slot.new.slots.items c.push_reserved.new.self.items task home c.make_slot.ensures.tasks c.push_reserved.ensures.items in
    let few : (t : ℕ) → times t c.note.new.order ≤ times t c.self.inside.order + cond (task == t) 1 0
    = λ t. omega (arith, c.note.ensures.listed t, ap (times t) c.make_slot.ensures.order) in
    let rows = ap (λ (xs : List TaskRow). xs ++ Some (task, home) ∷ []) c.deref.ensures.value ∙ sym c.push_reserved.ensures.items in
    record {
      once = subst HasEachOnce (sym is) (once_added tasks task home absent c.self.invariant.once);
      room = omega (arith, c.self.invariant.room, c.make_slot.ensures.capacity, c.push_reserved.ensures.capacity);
      count = omega (arith, c.self.invariant.count, ap length is, length-append tasks ((task, home) ∷ []));
      listed = λ t. omega (arith, listed_more c.self.inside.order c.note.new.order tasks task home c.self.invariant.listed few t, ap (count_by (λ (e : ℕ × ℕ). e.0 == t)) is);
      noted = subst (λ (xs : List TaskRow). AreNoted xs c.note.new.places c.note.new.order) rows (c.note.ensures.noted home);
    }

pub returns : goal.returns
returns c =
    more c.self.inside.slots.items c.make_slot.new.slots.items c.push_reserved.new.self.items c.args.task c.args.home c.make_slot.ensures.tasks c.push_reserved.ensures.items
    ∙ ap (λ (t : Table). added t c.args.task c.args.home) c.self.view_is
