-- Tasks in slots with gaps between them.
use Rattle.std.proofs.Common.{◌≡◌, ℕ, zero, suc, ◌+◌, ◌≤◌, ◌==◌, Bool, true, false, not, eqb-true, eq-eqb, Option, None, Some, IfSome, List, [], ◌∷◌, length, set, cond, arith, refl, ap, sym, ◌∙◌}
use Rattle.std.proofs.Common.{count_by, filter, find, position, is_some, option_map}
use Rattle.std.specs.List.{position_from}
use Rattle.std.proofs.lemmas.Bool.{false≢true, false_from_ne_true}
use Rattle.std.proofs.lemmas.Iterator.Adapters.{position_from-zero}
use Rattle.std.proofs.lemmas.List.Quantifiers.{position-Some}
use Rattle.hp_laws.proofs.lists.AtMostOne.{bit}
use Rattle.hp_model.proofs.Counting.{count_cons}
use Rattle.hp_model.proofs.Words.{Table, home_of, removed}
use Rattle.hp_tasks.specs.Table.{TaskRow, has_task, task_row_at, tasks_in}

-- ---- a task that is not there

-- no slot has it
none_from : (slots : List TaskRow) (task at : ℕ) → position_from (has_task task) at slots ≡ None → home_of (tasks_in slots) task ≡ None
none_from [] task at none = refl
none_from (None ∷ slots) task at none = none_from slots task (at + 1) none
none_from (Some e ∷ slots) task at none =
    elim (e.0 == task) as (λ b. cond b (Some at) (position_from (has_task task) (at + 1) slots) ≡ None
    → option_map (λ (x : ℕ × ℕ). x.1) (cond b (Some e) (find (λ x. x.0 == task) (tasks_in slots))) ≡ None) [
      | true ↦ λ n. absurd (some_none at n)
      | false ↦ λ n. none_from slots task (at + 1) n
    ] none
  where
    some_none : (n : ℕ) → Some n ≡ None → ⊥
    some_none n e = cc

pub none_at : (slots : List TaskRow) (task : ℕ) → position (has_task task) slots ≡ None → home_of (tasks_in slots) task ≡ None
none_at slots task none = none_from slots task 0 (sym (position_from-zero (has_task task) slots) ∙ none)

-- ---- a task that is there, once

abbrev slot_bit : (ℕ × ℕ → Bool) → TaskRow → ℕ
slot_bit p None = 0
slot_bit p (Some e) = bit (p e)

abbrev entry_or : ℕ × ℕ → TaskRow → ℕ × ℕ
entry_or x None = x
entry_or x (Some y) = y

-- the task of a slot is counted
pub counted_at : (p : ℕ × ℕ → Bool) (slots : List TaskRow) (at : ℕ) (e : ℕ × ℕ) → task_row_at slots at ≡ Some e
    → count_by p (tasks_in slots) ≡ count_by p (tasks_in (set slots at None)) + bit (p e)
counted_at p [] at e here = cc
counted_at p (None ∷ slots) zero e here = cc
counted_at p (None ∷ slots) (suc at) e here = counted_at p slots at e here
counted_at p (Some x ∷ slots) zero e here =
    let one = ap (slot_bit p) here in
    omega (arith, count_cons p x (tasks_in slots), one)
counted_at p (Some x ∷ slots) (suc at) e here =
    omega (arith, counted_at p slots at e here, count_cons p x (tasks_in slots), count_cons p x (tasks_in (set slots at None)))

module _ (task : ℕ) where
  abbrev pub mine : ℕ × ℕ → Bool
  mine e = e.0 == task

  one_of : (e : ℕ × ℕ) → e.0 ≡ task → bit (mine e) ≡ 1
  one_of e is = ap bit (eq-eqb e.0 task is)

  pub home_there : (slots : List TaskRow) (at : ℕ) (e : ℕ × ℕ) → count_by mine (tasks_in slots) ≤ 1 → task_row_at slots at ≡ Some e → e.0 ≡ task
      → home_of (tasks_in slots) task ≡ Some e.1
  home_there [] at e few here is = cc
  home_there (None ∷ slots) zero e few here is = cc
  home_there (None ∷ slots) (suc at) e few here is = home_there slots at e few here is
  home_there (Some x ∷ slots) zero e few here is =
      let same = ap (entry_or x) here in
      ap (λ b. option_map (λ (y : ℕ × ℕ). y.1) (cond b (Some x) (find mine (tasks_in slots)))) (eq-eqb x.0 task (ap (λ y. y.0) same ∙ is)) ∙ ap (λ y. Some y.1) same
  home_there (Some x ∷ slots) (suc at) e few here is =
      let behind = counted_at mine slots at e here in
      let all = count_cons mine x (tasks_in slots) in
      let one = one_of e is in
      let other = false_from_ne_true (mine x) (λ t. (let two = ap bit t in absurd (omega (arith, behind, all, one, two, few)))) in
      ap (λ b. option_map (λ (y : ℕ × ℕ). y.1) (cond b (Some x) (find mine (tasks_in slots)))) other
      ∙ home_there slots at e (omega (arith, all, few)) here is

  pub none_removed : (tasks : Table) → count_by mine tasks ≡ 0 → filter (λ e. not (mine e)) tasks ≡ tasks
  none_removed [] none = refl
  none_removed (x ∷ tasks) none =
      let all = count_cons mine x tasks in
      let other = false_from_ne_true (mine x) (λ t. (let two = ap bit t in absurd (omega (arith, all, two, none)))) in
      ap (λ b. cond (not b) (x ∷ filter (λ e. not (mine e)) tasks) (filter (λ e. not (mine e)) tasks)) other ∙ ap (λ xs. x ∷ xs) (none_removed tasks (omega (arith, all, none)))

  pub taken_out : (slots : List TaskRow) (at : ℕ) (e : ℕ × ℕ) → count_by mine (tasks_in slots) ≤ 1 → task_row_at slots at ≡ Some e → e.0 ≡ task
      → tasks_in (set slots at None) ≡ removed (tasks_in slots) task
  taken_out [] at e few here is = cc
  taken_out (None ∷ slots) zero e few here is = cc
  taken_out (None ∷ slots) (suc at) e few here is = taken_out slots at e few here is
  taken_out (Some x ∷ slots) zero e few here is =
      let same = ap (entry_or x) here in
      let own = eq-eqb x.0 task (ap (λ y. y.0) same ∙ is) in
      let all = count_cons mine x (tasks_in slots) in
      let one = ap bit own in
      sym (ap (λ b. cond (not b) (x ∷ filter (λ y. not (mine y)) (tasks_in slots)) (filter (λ y. not (mine y)) (tasks_in slots))) own
      ∙ none_removed (tasks_in slots) (omega (arith, all, one, few)))
  taken_out (Some x ∷ slots) (suc at) e few here is =
      let behind = counted_at mine slots at e here in
      let all = count_cons mine x (tasks_in slots) in
      let one = one_of e is in
      let other = false_from_ne_true (mine x) (λ t. (let two = ap bit t in absurd (omega (arith, behind, all, one, two, few)))) in
      ap (λ xs. x ∷ xs) (taken_out slots at e (omega (arith, all, few)) here is)
      ∙ sym (ap (λ b. cond (not b) (x ∷ filter (λ y. not (mine y)) (tasks_in slots)) (filter (λ y. not (mine y)) (tasks_in slots))) other)

-- ---- gaps that are closed

pub closed : (slots : List TaskRow) → tasks_in (filter is_some slots) ≡ tasks_in slots
closed [] = refl
closed (None ∷ slots) = closed slots
closed (Some e ∷ slots) = ap (λ xs. e ∷ xs) (closed slots)

pub closed_length : (slots : List TaskRow) → length (filter is_some slots) ≡ length (tasks_in slots)
closed_length [] = refl
closed_length (None ∷ slots) = closed_length slots
closed_length (Some e ∷ slots) = ap suc (closed_length slots)

-- ---- what is found

pub found_some : (slots : List TaskRow) (task : ℕ) (at : Option ℕ) → at ≡ position (has_task task) slots → IfSome at (λ k. has_task task (task_row_at slots k) ≡ true)
found_some slots task None is = tt
found_some slots task (Some at) is = (position-Some (has_task task) slots at None (sym is)).1

-- what stands in a slot that has the task
pub task_of : (slots : List TaskRow) (task at : ℕ) (e : ℕ × ℕ) → has_task task (task_row_at slots at) ≡ true → task_row_at slots at ≡ Some e → e.0 ≡ task
task_of slots task at e has here = eqb-true e.0 task (sym (ap (has_task task) here) ∙ has)

entry_in : (slot : TaskRow) (task : ℕ) → has_task task slot ≡ true → (e : ℕ × ℕ) × (slot ≡ Some e) × (e.0 ≡ task)
entry_in None task has = absurd (false≢true has)
entry_in (Some e) task has = (e, refl, eqb-true e.0 task has)

pub entry_at : (slots : List TaskRow) (task at : ℕ) → has_task task (task_row_at slots at) ≡ true → (e : ℕ × ℕ) × (task_row_at slots at ≡ Some e) × (e.0 ≡ task)
entry_at slots task at has = entry_in (task_row_at slots at) task has

-- ---- one task less

pub one_fewer : (slots : List TaskRow) (at : ℕ) (e : ℕ × ℕ) → task_row_at slots at ≡ Some e → length (tasks_in slots) ≡ suc (length (tasks_in (set slots at None)))
one_fewer [] at e here = cc
one_fewer (None ∷ slots) zero e here = cc
one_fewer (None ∷ slots) (suc at) e here = one_fewer slots at e here
one_fewer (Some x ∷ slots) zero e here = refl
one_fewer (Some x ∷ slots) (suc at) e here = ap suc (one_fewer slots at e here)
