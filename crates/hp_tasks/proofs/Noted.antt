-- Where tasks are noted to stand: those that are not among the numbers in order, at the places of their rests.
use Rattle.std.proofs.Common.{◌≡◌, ◌≢◌, ℕ, zero, suc, ◌+◌, ◌-◌, ◌<◌, ◌≤◌, ◌==◌, false, eq-eqb, eqb-true, Option, None, Some, List, [], ◌∷◌, ◌++◌, ◌⊎◌, inl, inr, length, get_or, set, arith, refl, ap}
use Rattle.std.proofs.Common.{sym, subst, ◌∙◌, count_by, filter, position, is_some}
use Rattle.std.proofs.Math.ListN.{get_or-eq_default}
use Rattle.std.proofs.lemmas.Bool.{cases_lt, false≢true, false_from_ne_true}
use Rattle.std.proofs.lemmas.List.{get_or-set_other, get_or-set_same}
use Rattle.std.proofs.lemmas.List.Quantifiers.{position-Some}
use Rattle.hp_laws.proofs.lists.AtMostOne.{bit, single}
use Rattle.hp_model.proofs.Counting.{count_cons}
use Rattle.hp_model.proofs.Words.{home_of}
use Rattle.hp_tasks.specs.Table.{AreNoted, HasEachOnce, IsAlone, TaskRow, has_rest, has_task, task_rest, task_row_at, tasks_in}
use Rattle.hp_tasks.proofs.Slots.{entry_at, none_at}

-- how often a number is among those in order
abbrev pub times : ℕ → List ℕ → ℕ
times task order = count_by (λ n. n == task) order

-- ---- one place for each task

has_counted : (task : ℕ) (slots : List TaskRow) → count_by (has_task task) slots ≡ count_by (λ e. e.0 == task) (tasks_in slots)
has_counted task [] = refl
has_counted task (None ∷ slots) = omega (arith, count_cons (has_task task) None slots, has_counted task slots)
has_counted task (Some e ∷ slots) =
    omega (arith, count_cons (has_task task) (Some e) slots, has_counted task slots, count_cons (λ (x : ℕ × ℕ). x.0 == task) e (tasks_in slots))

in_range : (slots : List TaskRow) (at : ℕ) (e : ℕ × ℕ) → task_row_at slots at ≡ Some e → at < length slots
in_range slots at e here = elim (cases_lt at (length slots)) [
  | inl below ↦ below
  | inr above ↦ (let none = get_or-eq_default slots None above in cc)
]

module _ (slots : List TaskRow) (once : HasEachOnce (tasks_in slots)) where
  pub one_place : (at : ℕ) (e : ℕ × ℕ) → task_row_at slots at ≡ Some e → (beside : ℕ) (f : ℕ × ℕ) → task_row_at slots beside ≡ Some f → e.0 ≡ f.0 → at ≡ beside
  one_place at e here beside f there same =
      let few : count_by (has_task e.0) slots ≤ 1 = omega (arith, has_counted e.0 slots, once e.0) in
      single (has_task e.0) None slots few at beside (in_range slots at e here) (in_range slots beside f there)
      (ap (has_task e.0) here ∙ eq-eqb e.0 e.0 refl) (ap (has_task e.0) there ∙ eq-eqb f.0 e.0 (sym same))

-- ---- a task that is neither at its place nor among the numbers

module _ (slots : List TaskRow) (places order : List ℕ) (noted : AreNoted slots places order) where
  module _ (task : ℕ) (none : times task order ≡ 0) (apart : has_task task (task_row_at slots (get_or places (task_rest task) 0)) ≡ false) where
    nowhere : (found : Option ℕ) → position (has_task task) slots ≡ found → position (has_task task) slots ≡ None
    nowhere None is = is
    nowhere (Some at) is =
        let has = (position-Some (has_task task) slots at None is).1 in
        let e = entry_at slots task at has in
        let none_of = subst (λ (t : ℕ). times t order ≡ 0) (sym e.2) none in
        let place = subst (λ (t : ℕ). get_or places (task_rest t) 0 ≡ at) e.2 (noted at e.0 e.1 none_of) in
        absurd (false≢true (sym apart ∙ ap (λ p. has_task task (task_row_at slots p)) place ∙ has))

    pub not_there : home_of (tasks_in slots) task ≡ None
    not_there = none_at slots task (nowhere (position (has_task task) slots) refl)

-- ---- one task more

row_in : (slots : List TaskRow) (x : ℕ × ℕ) (at : ℕ) (e : ℕ × ℕ) → task_row_at (slots ++ Some x ∷ []) at ≡ Some e
    → (task_row_at slots at ≡ Some e) ⊎ ((at ≡ length slots) × (x ≡ e))
row_in [] x zero e here = inr (refl, cc)
row_in [] x (suc at) e here = cc
row_in (y ∷ slots) x zero e here = inl here
row_in (y ∷ slots) x (suc at) e here = elim (row_in slots x at e here) [
  | inl there ↦ inl there
  | inr last ↦ inr (ap suc last.0, last.1)
]

module _ (slots : List TaskRow) (places order : List ℕ) (noted : AreNoted slots places order) (task home : ℕ) where
  pub noted_listed : (longer : List ℕ) → ((t : ℕ) → times t longer ≡ bit (task == t) + times t order) → AreNoted (slots ++ Some (task, home) ∷ []) places longer
  noted_listed longer counts at e here none = elim (row_in slots (task, home) at e here) [
    | inl there ↦ noted at e there (omega (arith, counts e.0, none))
    | inr last ↦ (let one = ap bit (eq-eqb task e.0 (ap (λ x. x.0) last.1)) in absurd (omega (arith, counts e.0, none, one)))
  ]

  module _ (free : has_rest (task_rest task) (task_row_at slots (get_or places (task_rest task) 0)) ≡ false) (within : task_rest task < length places) where
    pub noted_placed : AreNoted (slots ++ Some (task, home) ∷ []) (set places (task_rest task) (length slots)) order
    noted_placed at e here none = elim (row_in slots (task, home) at e here) [
      | inl there ↦ (
          let place = noted at e there none in
          let other : task_rest e.0 ≢ task_rest task = λ same.
          false≢true (sym free ∙ ap (λ r. has_rest (task_rest task) (task_row_at slots (get_or places r 0))) (sym same)
          ∙ ap (λ p. has_rest (task_rest task) (task_row_at slots p)) place ∙ ap (has_rest (task_rest task)) there ∙ eq-eqb (task_rest e.0) (task_rest task) same) in
          get_or-set_other places (task_rest task) (task_rest e.0) (length slots) 0 other ∙ place)
      | inr last ↦
          subst (λ (x : ℕ × ℕ). get_or (set places (task_rest task) (length slots)) (task_rest x.0) 0 ≡ at) last.1
          (get_or-set_same places (task_rest task) (length slots) 0 within ∙ sym last.0)
    ]

-- ---- one task less

row_left : (slots : List TaskRow) (gone at : ℕ) (e : ℕ × ℕ) → task_row_at (set slots gone None) at ≡ Some e → (at ≢ gone) × (task_row_at slots at ≡ Some e)
row_left [] gone at e here = cc
row_left (x ∷ slots) zero zero e here = cc
row_left (x ∷ slots) zero (suc at) e here = (λ same. omega (arith, same), here)
row_left (x ∷ slots) (suc gone) zero e here = (λ same. omega (arith, same), here)
row_left (x ∷ slots) (suc gone) (suc at) e here =
    let rest = row_left slots gone at e here in
    (λ same. rest.0 (omega (arith, same)), rest.1)

pub noted_less : (slots : List TaskRow) (places order : List ℕ) → AreNoted slots places order → HasEachOnce (tasks_in slots) → (gone : ℕ) (g : ℕ × ℕ) → task_row_at slots gone ≡ Some g
    → (shorter : List ℕ) → ((t : ℕ) → times t shorter ≡ times t order - bit (g.0 == t)) → AreNoted (set slots gone None) places shorter
noted_less slots places order noted once gone g was shorter counts at e here none =
    let left = row_left slots gone at e here in
    let other = ap bit (false_from_ne_true (g.0 == e.0) (λ same. left.0 (one_place slots once at e left.1 gone g was (sym (eqb-true g.0 e.0 same))))) in
    noted at e left.1 (omega (arith, counts e.0, none, other))

-- ---- gaps that are closed

closed_from : (slots : List TaskRow) (at : ℕ) (e : ℕ × ℕ) → task_row_at (filter is_some slots) at ≡ Some e → (k : ℕ) × (task_row_at slots k ≡ Some e)
closed_from [] at e here = cc
closed_from (None ∷ slots) at e here = (let before = closed_from slots at e here in (suc before.0, before.1))
closed_from (Some x ∷ slots) zero e here = (zero, here)
closed_from (Some x ∷ slots) (suc at) e here = (let before = closed_from slots at e here in (suc before.0, before.1))

module _ (slots : List TaskRow) (places order : List ℕ) (noted : AreNoted slots places order) (closed : List TaskRow) (is : closed ≡ filter is_some slots) where
  pub closed_alone : HasEachOnce (tasks_in closed) → IsAlone closed order
  closed_alone once at e here none beside f there none_beside same =
      let k = closed_from slots at e (ap (λ rows. task_row_at rows at) (sym is) ∙ here) in
      let j = closed_from slots beside f (ap (λ rows. task_row_at rows beside) (sym is) ∙ there) in
      let place = sym (noted k.0 e k.1 none) ∙ ap (λ r. get_or places r 0) same ∙ noted j.0 f j.1 none_beside in
      let one : Some e ≡ Some f = sym k.1 ∙ ap (task_row_at slots) place ∙ j.1 in
      let equal : e ≡ f = cc in
      one_place closed once at e here beside f there (ap (λ x. x.0) equal)

-- the tasks before a slot are noted
abbrev pub AreNotedBefore : ℕ → List TaskRow → (places order : List ℕ) → Type 0
AreNotedBefore end slots places order =
    (at : ℕ) (e : ℕ × ℕ) → at < end → task_row_at slots at ≡ Some e → times e.0 order ≡ 0 → get_or places (task_rest e.0) 0 ≡ at

module _ (slots : List TaskRow) (places order : List ℕ) (end : ℕ) (before : AreNotedBefore end slots places order) where
  pub noted_past : ((e : ℕ × ℕ) → task_row_at slots end ≡ Some e → times e.0 order ≡ 0 → ⊥) → AreNotedBefore (end + 1) slots places order
  noted_past apart at e below here none = elim (cases_lt at end) [
    | inl lower ↦ before at e lower here none
    | inr higher ↦ (let same : at ≡ end = omega (arith, below, higher) in absurd (apart e (ap (task_row_at slots) (sym same) ∙ here) none))
  ]

  pub noted_next : IsAlone slots order → (e : ℕ × ℕ) → task_row_at slots end ≡ Some e → times e.0 order ≡ 0 → task_rest e.0 < length places
      → AreNotedBefore (end + 1) slots (set places (task_rest e.0) end) order
  noted_next alone e here none within at f below there none_there = elim (cases_lt at end) [
    | inl lower ↦ (
        let other : task_rest f.0 ≢ task_rest e.0 = λ same. (let equal = alone at f there none_there end e here none same in omega (arith, equal, lower)) in
        get_or-set_other places (task_rest e.0) (task_rest f.0) end 0 other ∙ before at f lower there none_there)
    | inr higher ↦ (
        let same : at ≡ end = omega (arith, below, higher) in
        let one : Some f ≡ Some e = sym there ∙ ap (task_row_at slots) same ∙ here in
        let equal : f ≡ e = cc in
        ap (λ x. get_or (set places (task_rest e.0) end) (task_rest x.0) 0) equal ∙ get_or-set_same places (task_rest e.0) end 0 within ∙ sym same)
  ]

pub noted_all : (slots : List TaskRow) (places order : List ℕ) → AreNotedBefore (length slots) slots places order → AreNoted slots places order
noted_all slots places order before at e here none = before at e (in_range slots at e here) here none
