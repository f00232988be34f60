-- A task that is in the table once.
use Rattle.std.proofs.Common.{◌≡◌, ℕ, ◌+◌, ◌≤◌, ◌==◌, Bool, true, false, not, eq-eqb, eqb-true, None, Some, List, [], ◌∷◌, length, cond, arith, refl, ap, subst, ◌∙◌, count_by, find, option_map}
use Rattle.std.proofs.lemmas.List.Sums.{length-filter, sum_by-append}
use Rattle.hp_laws.proofs.lists.Places.{sum_by-filter_le}
use Rattle.hp_laws.proofs.lists.AtMostOne.{bit}
use Rattle.hp_model.proofs.Counting.{count_cons, count_not}
use Rattle.hp_model.proofs.Words.{Table, added, home_of, removed}
use Rattle.hp_tasks.specs.Table.{HasEachOnce}

module _ {X : Type 0} (p : X → Bool) where
  pub none_found : {Y : Type 0} (f : X → Y) (xs : List X) → option_map f (find p xs) ≡ None → count_by p xs ≡ 0
  none_found f [] none = refl
  none_found f (x ∷ xs) none =
      elim (p x) as (λ b. p x ≡ b → option_map f (cond b (Some x) (find p xs)) ≡ None → count_by p (x ∷ xs) ≡ 0) [
        | true ↦ λ e n. absurd (not_none (f x) n)
        | false ↦ λ e n. (let one = ap bit e in omega (arith, count_cons p x xs, one, none_found f xs n))
      ] refl none
    where
      not_none : {Y : Type 0} (y : Y) → Some y ≡ None → ⊥
      not_none y e = cc

pub once_added : (table : Table) (task home : ℕ) → home_of table task ≡ None → HasEachOnce table → HasEachOnce (added table task home)
once_added table task home none once t =
    elim (task == t) as (λ b. (task == t) ≡ b → count_by (λ e. e.0 == t) (added table task home) ≤ 1) [
      | true ↦ λ e. (let one = ap bit e in
          let zero = subst (λ n. count_by {X = ℕ × ℕ} (λ x. x.0 == n) table ≡ 0) (eqb-true task t e) (none_found {X = ℕ × ℕ} (λ x. x.0 == task) {Y = ℕ} (λ x. x.1) table none) in
          omega (arith, both, last, one, zero))
      | false ↦ λ e. (let one = ap bit e in let few = once t in omega (arith, both, last, one, few))
    ] refl
  where
    both : count_by (λ e. e.0 == t) (added table task home) ≡ count_by (λ e. e.0 == t) table + count_by {X = ℕ × ℕ} (λ e. e.0 == t) ((task, home) ∷ [])
    both = sum_by-append (λ e. cond (e.0 == t) 1 0) table ((task, home) ∷ [])

    last : count_by {X = ℕ × ℕ} (λ e. e.0 == t) ((task, home) ∷ []) ≡ bit (task == t) + 0
    last = count_cons {X = ℕ × ℕ} (λ e. e.0 == t) (task, home) []

pub once_removed : (table : Table) (task : ℕ) → HasEachOnce table → HasEachOnce (removed table task)
once_removed table task once t =
    let less = sum_by-filter_le (λ e. cond (e.0 == t) 1 0) (λ e. not (e.0 == task)) table in
    let few = once t in
    omega (arith, less, few)

-- ---- numbers of tasks that are there

kept : (tasks : Table) (task t : ℕ) → (task == t) ≡ false → count_by (λ e. e.0 == t) (removed tasks task) ≡ count_by (λ e. e.0 == t) tasks
kept [] task t apart = refl
kept (e ∷ tasks) task t apart =
    elim (e.0 == task) as (λ b. (e.0 == task) ≡ b → count_by {X = ℕ × ℕ} (λ x. x.0 == t) (cond (not b) (e ∷ removed tasks task) (removed tasks task)) ≡ count_by (λ x. x.0 == t) (e ∷ tasks)) [
      | true ↦ λ is. (let other = ap bit (ap (λ n. n == t) (eqb-true e.0 task is) ∙ apart) in omega (arith, kept tasks task t apart, count_cons (λ (x : ℕ × ℕ). x.0 == t) e tasks, other))
      | false ↦ λ is. omega (arith, kept tasks task t apart, count_cons (λ (x : ℕ × ℕ). x.0 == t) e tasks, count_cons (λ (x : ℕ × ℕ). x.0 == t) e (removed tasks task))
    ] refl

-- there are no more numbers than tasks
pub no_more : (order : List ℕ) (tasks : Table) → HasEachOnce tasks → ((t : ℕ) → count_by (λ n. n == t) order ≤ count_by (λ e. e.0 == t) tasks) → length order ≤ length tasks
no_more [] tasks once listed = omega arith
no_more (task ∷ order) tasks once listed =
    let one = ap bit (eq-eqb task task refl) in
    let here = count_cons (λ (n : ℕ). n == task) task order in
    let all = count_not (λ (e : ℕ × ℕ). e.0 == task) tasks in
    let left = length-filter (λ (e : ℕ × ℕ). not (e.0 == task)) tasks in
    omega (arith, no_more order (removed tasks task) (once_removed tasks task once) fewer, one, here, all, left, listed task)
  where
    fewer : (t : ℕ) → count_by (λ n. n == t) order ≤ count_by (λ e. e.0 == t) (removed tasks task)
    fewer t =
        elim (task == t) as (λ b. (task == t) ≡ b → count_by (λ n. n == t) order ≤ count_by (λ e. e.0 == t) (removed tasks task)) [
          | true ↦ λ is. (let one = ap bit is in omega (arith, listed t, once t, one, count_cons (λ (n : ℕ). n == t) task order))
          | false ↦ λ is. (let none = ap bit is in omega (arith, listed t, none, kept tasks task t is, count_cons (λ (n : ℕ). n == t) task order))
        ] refl

-- a task more in the table, and its number perhaps among those in order
pub listed_more : (order more : List ℕ) (tasks : Table) (task home : ℕ) → ((t : ℕ) → count_by (λ n. n == t) order ≤ count_by (λ e. e.0 == t) tasks)
    → ((t : ℕ) → count_by (λ n. n == t) more ≤ count_by (λ n. n == t) order + cond (task == t) 1 0)
    → (t : ℕ) → count_by (λ n. n == t) more ≤ count_by (λ e. e.0 == t) (added tasks task home)
listed_more order more tasks task home listed few t =
    let all = sum_by-append (λ (e : ℕ × ℕ). cond (e.0 == t) 1 0) tasks ((task, home) ∷ []) in
    omega (arith, listed t, few t, all, count_cons {X = ℕ × ℕ} (λ e. e.0 == t) (task, home) [])
