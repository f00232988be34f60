-- A fork on a mount, by what code did.
use Rattle.std.proofs.Common.{◌≡◌, ℕ, ◌+◌, ◌-◌, ◌<◌, ◌≤◌, ◌==◌, ◌||◌, ⊎_elim, Bool, true, false, cond, nat_lt, List, [], ◌∷◌, Some, Ok, Err, length, refl, sym, ap, subst, ◌∙◌, arith, count_by}
use Rattle.std.proofs.lemmas.Bool.{cases_lt}
use Rattle.std.proofs.lemmas.Bool.Decides.{nat_tests}
use Rattle.hp_laws.proofs.Variants.{Done, PoolAnswer, Section}
use Rattle.hp_model.specs.declared.refusal.Refusal.TheVariants as r
use Rattle.hp_model.proofs.Words.{Map, Mount, Plan, ThroughDoor, fork_maps, fork_tests, forked, gives, is_of, maps_of, tasks_of}
use Rattle.std.specs.List.{list_any}
use Rattle.hp_model.proofs.Counting.{count_cons}
use Rattle.hp_lookup.proofs.Words.{all_maps, all_tasks}
use Rattle.hp_lookup.proofs.ForkCounts.{count_after, tasks_after}
use Rattle.hp_mount_laws.specs.Done.{Tried}
use Rattle.hp_mount_laws.specs.Reach.{first_of}
use Rattle.hp_mount_laws.proofs.Trying.{tests_fail, tests_pass}
use Rattle.hp_mount_laws.proofs.Ways.{fresh_choice, is_fresh, refused_at}

-- whether there are too many after a fork
module _ (m : Mount) (parent child : ℕ) where
  abbrev maps : ℕ
  maps = length (maps_of (forked parent child m))

  abbrev tasks : ℕ
  tasks = length (tasks_of (forked parent child m))

  abbrev pub many : Bool
  many = nat_lt 4096 maps || nat_lt 4096 tasks

  pub many_maps : 4096 < maps → many ≡ true
  many_maps over = (let t : nat_lt 4096 maps ≡ true = grind (arith, nat_tests, over) in ap (λ b. b || nat_lt 4096 tasks) t)

  pub by_tasks : maps ≤ 4096 → many ≡ nat_lt 4096 tasks
  by_tasks few = (let f : nat_lt 4096 maps ≡ false = grind (arith, nat_tests, few) in ap (λ b. b || nat_lt 4096 tasks) f)

  pub few_maps : many ≡ false → maps ≤ 4096
  few_maps under = ⊎_elim (λ (l : 4096 < maps). (let clash : true ≡ false = sym (many_maps l) ∙ under in cc)) (λ (l : maps ≤ 4096). l) (cases_lt 4096 maps)

module _ {X : Type 0} (took : X → Section → PoolAnswer → X → Type 0) (full : X → Type 0) (m : Mount) (parent child : ℕ) (door : X) where
  abbrev after : Plan
  after = gives Done (Some m) (Some (forked parent child m))

  pub too_many : many m parent child ≡ true → Tried took full (λ c. fork_maps c m parent child) (Some m) door (Err r.TooMany) (Some m) door
  too_many over = (
    fresh_choice false (Some m),
    is_fresh false (Some m),
    subst (λ p. ThroughDoor took p (Some m) door (Err r.TooMany) (Some m) door)
        (sym (tests_fail (fork_tests (fresh_choice false (Some m)) m parent child) after r.TooMany
        (ap (λ t. first_of ((t, r.TooMany) ∷ (false, r.OutOfMemory) ∷ [])) over))) (refused_at took m r.TooMany door),
  )

  module _ (under : many m parent child ≡ false) where
    pub no_memory : Tried took full (λ c. fork_maps c m parent child) (Some m) door (Err r.OutOfMemory) (Some m) door
    no_memory = (
      fresh_choice true (Some m),
      is_fresh true (Some m),
      subst (λ p. ThroughDoor took p (Some m) door (Err r.OutOfMemory) (Some m) door)
          (sym (tests_fail (fork_tests (fresh_choice true (Some m)) m parent child) after r.OutOfMemory
          (ap (λ t. first_of ((t, r.TooMany) ∷ (true, r.OutOfMemory) ∷ [])) under))) (refused_at took m r.OutOfMemory door),
    )

    pub forks : (n : Mount) (left : X) → ThroughDoor took after (Some m) door (Ok Done) (Some n) left → Tried took full (λ c. fork_maps c m parent child) (Some m) door (Ok Done) (Some n) left
    forks n left h = (
      fresh_choice false (Some m),
      is_fresh false (Some m),
      subst (λ p. ThroughDoor took p (Some m) door (Ok Done) (Some n) left) (sym
          (tests_pass (fork_tests (fresh_choice false (Some m)) m parent child) after
          (ap (λ t. first_of ((t, r.TooMany) ∷ (false, r.OutOfMemory) ∷ [])) under))) h,
    )

-- ---- the counts

has_count : (t : ℕ) (ms : List Map) → list_any (is_of t) ms ≡ nat_lt 0 (count_by (is_of t) ms)
has_count t [] = refl
has_count t (m ∷ ms) = at (is_of t m) (count_cons (is_of t) m ms) (has_count t ms)
  where
    some : (n k : ℕ) → n ≡ 1 + k → nat_lt 0 n ≡ true
    some n k e = grind (arith, nat_tests, e)

    at : (b : Bool) → count_by (is_of t) (m ∷ ms) ≡ cond {A = ℕ} b 1 0 + count_by (is_of t) ms →
        list_any (is_of t) ms ≡ nat_lt 0 (count_by (is_of t) ms) → (b || list_any (is_of t) ms) ≡ nat_lt 0 (count_by (is_of t) (m ∷ ms))
    at true step had = sym (some (count_by (is_of t) (m ∷ ms)) (count_by (is_of t) ms) step)
    at false step had = (let same : count_by (is_of t) ms ≡ count_by (is_of t) (m ∷ ms) = omega (arith, step) in had ∙ ap (λ n. nat_lt 0 n) same)

few_count : (t : ℕ) (ms : List Map) → count_by (is_of t) ms ≤ length ms
few_count t [] = omega arith
few_count t (m ∷ ms) = at (is_of t m) (count_cons (is_of t) m ms) (few_count t ms)
  where
    at : (b : Bool) → count_by (is_of t) (m ∷ ms) ≡ cond {A = ℕ} b 1 0 + count_by (is_of t) ms → count_by (is_of t) ms ≤ length ms → count_by (is_of t) (m ∷ ms) ≤ length (m ∷ ms)
    at true step had = omega (arith, step, had)
    at false step had = omega (arith, step, had)

module _ (m : Mount) (parent child : ℕ) (apart : (parent == child) ≡ false) where
  pub maps_are : length (maps_of (forked parent child m)) ≡ length (all_maps m.files) - count_by (is_of child) (all_maps m.files) + count_by (is_of parent) (all_maps m.files)
  maps_are = (let all = count_after parent child apart m.files in let few = few_count child (all_maps m.files) in omega (arith, all, few))

  pub tasks_are : length (tasks_of (forked parent child m)) + cond (nat_lt 0 (count_by (is_of child) (all_maps m.files))) 1 0
      ≡ length (all_tasks m.files) + cond (nat_lt 0 (count_by (is_of parent) (all_maps m.files))) 1 0
  tasks_are = tasks_after parent child apart m.files (nat_lt 0 (count_by (is_of child) (all_maps m.files)))
      (nat_lt 0 (count_by (is_of parent) (all_maps m.files))) (has_count child (all_maps m.files)) (has_count parent (all_maps m.files))
