-- What a step makes of the tasks, of nr and of overcommit: by the footprint.
use Rattle.std.proofs.Common.{◌≡◌, ℕ, ◌++◌, ◌==◌, List, length, nat_le, option_map, Bool, true, false, None, Option, Some, Ok, Err, [], ◌∷◌, refl, sym, ap, ◌∙◌, arith, MatchBool}
use Rattle.std.proofs.Common.{if◌then◌else◌}
use Rattle.hp_laws.proofs.Variants.{Answer, NoSuchNode, NoSuchTask, Refusal, TaskExists, TooMany}
use Rattle.hp_model.specs.declared.step.Step.{Step}
use Rattle.hp_model.specs.declared.step.Step.TheVariants as step
use Rattle.hp_model.proofs.Words.{IsForkRefusedBy, IsRefusedBy, MeetsTests, Reply, State, first_failed, home_of, if_there, is_crowded, is_known}
use Rattle.hp_laws.specs.Follows.{IsSet, home_after, nr_after, overcommit_after}
use Rattle.hp_model.specs.machine.Footprint.{Changes, ChangesRefused, IsButNodes}
use Rattle.hp_model.specs.machine.Footprint.{There, at_each, of_others, where_mapped, with_childs, with_maps}
use Rattle.hp_laws.proofs.keeping.Homes.{home_added, home_removed}

-- no test has failed
passed : (b : Bool) (r : Refusal) (more : List (Bool × Refusal)) (a : Answer) → IsRefusedBy (first_failed ((b, r) ∷ more)) (Ok a) → b ≡ false
passed true r more a is = (let never : Ok a ≡ Err r = is in cc)
passed false r more a is = refl

module _ (s t : State) where
  -- the table, nr, overcommit and the page size are as they were
  abbrev Same : Type 0
  Same = (t.table ≡ s.table) × (t.nr ≡ s.nr) × (t.overcommit ≡ s.overcommit) × (t.page_size ≡ s.page_size)

  -- those of another state, which has them
  pub by_state : (u : State) → IsButNodes u t → u.table ≡ s.table → u.nr ≡ s.nr → u.overcommit ≡ s.overcommit → u.page_size ≡ s.page_size → Same
  by_state u is table nr overcommit size = (ap (λ x. x.table) is.0 ∙ table, ap (λ x. x.nr) is.0 ∙ nr, ap (λ x. x.overcommit) is.0 ∙ overcommit, ap (λ x. x.page_size) is.0 ∙ size)

  pub itself : t ≡ s → Same
  itself e = (ap (λ x. x.table) e, ap (λ x. x.nr) e, ap (λ x. x.overcommit) e, ap (λ x. x.page_size) e)

  abbrev pub Left : Step → Reply → Type 0
  Left x reply = IsSet s x reply t × (t.page_size ≡ s.page_size)

  -- the step makes nothing of them
  pub record Unset (x : Step) (reply : Reply) : Type 0 where
    pub homes : (task : ℕ) → home_of s.table task ≡ home_after s x reply task
    pub nr : s.nr ≡ nr_after s x reply
    pub overcommit : s.overcommit ≡ overcommit_after s x reply

  pub unset : (x : Step) (reply : Reply) → Unset x reply → Same → Left x reply
  unset x reply is same =
      (record { homes = λ task. ap (λ y. home_of y task) same.0 ∙ is.homes task; nr = same.1 ∙ is.nr; overcommit = same.2 ∙ is.overcommit }, same.3)

  -- a task is added that was none
  joined : (x : Step) (a : Answer) (new home : ℕ) → is_known s.table new ≡ false → t.table ≡ s.table ++ (new, home) ∷ [] → t.nr ≡ s.nr → t.overcommit ≡ s.overcommit → t.page_size ≡ s.page_size
      → ((task : ℕ) → (if new == task then Some home else home_of s.table task) ≡ home_after s x (Ok a) task)
      → s.nr ≡ nr_after s x (Ok a) → s.overcommit ≡ overcommit_after s x (Ok a) → Left x (Ok a)
  joined x a new home unknown table nr overcommit size homes nr_is overcommit_is =
      (record { homes = λ task. ap (λ y. home_of y task) table ∙ home_added s.table new home task unknown ∙ homes task; nr = nr ∙ nr_is; overcommit = overcommit ∙ overcommit_is }, size)

  second_passed : (b c : Bool) (q r : Refusal) (more : List (Bool × Refusal)) (a : Answer) → IsRefusedBy (first_failed ((b, q) ∷ (c, r) ∷ more)) (Ok a) → c ≡ false
  second_passed true c q r more a is = (let never : Ok a ≡ Err q = is in cc)
  second_passed false c q r more a is = passed c r more a is

  fork_passed : (b : Bool) (r : Refusal) (more : List (Bool × Refusal)) (a : Answer) → IsForkRefusedBy (first_failed ((b, r) ∷ more)) (Ok a) → b ≡ false
  fork_passed true r more a is = (let never : Ok a ≡ Err r = is in cc)
  fork_passed false r more a is = refl

  pub fork_set : (parent child : ℕ) (a : Answer) → MeetsTests s (step.Fork parent child) (Ok a) → Changes s (step.Fork parent child) a t → Left (step.Fork parent child) (Ok a)
  fork_set parent child a met is = by_home (home_of s.table parent) refl met is
    where
      by_home : (o : Option ℕ) → home_of s.table parent ≡ o
          → IsForkRefusedBy (if_there o NoSuchTask (λ home. first_failed ((is_known s.table child, TaskExists) ∷ (is_crowded s.table, TooMany) ∷ []))) (Ok a)
          → There o (λ home. IsButNodes (record s { table = s.table ++ (child, home) ∷ []; slots = where_mapped parent (with_maps (with_childs parent child)) s.slots }) t)
          → Left (step.Fork parent child) (Ok a)
      by_home None e met there = absurd there
      by_home (Some home) e met it =
          joined (step.Fork parent child) a child home (fork_passed (is_known s.table child) TaskExists ((is_crowded s.table, TooMany) ∷ []) a met) (ap (λ x. x.table) it.0)
          (ap (λ x. x.nr) it.0) (ap (λ x. x.overcommit) it.0) (ap (λ x. x.page_size) it.0)
          (λ task. ap (λ o. if child == task then o else home_of s.table task) (sym e)) refl refl

  pub connect_set : (new home : ℕ) (a : Answer) → MeetsTests s (step.Connect new home) (Ok a) → Changes s (step.Connect new home) a t → Left (step.Connect new home) (Ok a)
  connect_set new home a met is =
      joined (step.Connect new home) a new home (second_passed (nat_le (length s.nodes) home) (is_known s.table new) NoSuchNode TaskExists ((is_crowded s.table, TooMany) ∷ []) a met)
      (ap (λ x. x.table) is) (ap (λ x. x.nr) is) (ap (λ x. x.overcommit) is) (ap (λ x. x.page_size) is)
      (λ task. refl) refl refl

  pub exit_set : (gone : ℕ) (a : Answer) → Changes s (step.Exit gone) a t → Left (step.Exit gone) (Ok a)
  exit_set gone a is =
      (record { homes = λ task. ap (λ x. home_of x.table task) is.0 ∙ home_removed s.table gone task; nr = ap (λ x. x.nr) is.0; overcommit = ap (λ x. x.overcommit) is.0 }, ap (λ x. x.page_size) is.0)

  -- a refused step makes nothing of them
  pub refused_unset : (x : Step) (r : Refusal) → Unset x (Err r)
  refused_unset x r = record { homes = λ task. homes task; nr = nr; overcommit = overcommit }
    where
      homes : (task : ℕ) → home_of s.table task ≡ home_after s x (Err r) task
      homes task = grind arith

      nr : s.nr ≡ nr_after s x (Err r)
      nr = grind arith

      overcommit : s.overcommit ≡ overcommit_after s x (Err r)
      overcommit = grind arith

  pub fork_same : (parent child : ℕ) (r : Refusal) → ChangesRefused s (step.Fork parent child) r t → Same
  fork_same parent child r is = by_known (is_known s.table child) is
    where
      by_known : (b : Bool) → MatchBool b (t ≡ s)
          ((done : ℕ → Bool) × IsButNodes (record s { slots = at_each (λ k slot. if done k then option_map (with_maps (of_others child)) slot else slot) 0 s.slots }) t) → Same
      by_known true e = itself e
      by_known false is =
          by_state (record s { slots = at_each (λ k slot. if is.0 k then option_map (with_maps (of_others child)) slot else slot) 0 s.slots }) is.1 refl refl refl refl
