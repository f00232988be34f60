-- What the footprint of a step tells of each slot.
use Rattle.std.proofs.Common.{◌≡◌, subst, ℕ, zero, suc, Bool, true, false, None, Option, Some, Ok, Err, Result, option_map, List, [], ◌∷◌, map, refl, sym, ap, if◌then◌else◌, get_or, slice_set}
use Rattle.std.proofs.Common.{slice_index_or, ◌∙◌, MatchBool, arith}
use Rattle.hp_laws.proofs.Variants.{Answer, Limits, MapNo, Refusal}
use Rattle.hp_model.proofs.Words.{Mount, Slot, State, has_maps_of, slot_at, with_slot, home_of, is_known, is_map, spot}
use Rattle.hp_model.specs.machine.Footprint.{IsButNodes, IsNewNumber, IsOfLimits, There, at_each, where_mapped, Changes, ChangesRefused, childs, of_others, with_childs, with_maps}
use Rattle.hp_model.specs.declared.step.Step.TheVariants as step
use Rattle.hp_laws.proofs.footprint.Ranges.{each_of}

-- ---- lists

pub put_at : {X : Type 0} (Q : X → Type 0) (xs : List X) (k j : ℕ) (x d : X) → (j ≡ k → Q x) → Q (get_or xs j d) → Q (get_or (slice_set xs k x) j d)
put_at Q [] k j x d here rest = rest
put_at Q (y ∷ ys) zero zero x d here rest = here refl
put_at Q (y ∷ ys) zero (suc j) x d here rest = rest
put_at Q (y ∷ ys) (suc k) zero x d here rest = rest
put_at Q (y ∷ ys) (suc k) (suc j) x d here rest = put_at Q ys k j x d (λ e. here (ap suc e)) rest

pub mapped_at : {X : Type 0} (Q : X → Type 0) (f : X → X) (d : X) → f d ≡ d → (xs : List X) (j : ℕ) → Q (f (get_or xs j d)) → Q (get_or (map f xs) j d)
mapped_at Q f d none [] j h = subst Q none h
mapped_at Q f d none (x ∷ xs) zero h = h
mapped_at Q f d none (x ∷ xs) (suc j) h = mapped_at Q f d none xs j h

-- ---- what is there

pub there_all : {X Q : Type 0} (P : X → Type 0) (o : Option X) → There o P → ((x : X) → o ≡ Some x → P x → Q) → Q
there_all P None there h = absurd there
there_all P (Some x) it h = h x refl it

pub number_all : {Q : Type 0} (m : Mount) (task : ℕ) (P : ℕ → Type 0) (a : Answer) → IsNewNumber m task a P → ((n : ℕ) → spot m (is_map task n) ≡ None → P n → Q) → Q
number_all m task P (MapNo n) is h = h n is.0 is.1
number_all m task P other is h = absurd is

pub limits_all : {Q : Type 0} (P : Limits → Type 0) (r : Result Limits Refusal) → IsOfLimits r P → ((l : Limits) → P l → Q) → Q
limits_all P (Ok l) is h = h l is
limits_all P (Err r) is h = absurd is

-- ---- slots

-- R holds of each slot, as it was and as it is, where it holds of what the step leaves
module _ (R : ℕ → Slot → Slot → Type 0) (same : (k : ℕ) (x : Slot) → R k x x) (s t : State) where
  abbrev pub All : Type 0
  All = (j : ℕ) → R j (slot_at s j) (slot_at t j)

  pub at_rest : t.slots ≡ s.slots → All
  at_rest e j = subst (λ (xs : List Slot). R j (slot_at s j) (slice_index_or xs j None)) (sym e) (same j (slot_at s j))

  pub set_to : (k : ℕ) (x : Slot) → t.slots ≡ slice_set s.slots k x → R k (slot_at s k) x → All
  set_to k x e here j =
      subst (λ (xs : List Slot). R j (slot_at s j) (slice_index_or xs j None)) (sym e)
      (put_at (λ y. R j (slot_at s j) y) s.slots k j x None (λ at. subst (λ i. R i (slot_at s i) x) (sym at) here) (same j (slot_at s j)))

  pub leaves_to : (k : ℕ) (x : Slot) → IsButNodes (with_slot s k x) t → R k (slot_at s k) x → All
  leaves_to k x is here = set_to k x (ap (λ u. u.slots) is.0) here

  -- on each slot on which the task has maps
  pub task_to : (task : ℕ) (g : Mount → Mount) → t.slots ≡ where_mapped task g s.slots → ((k : ℕ) (m : Mount) → slot_at s k ≡ Some m → R k (Some m) (Some (g m))) → All
  task_to task g e here j =
      subst (λ (xs : List Slot). R j (slot_at s j) (slice_index_or xs j None)) (sym e)
      (mapped_at (λ y. R j (slot_at s j) y) change None refl s.slots j (by_slot (slot_at s j) refl (has_maps_of task (slot_at s j))))
    where
      change : Slot → Slot
      change slot = if has_maps_of task slot then option_map g slot else slot

      by_slot : (o : Slot) → slot_at s j ≡ o → (b : Bool) → R j o (if b then option_map g o else o)
      by_slot None is true = same j None
      by_slot None is false = same j None
      by_slot (Some m) is true = here j m is
      by_slot (Some m) is false = same j (Some m)

  -- where maps of a task end, or are made for a child
  module _ (gone : ℕ) (ends : (j : ℕ) (m : Mount) → R j (Some m) (Some (with_maps (of_others gone) m))) where
    pub exit_to : (a : Answer) → Changes s (step.Exit gone) a t → All
    exit_to a is = task_to gone (with_maps (of_others gone)) (ap (λ u. u.slots) is.0) (λ k m e. ends k m)

    pub fork_to : (parent : ℕ) → ((j : ℕ) (m : Mount) → R j (Some m) (Some (with_maps (with_childs parent gone) m))) → (a : Answer) → Changes s (step.Fork parent gone) a t → All
    fork_to parent childs a is =
        there_all _ (home_of s.table parent) is (λ home known left. task_to parent (with_maps (with_childs parent gone)) (ap (λ u. u.slots) left.0) (λ k m e. childs k m))

    pub fork_back : (parent : ℕ) (r : Refusal) → ChangesRefused s (step.Fork parent gone) r t → All
    fork_back parent r is = by_known (is_known s.table gone) is
      where
        clears : Slot → Slot
        clears slot = option_map (with_maps (of_others gone)) slot

        by_known : (b : Bool) → MatchBool b (t ≡ s) ((done : ℕ → Bool) × IsButNodes (record s { slots = at_each (λ k slot. if done k then clears slot else slot) 0 s.slots }) t) → All
        by_known true e = at_rest (ap (λ u. u.slots) e)
        by_known false is = λ j.
            (let now = each_of (λ y. y) (λ k slot. if is.0 k then clears slot else slot) None (λ i. none (is.0 i)) 0 s.slots j j (omega arith) in
            subst (λ y. R j (slot_at s j) y) (sym (ap (λ (u : State). slot_at u j) is.1.0 ∙ now)) (by_slot j (slot_at s j) (is.0 j)))
          where
            none : (b : Bool) → (if b then clears None else None) ≡ None
            none true = refl
            none false = refl

            by_slot : (j : ℕ) (o : Slot) (b : Bool) → R j o (if b then clears o else o)
            by_slot j None true = same j None
            by_slot j (Some m) true = ends j m
            by_slot j o false = same j o
