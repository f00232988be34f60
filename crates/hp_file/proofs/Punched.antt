use Rattle.std.proofs.lemmas.Grind.{common_steps}
-- A range of a list that is edited place by place.
use Rattle.std.proofs.Common.{◌≡◌, ◌≢◌, ℕ, zero, suc, ◌+◌, ◌<◌, ◌≤◌, ◌==◌, ⊎_elim, Bool, true, false, cond, nat_le, nat_lt, List, [], ◌∷◌, ◌++◌, length, take, drop, map, refl, sym, ap, ◌∙◌, arith}
use Rattle.std.proofs.Common.{slice_index_or, slice_set}
use Rattle.std.proofs.lemmas.Bool.{and_parts, leb-true, ltb-true}
use Rattle.std.proofs.lemmas.Bool.Decides.{eqb_tells, nat_tests}
use Rattle.std.proofs.lemmas.List.{get_or_default, get_or-set_other, get_or-set_same, length-set, same_lists, set-set, set_comm}
use Rattle.hp_model.proofs.Words.{edit_range, is_in}
use Rattle.hp_model.proofs.Editing.{length-edit_range}
use Rattle.hp_laws.proofs.ending.Cuts.{ranged}

pub in_from : (a b i : ℕ) → a ≤ i → i < b → is_in a b i ≡ true
in_from a b i low high = grind (arith, nat_tests)

pub in_parts : (a b i : ℕ) → is_in a b i ≡ true → (a ≤ i) × (i < b)
in_parts a b i e = (let parts = and_parts (nat_le a i) (nat_lt i b) e in (leb-true a i parts.0, ltb-true i b parts.1))

module _ {X : Type 0} (f : X → X) (d : X) (none : f d ≡ d) (a b : ℕ) where
  -- the same at each place, once it is edited
  pub edited_alike : (xs ys : List X) → length ys ≡ length xs → ((k : ℕ) → is_in a b k ≡ true → f (slice_index_or ys k d) ≡ f (slice_index_or xs k d))
      → ((k : ℕ) → is_in a b k ≡ false → slice_index_or ys k d ≡ slice_index_or xs k d)
      → edit_range f a b ys ≡ edit_range f a b xs
  edited_alike xs ys long inside outside =
      let left = length-edit_range f a b ys in
      let right = length-edit_range f a b xs in
      same_lists (edit_range f a b ys) (edit_range f a b xs) (left ∙ long ∙ sym right)
      (λ k e l. get_or_default (edit_range f a b ys) k e d l ∙ ranged f a b ys k d none ∙ step k (is_in a b k) refl ∙ sym (ranged f a b xs k d none)
      ∙ get_or_default (edit_range f a b xs) k d e (omega (arith, l, left, right, long)))
    where
      step : (k : ℕ) (c : Bool) → is_in a b k ≡ c → cond c (f (slice_index_or ys k d)) (slice_index_or ys k d) ≡ cond c (f (slice_index_or xs k d)) (slice_index_or xs k d)
      step k true e = inside k e
      step k false e = outside k e

  -- one place of the range was edited before
  pub edited_set : (xs : List X) (i : ℕ) (y : X) → i < length xs → is_in a b i ≡ true → f y ≡ f (slice_index_or xs i d) → edit_range f a b (slice_set xs i y) ≡ edit_range f a b xs
  edited_set xs i y l here same = edited_alike xs (slice_set xs i y) (length-set xs i y)
      (λ k in'. ⊎_elim
      (λ (e : ((k == i) ≡ true) × (k ≡ i)). ap (λ j. f (slice_index_or (slice_set xs i y) j d)) e.1 ∙ ap f (get_or-set_same xs i y d l) ∙ same ∙ ap (λ j. f (slice_index_or xs j d)) (sym e.1))
      (λ (e : ((k == i) ≡ false) × (k ≢ i)). ap f (get_or-set_other xs i k y d e.1))
      (eqb_tells k i))
      (λ k out. get_or-set_other xs i k y d (λ e. clash (sym here ∙ ap (is_in a b) (sym e) ∙ out)))
    where
      clash : true ≡ false → ⊥
      clash e = cc

  -- there is nothing to edit
  pub edited_done : (xs : List X) → ((k : ℕ) → is_in a b k ≡ true → f (slice_index_or xs k d) ≡ slice_index_or xs k d) → edit_range f a b xs ≡ xs
  edited_done xs inside =
      let left = length-edit_range f a b xs in
      same_lists (edit_range f a b xs) xs left
      (λ k e l. get_or_default (edit_range f a b xs) k e d l ∙ ranged f a b xs k d none ∙ step k (is_in a b k) refl ∙ get_or_default xs k d e (omega (arith, l, left)))
    where
      step : (k : ℕ) (c : Bool) → is_in a b k ≡ c → cond c (f (slice_index_or xs k d)) (slice_index_or xs k d) ≡ slice_index_or xs k d
      step k true e = inside k e
      step k false e = refl

-- ---- the first of a list are mapped, one by one

module _ {X : Type 0} (f : X → X) where
  abbrev pub first_mapped : ℕ → List X → List X
  first_mapped i xs = map f (take i xs) ++ drop i xs

  pub first_none : (xs : List X) → first_mapped 0 xs ≡ xs
  first_none [] = refl
  first_none (x ∷ xs) = refl

  pub first_next : (i : ℕ) (xs : List X) (d : X) → i < length xs → slice_index_or (first_mapped i xs) i d ≡ slice_index_or xs i d
  first_next i [] d l = absurd (omega (arith, l))
  first_next zero (x ∷ xs) d l = refl
  first_next (suc i) (x ∷ xs) d l = first_next i xs d (omega (arith, l))

  pub first_more : (i : ℕ) (xs : List X) (d : X) → i < length xs → slice_set (first_mapped i xs) i (f (slice_index_or xs i d)) ≡ first_mapped (suc i) xs
  first_more i [] d l = absurd (omega (arith, l))
  first_more zero (x ∷ []) d l = refl
  first_more zero (x ∷ y ∷ xs) d l = refl
  first_more (suc i) (x ∷ xs) d l = ap (λ ys. f x ∷ ys) (first_more i xs d (omega (arith, l)))

  pub first_all : (i : ℕ) (xs : List X) → length xs ≤ i → first_mapped i xs ≡ map f xs
  first_all zero [] l = refl
  first_all (suc i) [] l = refl
  first_all zero (x ∷ xs) l = absurd (omega (arith, l))
  first_all (suc i) (x ∷ xs) l = ap (λ ys. f x ∷ ys) (first_all i xs (omega (arith, l)))

  -- the next is mapped
  pub first_step : (i : ℕ) (xs was : List X) (d n : X) → i < length xs → was ≡ first_mapped i xs → n ≡ f (slice_index_or was i d) → slice_set was i n ≡ first_mapped (i + 1) xs
  first_step i xs was d n l was_is n_is =
      let more : suc i ≡ i + 1 = omega arith in
      ap (λ ys. slice_set ys i n) was_is ∙ ap (slice_set (first_mapped i xs) i) (n_is ∙ ap f (ap (λ ys. slice_index_or ys i d) was_is ∙ first_next i xs d l))
      ∙ first_more i xs d l ∙ ap (λ k. first_mapped k xs) more

  -- all but one, which stays
  module _ (k : ℕ) (m d : X) where
    pub kept_one : (xs : List X) → k < length xs → slice_set (first_mapped (k + 1) xs) k m ≡ slice_set (first_mapped k xs) k m
    kept_one xs l =
        let more : suc k ≡ k + 1 = omega arith in
        ap (λ i. slice_set (first_mapped i xs) k m) (sym more) ∙ ap (λ ys. slice_set ys k m) (sym (first_more k xs d l)) ∙ set-set (first_mapped k xs) k (f (slice_index_or xs k d)) m

    pub next_but_one : (i : ℕ) (xs was : List X) (n : X) → i < length xs → i ≢ k → was ≡ slice_set (first_mapped i xs) k m →
        n ≡ f (slice_index_or was i d) → slice_set was i n ≡ slice_set (first_mapped (i + 1) xs) k m
    next_but_one i xs was n l other was_is n_is = grind (arith, common_steps, get_or-set_other, set_comm, first_step)
