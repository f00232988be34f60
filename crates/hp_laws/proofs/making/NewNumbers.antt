-- The number of a new map is one that its task doesn't use, and where such a map is found.
use Rattle.std.proofs.Common.{◌≡◌, ⊎_elim, inl, inr, ◌⊎◌, subst, ℕ, zero, suc, ◌+◌, ◌<◌, ◌≤◌, ◌||◌, ◌==◌, Bool, true, false, None, List, [], ◌∷◌, length, not}
use Rattle.std.proofs.Common.{refl, arith, if◌then◌else◌}
use Rattle.std.specs.List.{list_any, position_or_len, range_with_len}
use Rattle.std.proofs.lemmas.Bool.{eqb-true, false_from_ne_true, or_cases}
use Rattle.hp_model.proofs.Words.{Map, distinct, found, is_among, is_map, least_unused, numbers_of}
use Rattle.hp_laws.proofs.counts.CopiesHeld.{fewer_members}

-- ---- the least unused number

distinct_few : (xs : List ℕ) → length (distinct xs) ≤ length xs
distinct_few [] = omega arith
distinct_few (x ∷ xs) = few_more (is_among x xs) (distinct_few xs)
  where
    few_more : (b : Bool) → length (distinct xs) ≤ length xs → length (if b then distinct xs else x ∷ distinct xs) ≤ suc (length xs)
    few_more true l = omega (arith, l)
    few_more false l = omega (arith, l)

below_range : (q a k : ℕ) → q < a → is_among q (range_with_len a k) ≡ false
below_range q a zero l = refl
below_range q a (suc k) l = rw (false_from_ne_true (a == q) (λ e. (let same = eqb-true a q e in absurd (omega (arith, same, l)))), below_range q (a + 1) k (omega (arith, l))) refl

distinct_range : (a k : ℕ) → length (distinct (range_with_len a k)) ≡ k
distinct_range a zero = refl
distinct_range a (suc k) = rw (below_range a (a + 1) k (omega arith)) (omega (arith, distinct_range (a + 1) k))

-- the first number of the range that passes, or none passes
abbrev FirstOrNone : (ℕ → Bool) → ℕ → List ℕ → Type 0
FirstOrNone t a ns = (t (a + position_or_len t ns) ≡ true) ⊎ ((q : ℕ) → is_among q ns ≡ true → t q ≡ false)

first_or_none : (t : ℕ → Bool) (a k : ℕ) → FirstOrNone t a (range_with_len a k)
first_or_none t a zero = inr (λ q e. cc)
first_or_none t a (suc k) = by_test (t a) refl (first_or_none t (a + 1) k)
  where
    by_test : (b : Bool) → t a ≡ b → FirstOrNone t (a + 1) (range_with_len (a + 1) k) → FirstOrNone t a (range_with_len a (suc k))
    by_test true is rest = inl (rw is (subst (λ x. t x ≡ true) {x = a} {y = a + 0} (omega arith) is))
    by_test b is other = grind (arith, eqb-true, or_cases)

not_not : (b : Bool) → not b ≡ true → b ≡ false
not_not b e = grind arith

not_false : (b : Bool) → not b ≡ false → b ≡ true
not_false b e = grind arith

pub least_is_unused : (xs : List ℕ) → is_among (least_unused xs) xs ≡ false
least_is_unused xs =
    ⊎_elim (λ e. not_not (is_among (least_unused xs) xs) e)
    (λ none. (let few = fewer_members (range_with_len 1 (length xs + 1)) xs (λ q e. not_false (is_among q xs) (none q e)) in
    absurd (omega (arith, few, distinct_range 1 (length xs + 1), distinct_few xs))))
    (first_or_none (λ n. not (is_among n xs)) 1 (length xs + 1))

-- ---- maps of a task by their numbers

pub number_used : (task n : ℕ) (ms : List Map) → list_any (is_map task n) ms ≡ is_among n (numbers_of task ms)
number_used task n [] = refl
number_used task n (m ∷ ms) = by_task (m.task == task) refl (number_used task n ms)
  where
    by_task : (b : Bool) → (m.task == task) ≡ b → list_any (is_map task n) ms ≡ is_among n (numbers_of task ms) → list_any (is_map task n) (m ∷ ms) ≡ is_among n (numbers_of task (m ∷ ms))
    by_task true is rest = rw (is, rest) refl
    by_task false is rest = rw (is, rest) refl

-- ---- what is found after a change

-- where none passes, the first does not, and none of the others
none_first : (a b : Bool) → (a || b) ≡ false → a ≡ false
none_first a b e = grind arith

none_later : (a b : Bool) → (a || b) ≡ false → b ≡ false
none_later a b e = grind arith

module _ {X : Type 0} (t : X → Bool) where
  pub found_not : (xs : List X) → list_any t xs ≡ false → found t xs ≡ None
  found_not [] none = refl
  found_not (x ∷ xs) none = rw (none_first (t x) (list_any t xs) none, found_not xs (none_later (t x) (list_any t xs) none)) refl
