-- The numbers of a task's maps, and the next one.
use Rattle.std.proofs.Common.{◌≡◌, ℕ, zero, suc, ◌+◌, ◌<◌, ◌≤◌, ◌==◌, ◌||◌, ⊎_elim, Bool, true, false, not, cond, List, [], ◌∷◌, ◌++◌, length, map, refl, sym, ap, subst, ◌∙◌, arith, count_by, filter}
use Rattle.std.proofs.Common.{flat_map}
use Rattle.std.specs.List.{position_or_len, range_with_len}
use Rattle.std.proofs.lemmas.Bool.{cases_lt}
use Rattle.std.proofs.lemmas.Bool.Decides.{nat_tests}
use Rattle.std.proofs.lemmas.List.{map-append}
use Rattle.std.proofs.lemmas.List.Elements.{filter-append}
use Rattle.std.proofs.lemmas.List.FromFn.{get_or-range_with_len, length-range_with_len}
use Rattle.std.proofs.lemmas.List.Sums.{fails_before_first, passes_at_first}
use Rattle.hp_model.proofs.Words.{Map, Mapping, distinct, is_among, is_of, least_unused, numbers_of}
use Rattle.hp_model.proofs.Counting.{count_cons, count_not, count_outside}
use Rattle.hp_model.proofs.Finding as finding
use Rattle.hp_store.specs.Store.{Store}
use Rattle.hp_lookup.proofs.Words.{NumberedFile, all_maps, files_shown, map_shown, numbers_in}
use Rattle.hp_lookup.proofs.Unique.{none_found}

-- ---- the numbers of a task's maps

pub numbers_append : (task : ℕ) (xs ys : List (Mapping ℕ)) → numbers_in task (xs ++ ys) ≡ numbers_in task xs ++ numbers_in task ys
numbers_append task xs ys = ap (map (λ m. m.number)) (filter-append (is_of task) xs ys) ∙ map-append (λ m. m.number) (filter (is_of task) xs) (filter (is_of task) ys)

abbrev maps_in : List NumberedFile → List (Mapping ℕ)
maps_in fs = flat_map (λ f. f.maps) fs

-- ---- the tasks that have maps

or_same : (b c : Bool) → (b ≡ true → c ≡ true) → (b || c) ≡ c
or_same true c e = sym (e refl)
or_same false c e = refl

pub among_distinct : (q : ℕ) (xs : List ℕ) → is_among q (distinct xs) ≡ is_among q xs
among_distinct q [] = refl
among_distinct q (x ∷ xs) =
    elim (is_among x xs) as (λ b. is_among x xs ≡ b → is_among q (cond b (distinct xs) (x ∷ distinct xs)) ≡ ((x == q) || is_among q xs)) [
      | true ↦ λ e.
          among_distinct q xs ∙ sym (or_same (x == q) (is_among q xs) (λ same. (let one : x ≡ q = grind (arith, nat_tests, same) in subst (λ k. is_among k xs ≡ true) one e)))
      | false ↦ λ e. ap (λ b. (x == q) || b) (among_distinct q xs)
    ] refl

-- ---- as the machine shows them

numbers_seen : (s : Store) (task : ℕ) (ms : List (Mapping ℕ)) → numbers_of task (map (map_shown s) ms) ≡ numbers_in task ms
numbers_seen s task [] = refl
numbers_seen s task (m ∷ ms) = either (is_of task m) (numbers_seen s task ms)
  where
    either : (b : Bool) → numbers_of task (map (map_shown s) ms) ≡ numbers_in task ms
        → map (λ (x : Map). x.number) (cond b (map_shown s m ∷ filter (is_of task) (map (map_shown s) ms))
        (filter (is_of task) (map (map_shown s) ms))) ≡ map (λ (x : Mapping ℕ). x.number)
        (cond b (m ∷ filter (is_of task) ms) (filter (is_of task) ms))
    either true rest = ap (λ ns. m.number ∷ ns) rest
    either false rest = rest

maps_seen : (s : Store) (fs : List NumberedFile) → all_maps (files_shown s fs) ≡ map (map_shown s) (maps_in fs)
maps_seen s [] = refl
maps_seen s (f ∷ fs) = ap (λ ms. map (map_shown s) f.maps ++ ms) (maps_seen s fs) ∙ sym (map-append (map_shown s) f.maps (maps_in fs))

pub numbers_shown : (s : Store) (task : ℕ) (fs : List NumberedFile) → numbers_in task (flat_map (λ f. f.maps) fs) ≡ numbers_of task (all_maps (files_shown s fs))
numbers_shown s task fs = sym (ap (numbers_of task) (maps_seen s fs) ∙ numbers_seen s task (maps_in fs))

-- ---- the least unused number is not used

one_at_most : (x a n : ℕ) → count_by (λ k. x == k) (range_with_len a n) ≤ 1
one_at_most x a zero = omega arith
one_at_most x a (suc n) =
    let step = count_cons (λ k. x == k) a (range_with_len (a + 1) n) in
    let rest = one_at_most x (a + 1) n in
    either (x == a) refl step rest
  where
    either : (b : Bool) → (x == a) ≡ b → count_by (λ k. x == k) (a ∷ range_with_len (a + 1) n) ≡ cond b 1 0
        + count_by (λ k. x == k) (range_with_len (a + 1) n) → count_by (λ k. x == k) (range_with_len (a + 1) n) ≤ 1 →
        count_by (λ k. x == k) (a ∷ range_with_len (a + 1) n) ≤ 1
    either true e step rest =
        let same : x ≡ a = grind (arith, nat_tests, e) in
        let none = count_outside (λ k. x == k) (a + 1) n (λ i low high. grind (arith, nat_tests, same, low)) in
        omega (arith, step, none)
    either false e step rest = omega (arith, step, rest)

either_at_most : (p q : ℕ → Bool) (xs : List ℕ) → count_by (λ k. p k || q k) xs ≤ count_by p xs + count_by q xs
either_at_most p q [] = omega arith
either_at_most p q (x ∷ xs) =
    let all = count_cons (λ k. p k || q k) x xs in
    let left = count_cons p x xs in
    let right = count_cons q x xs in
    let rest = either_at_most p q xs in
    bits (p x) (q x) all left right rest
  where
    bits : (b c : Bool) → count_by (λ k. p k || q k) (x ∷ xs) ≡ cond (b || c) 1 0 + count_by (λ k. p k || q k) xs →
        count_by p (x ∷ xs) ≡ cond b 1 0 + count_by p xs → count_by q (x ∷ xs) ≡ cond c 1 0 + count_by q xs
        → count_by (λ k. p k || q k) xs ≤ count_by p xs + count_by q xs → count_by (λ k. p k || q k) (x ∷ xs) ≤ count_by p (x ∷ xs) + count_by q (x ∷ xs)
    bits true c all left right rest = omega (arith, all, left, right, rest)
    bits false true all left right rest = omega (arith, all, left, right, rest)
    bits false false all left right rest = omega (arith, all, left, right, rest)

pub few_among : (xs : List ℕ) (a n : ℕ) → count_by (λ k. is_among k xs) (range_with_len a n) ≤ length xs
few_among [] a n = (let none = count_outside (λ k. false) a n (λ i low high. refl) in omega (arith, none))
few_among (x ∷ xs) a n = (let both = either_at_most (λ k. x == k) (λ k. is_among k xs) (range_with_len a n) in let one = one_at_most x a n in
    let rest = few_among xs a n in omega (arith, both, one, rest))

not_true : (b : Bool) → not b ≡ true → b ≡ false
not_true true e = cc
not_true false e = refl

module _ (xs : List ℕ) where
  abbrev unused : ℕ → Bool
  unused n = not (is_among n xs)

  abbrev range : List ℕ
  range = range_with_len 1 (length xs + 1)

  abbrev place : ℕ
  place = position_or_len unused range

  found_one : place < length range → is_among (least_unused xs) xs ≡ false
  found_one l =
      let long = length-range_with_len 1 (length xs + 1) in
      let at = get_or-range_with_len 1 (length xs + 1) place 0 (omega (arith, l, long)) in
      not_true (is_among (1 + place) xs) (ap unused (sym at) ∙ passes_at_first unused range 0 l)

  all_used : length range ≤ place → ⊥
  all_used l =
      let none = none_found unused range (finding.found_none unused range 0 (λ k less. fails_before_first unused range k 0 (omega (arith, l, less)))) in
      let both = count_not (λ n. is_among n xs) range in
      let few = few_among xs 1 (length xs + 1) in
      let long = length-range_with_len 1 (length xs + 1) in
      omega (arith, none, both, few, long)

  pub unused_is_new : is_among (least_unused xs) xs ≡ false
  unused_is_new = ⊎_elim found_one (λ past. absurd (all_used past)) (cases_lt place (length range))

pub distinct_few : (xs : List ℕ) → length (distinct xs) ≤ length xs
distinct_few [] = omega arith
distinct_few (x ∷ xs) = either (distinct xs) (is_among x xs) (distinct_few xs)
  where
    either : (ys : List ℕ) (b : Bool) → length ys ≤ length xs → length (cond b ys (x ∷ ys)) ≤ length (x ∷ xs)
    either ys true rest = omega (arith, rest)
    either ys false rest = omega (arith, rest)
