-- Numbers in order: what a search finds, and what stays in order.
use Rattle.std.proofs.Common.{◌≡◌, ◌≢◌, ℕ, suc, ◌+◌, ◌<◌, ◌≤◌, ◌==◌, eqb-true, List, [], ◌∷◌, length, get_or, inl, inr, Ok, Err, refl, ap, arith, count_by, remove}
use Rattle.std.specs.List.Sorted.{IsBinarySearchResult, IsNonDecreasing}
use Rattle.std.specs.Ordering.{nat_cmp}
use Rattle.std.proofs.lemmas.Bool.{false_from_ne_true}
use Rattle.std.proofs.lemmas.List.Edits.{length-remove, get_or-remove_below, get_or-remove_above}
use Rattle.std.proofs.lemmas.List.Sorted.{searched}
use Rattle.std.proofs.lemmas.Bool.{cases_lt}
use Rattle.hp_laws.proofs.lists.AtMostOne.{bit}
use Rattle.hp_model.proofs.Counting.{count_cons}
use Rattle.hp_tasks.specs.Table.{IsPlaceFor, IsPlaceOf}

none_of : (x : ℕ) (xs : List ℕ) → ((k : ℕ) → k < length xs → get_or xs k 0 ≢ x) → count_by (λ t. t == x) xs ≡ 0
none_of x [] apart = refl
none_of x (y ∷ xs) apart =
    let here = ap bit (false_from_ne_true (y == x) (λ t. apart 0 (omega arith) (eqb-true y x t))) in
    omega (arith, count_cons (λ t. t == x) y xs, here, none_of x xs (λ k l. apart (suc k) (omega (arith, l))))

module _ (xs : List ℕ) (x : ℕ) (up : IsNonDecreasing xs) where
  rise : (i j : ℕ) → i ≤ j → j < length xs → get_or xs i 0 ≤ get_or xs j 0
  rise i j le lt = up i j 0 le lt

  module _ (at : ℕ) where
    pub found : IsBinarySearchResult (λ y. nat_cmp y x) xs (Ok at) → IsPlaceOf xs x at
    found is = let there = searched xs x (Ok at) is rise in record { within = there.0; there = there.1 }

    pub found_for : IsBinarySearchResult (λ y. nat_cmp y x) xs (Ok at) → IsPlaceFor xs x at
    found_for is =
        let there = searched xs x (Ok at) is rise in
        record {
          within = omega (arith, there.0);
          before = λ k l. omega (arith, there.1, rise k at (omega (arith, l)) there.0);
          behind = λ k le l. omega (arith, there.1, rise at k le l);
        }

    pub absent : IsBinarySearchResult (λ y. nat_cmp y x) xs (Err at) → count_by (λ t. t == x) xs ≡ 0
    absent is =
        let parted = searched xs x (Err at) is rise in
        none_of x xs (λ k l same. elim (cases_lt k at) [
          | inl below ↦ omega (arith, parted.1 k below, same)
          | inr above ↦ omega (arith, parted.2 k above l, same)
        ])

    pub gap_for : IsBinarySearchResult (λ y. nat_cmp y x) xs (Err at) → IsPlaceFor xs x at
    gap_for is =
        let parted = searched xs x (Err at) is rise in
        record {
          within = parted.0;
          before = λ k l. omega (arith, parted.1 k l);
          behind = λ k le l. omega (arith, parted.2 k le l);
        }

    pub rise_removed : at < length xs → IsNonDecreasing (remove xs at)
    rise_removed in_range i j d le lt =
        let long = length-remove xs at in_range in
        let below = λ (k : ℕ) (lower : k < at). get_or-remove_below xs at d k lower in_range in
        let above = λ (k : ℕ) (higher : at ≤ k). get_or-remove_above xs at d k higher in_range in
        elim (cases_lt i at) [
          | inl i_below ↦ (elim (cases_lt j at) [
            | inl j_below ↦ omega (arith, below i i_below, below j j_below, up i j d le (omega (arith, j_below, in_range)))
            | inr j_above ↦ omega (arith, below i i_below, above j j_above, up i (j + 1) d (omega (arith, le)) (omega (arith, lt, long)))
          ])
          | inr i_above ↦ omega (arith, above i i_above, above j (omega (arith, i_above, le)), up (i + 1) (j + 1) d (omega (arith, le)) (omega (arith, lt, long)))
        ]
