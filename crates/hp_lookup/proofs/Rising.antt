-- Numbers that rise: where one is found, and which is the least that is not among them.
use Rattle.std.proofs.Common.{◌≡◌, ◌≢◌, ℕ, zero, suc, ◌+◌, ◌-◌, ◌<◌, ◌≤◌, ◌==◌, true, false, not, List, [], ◌∷◌, length, get_or, refl, sym, ap, ◌∙◌, arith, eqb-true, eq-eqb, inl, inr, Ok}
use Rattle.std.proofs.Common.{Err, Result, IfOk, IfErr, insert, remove}
use Rattle.std.specs.List.{slice_index}
use Rattle.std.specs.List.Sorted.{IsStrictlyIncreasing, IsBinarySearchResult}
use Rattle.std.specs.Ordering.{nat_cmp}
use Rattle.std.proofs.lemmas.List.Edits.{length-insert, length-remove, get_or-insert_at, get_or-insert_below, get_or-insert_above, get_or-remove_below, get_or-remove_above}
use Rattle.std.proofs.lemmas.List.Sorted.{searched}
use Rattle.hp_lookup.specs.Table.{IsGap, IsPlace}
use Rattle.std.proofs.lemmas.Bool.{cases_lt, false_from_ne_true}
use Rattle.std.proofs.lemmas.List.Folds.{list_any_at}
use Rattle.hp_model.specs.Lists.{is_among}

pub none_is : (x : ℕ) (xs : List ℕ) → ((k : ℕ) → k < length xs → get_or xs k 0 ≢ x) → is_among x xs ≡ false
none_is x [] apart = refl
none_is x (y ∷ xs) apart = rw (false_from_ne_true (y == x) (λ t. apart 0 (omega arith) (eqb-true y x t)), none_is x xs (λ k l. apart (suc k) (omega (arith, l)))) refl

module _ (xs : List ℕ) (up : IsStrictlyIncreasing xs) where
  -- the numbers rise by 1 at least
  pub gap : (i n : ℕ) → i + n < length xs → get_or xs i 0 + n ≤ get_or xs (i + n) 0
  gap i zero l = (let same : i + 0 ≡ i = omega arith in rw same (omega arith))
  gap i (suc n) l =
      let rest = gap i n (omega (arith, l)) in
      let step = up (i + n) (omega (arith, l)) in
      let same : i + suc n ≡ i + n + 1 = omega arith in
      rw same (omega (arith, rest, step))

  pub far : (i j : ℕ) → i ≤ j → j < length xs → get_or xs i 0 + j ≤ get_or xs j 0 + i
  far i j le l = (let same : i + (j - i) ≡ j = omega (arith, le) in let more = rw same at (gap i (j - i) (omega (arith, le, l))) in omega (arith, more, le))

  module _ (from : 0 < length xs → 1 ≤ slice_index xs 0) where
    pub above : (i : ℕ) → i < length xs → i + 1 ≤ get_or xs i 0
    above i l = (let more = far 0 i (omega arith) l in let one = from (omega (arith, l)) in omega (arith, more, one))

    -- up to a number that is its place's all are, and from another on none is
    pub full_below : (mid i : ℕ) → mid < length xs → get_or xs mid 0 ≡ mid + 1 → i ≤ mid → get_or xs i 0 ≡ i + 1
    full_below mid i l is le = (let more = far i mid le l in let least = above i (omega (arith, le, l)) in omega (arith, more, least, is))

    pub gone_above : (mid i : ℕ) → mid ≤ i → i < length xs → get_or xs mid 0 ≢ mid + 1 → i + 1 < get_or xs i 0
    gone_above mid i le l isnt = (let more = far mid i le l in let least = above mid (omega (arith, le, l)) in omega (arith, more, least, isnt))

    module _ (low : ℕ) (within : low ≤ length xs) (full : (i : ℕ) → i < low → get_or xs i 0 ≡ i + 1) (gone : (i : ℕ) → low ≤ i → i < length xs → i + 1 < get_or xs i 0) where
      pub next_used : (k : ℕ) → 1 ≤ k → k < low + 1 → is_among k xs ≡ true
      next_used k one less =
          let here : get_or xs (k - 1) 0 ≡ k = full (k - 1) (omega (arith, one, less)) ∙ omega (arith, one) in
          list_any_at (λ x. x == k) xs (k - 1) 0 (omega (arith, one, less, within)) (eq-eqb (get_or xs (k - 1) 0) k here)

      pub next_free : is_among (low + 1) xs ≡ false
      next_free = none_is (low + 1) xs (λ k l same. elim (cases_lt k low) [
        | inl below ↦ omega (arith, full k below, same, below)
        | inr past ↦ omega (arith, gone k past l, same, past)
      ])

    -- ---- a binary search for the least number that is not there

    pub up_to : (mid m : ℕ) → m ≡ mid + 1 → mid < length xs → get_or xs mid 0 ≡ mid + 1 → (i : ℕ) → i < m → get_or xs i 0 ≡ i + 1
    up_to mid m e l is i le = full_below mid i l is (omega (arith, le, e))

    pub from_on : (mid : ℕ) → get_or xs mid 0 ≢ mid + 1 → (i : ℕ) → mid ≤ i → i < length xs → i + 1 < get_or xs i 0
    from_on mid isnt i le l = gone_above mid i le l isnt

  -- ---- what a search for a number finds

  pub level : (i j : ℕ) → i ≤ j → j < length xs → get_or xs i 0 ≤ get_or xs j 0
  level i j le l = (let more = far i j le l in omega (arith, more, le))

  module _ (x : ℕ) where
    found_there : (at : ℕ) → IsBinarySearchResult (λ y. nat_cmp y x) xs (Ok at) → IsPlace xs x at
    found_there at is = let found = searched xs x (Ok at) is level in record { within = found.0; there = found.1 }

    found_gap : (at : ℕ) → IsBinarySearchResult (λ y. nat_cmp y x) xs (Err at) → IsGap xs x at
    found_gap at is = let parted = searched xs x (Err at) is level in record { within = parted.0; before = parted.1; behind = parted.2 }

    pub search_place : (r : Result ℕ ℕ) → IsBinarySearchResult (λ y. nat_cmp y x) xs r → IfOk r (IsPlace xs x)
    search_place (Ok at) is = found_there at is
    search_place (Err at) is = tt

    pub search_gap : (r : Result ℕ ℕ) → IsBinarySearchResult (λ y. nat_cmp y x) xs r → IfErr r (IsGap xs x)
    search_gap (Ok at) is = tt
    search_gap (Err at) is = found_gap at is

    pub gap_none : (at : ℕ) → IsGap xs x at → is_among x xs ≡ false
    gap_none at g = none_is x xs (λ k l same. elim (cases_lt k at) [
      | inl below ↦ omega (arith, g.before k below, same)
      | inr past ↦ omega (arith, g.behind k past l, same)
    ])

  -- ---- one goes in, or out

  pub rise_inserted : (x at : ℕ) → IsGap xs x at → IsStrictlyIncreasing (insert xs at x)
  rise_inserted x at g k l =
      let long = length-insert xs at x g.within in
      let below = λ (j : ℕ) (lower : j < at). get_or-insert_below xs at x 0 j lower g.within in
      let here = get_or-insert_at xs at x 0 g.within in
      let above = λ (j : ℕ) (higher : at ≤ j). get_or-insert_above xs at x 0 j higher g.within in
      elim (cases_lt (k + 1) at) [
        | inl both ↦ omega (arith, below k (omega (arith, both)), below (k + 1) both, up k (omega (arith, both, g.within)))
        | inr past ↦ (elim (cases_lt k at) [
          | inl low ↦ (let same : k + 1 ≡ at = omega (arith, low, past) in omega (arith, below k low, ap (λ j. get_or (insert xs at x) j 0) same ∙ here, g.before k low))
          | inr high ↦ (elim (cases_lt at k) [
            | inl higher ↦ (let back : k - 1 + 1 ≡ k = omega (arith, higher) in
                let before = ap (λ j. get_or (insert xs at x) j 0) (sym back) ∙ above (k - 1) (omega (arith, higher)) in
                omega (arith, before, above k high, ap (λ j. get_or xs j 0) back, up (k - 1) (omega (arith, higher, l, long))))
            | inr same ↦ (let is : k ≡ at = omega (arith, high, same) in omega (arith, ap (λ j. get_or (insert xs at x) j 0) is ∙ here, above k high, g.behind k high (omega (arith, l, long))))
          ])
        ])
      ]

  pub rise_removed : (at : ℕ) → at < length xs → IsStrictlyIncreasing (remove xs at)
  rise_removed at inside k l =
      let long = length-remove xs at inside in
      let below = λ (j : ℕ) (lower : j < at). get_or-remove_below xs at 0 j lower inside in
      let above = λ (j : ℕ) (higher : at ≤ j). get_or-remove_above xs at 0 j higher inside in
      elim (cases_lt (k + 1) at) [
        | inl both ↦ omega (arith, below k (omega (arith, both)), below (k + 1) both, up k (omega (arith, both, inside)))
        | inr past ↦ (elim (cases_lt k at) [
          | inl low ↦ omega (arith, below k low, above (k + 1) past, up k (omega (arith, l, long)), up (k + 1) (omega (arith, l, long)))
          | inr high ↦ omega (arith, above k high, above (k + 1) past, up (k + 1) (omega (arith, l, long)))
        ])
      ]

  -- no number is there twice
  pub apart_before : (at : ℕ) → at < length xs → (i : ℕ) → i < at → get_or xs i 0 ≢ get_or xs at 0
  apart_before at l i less e = (let more = far i at (omega (arith, less)) l in omega (arith, more, e, less))

  pub once : (at : ℕ) → at < length xs → is_among (get_or xs at 0) (remove xs at) ≡ false
  once at l =
      let long = length-remove xs at l in
      none_is (get_or xs at 0) (remove xs at) (λ k in_rest same. elim (cases_lt k at) [
        | inl below ↦ (let is = get_or-remove_below xs at 0 k below l in let more = far k at (omega (arith, below)) l in omega (arith, is, same, more, below))
        | inr above ↦ (let is = get_or-remove_above xs at 0 k above l in let more = far at (k + 1) (omega (arith, above)) (omega (arith, in_rest, long)) in omega (arith, is, same, more, above))
      ])
