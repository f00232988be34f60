-- How many indices of a range intervals have.
use Rattle.std.proofs.Common.{◌≡◌, ℕ, zero, suc, ◌+◌, ◌-◌, ◌<◌, ◌≤◌, min, max, cond, List, [], ◌∷◌, length, take, drop, get_or, refl, ap, ◌∙◌, subst, arith, ⊎_elim, count_by, All}
use Rattle.std.specs.List.{range_with_len}
use Rattle.std.specs.FinSet as set
use Rattle.std.specs.Ordering.{nat_cmp}
use Rattle.std.proofs.lemmas.Bool.{cases_lt}
use Rattle.std.proofs.lemmas.Bool.Decides.{nat_tests}
use Rattle.std.proofs.lemmas.List.FromFn.{length-range_with_len}
use Rattle.std.proofs.lemmas.List.{drop_more, drop_all}
use Rattle.std.proofs.lemmas.List.Elements.{All-head, All-tail}
use Rattle.hp_model.proofs.Words.{within}
use Rattle.hp_model.proofs.Counting.{count_cons, count_alike, count_not, count_or}
use Rattle.hp_region.specs.declared.spans.Span.{Span}
use Rattle.hp_region.specs.Region.{members_in, missing_members}
use Rattle.hp_region.specs.Spans.{spans_hold, AreSpansApart, indices_of, overlap, covered}
use Rattle.hp_region.proofs.Members.{contains-indices_of, holds_below}
use Rattle.hp_region.proofs.Apart.{apart_lower}

count-within : (c d a n : ℕ) → count_by (within c d) (range_with_len a n) ≡ min (a + n) d - max a c
count-within c d a zero = omega arith
count-within c d a (suc n) = count_cons (within c d) a (range_with_len (a + 1) n) ∙ ap (λ m. cond (within c d a) 1 0 + m) (count-within c d (a + 1) n) ∙ grind (arith, nat_tests)

count-holds : (low a n : ℕ) (xs : List Span) → AreSpansApart low xs → count_by (spans_hold xs) (range_with_len a n) ≡ covered a (a + n) xs
count-holds low a n [] p = none (range_with_len a n)
  where
    none : (ys : List ℕ) → count_by (spans_hold []) ys ≡ 0
    none [] = refl
    none (y ∷ ys) = omega (arith, count_cons (spans_hold []) y ys, none ys)
count-holds low a n (s ∷ ss) p =
    count_or (within s.start s.end) (spans_hold ss) (λ q e. holds_below (s.end + 1) ss q p.2 (grind (arith, nat_tests, e))) (range_with_len a n)
    ∙ rw (count-within s.start s.end a n, count-holds (s.end + 1) a n ss p.2) refl

-- what begins at low has at most the indices from there on
pub covered-bound : (low a b : ℕ) (xs : List Span) → AreSpansApart low xs → covered a b xs ≤ b - max a low
covered-bound low a b [] p = omega arith
covered-bound low a b (s ∷ ss) p = omega (arith, covered-bound (s.end + 1) a b ss p.2, p.0, p.1)

pub count_in-covered : (a b : ℕ) (xs : List Span) → AreSpansApart 0 xs → members_in (indices_of xs) a b ≡ covered a b xs
count_in-covered a b xs p =
    count_alike (set.contains (indices_of xs)) (spans_hold xs) (contains-indices_of xs) (range_with_len a (b - a)) ∙ count-holds 0 a (b - a) xs p
    ∙ ⊎_elim (λ (lt : a < b). ap (λ e. covered a e xs) {x = a + (b - a)} {y = b} (omega arith))
    (λ (le : b ≤ a). omega (arith, covered-bound 0 a (a + (b - a)) xs p, covered-bound 0 a b xs p)) (cases_lt a b)

pub missing_in-count_in : (s : set.FinSet nat_cmp) (a b : ℕ) → missing_members s a b + members_in s a b ≡ b - a
missing_in-count_in s a b = omega (arith, count_not (set.contains s) (range_with_len a (b - a)), length-range_with_len a (b - a))

-- the loop of `count_spans`: its start and its two ends
pub covered_front : (a b n : ℕ) (xs : List Span) → All (λ s. s.end ≤ a) (take n xs) → covered a b (drop n xs) ≡ covered a b xs
covered_front a b zero xs all = refl
covered_front a b (suc n) [] all = refl
covered_front a b (suc n) (s ∷ ss) all =
    let first : s.end ≤ a = All-head (λ s. s.end ≤ a) s (take n ss) all in
    omega (arith, covered_front a b n ss (All-tail (λ s. s.end ≤ a) s (take n ss) all))

pub apart_drop : (low n : ℕ) (xs : List Span) → AreSpansApart low xs → AreSpansApart low (drop n xs)
apart_drop low zero xs p = p
apart_drop low (suc n) [] p = tt
apart_drop low (suc n) (s ∷ ss) p = apart_drop low n ss (apart_lower low (s.end + 1) ss (omega (arith, p.0, p.1)) p.2)

pub covered_more : (a b n : ℕ) (xs : List Span) (d : Span) → n < length xs → covered a b (drop n xs) ≡ overlap a b (get_or xs n d) + covered a b (drop (n + 1) xs)
covered_more a b n xs d lt = ap (covered a b) (drop_more xs n d lt)

pub covered_end : (a b n : ℕ) (xs : List Span) → length xs ≤ n → covered a b (drop n xs) ≡ 0
covered_end a b n xs le = ap (covered a b) (drop_all n xs le)

pub covered_stop : (a b n : ℕ) (xs : List Span) (d : Span) → AreSpansApart 0 xs → n < length xs → b ≤ (get_or xs n d).start → covered a b (drop n xs) ≡ 0
covered_stop a b n xs d p lt stop =
    let here : AreSpansApart 0 (get_or xs n d ∷ drop (n + 1) xs) = subst (AreSpansApart 0) (drop_more xs n d lt) (apart_drop 0 n xs p) in
    let bound = covered-bound (get_or xs n d).start a b (get_or xs n d ∷ drop (n + 1) xs) (omega arith, here.1, here.2) in
    let same = covered_more a b n xs d lt in
    omega (arith, bound, same)
