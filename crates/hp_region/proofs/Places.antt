-- What a search finds among intervals, and what the edits at these places make.
use Rattle.std.proofs.Common.{◌≡◌, ℕ, zero, suc, ◌+◌, ◌-◌, ◌<◌, ◌≤◌, min, max, true, false, List, [], ◌∷◌, ◌++◌, length, take, drop, get_or, set, ltb, leb, sym, refl, ap, ◌∙◌, subst, arith, ⊎_elim}
use Rattle.std.proofs.Common.{add-one, All, insert}
use Rattle.std.specs.List.Sorted.{IsNonDecreasingBy}
use Rattle.std.proofs.lemmas.Bool.{cases_lt}
use Rattle.std.proofs.lemmas.Bool.Decides.{nat_tests}
use Rattle.std.proofs.lemmas.List.{drop_more, drop_all, take_more_set, drop-set-lt, get_or-take, get_or-drop, take-take, append_assoc, length-take-le, length-drop}
use Rattle.std.proofs.lemmas.List.Elements.{All-head, All-tail}
use Rattle.hp_region.specs.declared.spans.Span.{Span}
use Rattle.hp_model.proofs.Words.{within}
use Rattle.hp_region.specs.Spans.{spans_hold, AreSpansApart, range_added, range_removed, left_piece, left_of, right_of}
use Rattle.hp_region.proofs.Members.{holds_below}
use Rattle.hp_region.proofs.Apart.{apart_lower}

ends_above : (low : ℕ) (xs : List Span) (j : ℕ) (d : Span) → AreSpansApart low xs → j < length xs → low < (get_or xs j d).end
ends_above low [] j d p lt = absurd (omega (arith, lt))
ends_above low (s ∷ ss) zero d p lt = omega (arith, p.0, p.1)
ends_above low (s ∷ ss) (suc j) d p lt = omega (arith, p.0, p.1, ends_above (s.end + 1) ss j d p.2 (omega (arith, lt)))

pub ends_rise : (low : ℕ) (xs : List Span) → AreSpansApart low xs → IsNonDecreasingBy (λ s. s.end) xs
ends_rise low [] p i j d le lt = absurd (omega (arith, lt))
ends_rise low (s ∷ ss) p zero zero d le lt = omega arith
ends_rise low (s ∷ ss) p zero (suc j) d le lt = omega (arith, ends_above (s.end + 1) ss j d p.2 (omega (arith, lt)))
ends_rise low (s ∷ ss) p (suc i) zero d le lt = absurd (omega (arith, le))
ends_rise low (s ∷ ss) p (suc i) (suc j) d le lt = ends_rise (s.end + 1) ss p.2 i j d (omega (arith, le)) (omega (arith, lt))

-- the index is in the first interval that ends after it, or in none
pub holds_at : (low i at : ℕ) (xs : List Span) (d : Span) → AreSpansApart low xs → All (λ s. s.end ≤ i) (take at xs) → All (λ s. i < s.end) (drop at xs) →
    at < length xs → spans_hold xs i ≡ leb (get_or xs at d).start i
holds_at low i at [] d p front back lt = absurd (omega (arith, lt))
holds_at low i zero (s ∷ ss) d p front back lt =
    let first : i < s.end = All-head (λ s. i < s.end) s ss back in
    rw (holds_below (s.end + 1) ss i p.2 (omega arith)) (grind (arith, nat_tests))
holds_at low i (suc at) (s ∷ ss) d p front back lt =
    let first : s.end ≤ i = All-head (λ s. s.end ≤ i) s (take at ss) front in
    let outside : within s.start s.end i ≡ false = grind (arith, nat_tests) in
    rw outside (holds_at (s.end + 1) i at ss d p.2 (All-tail (λ s. s.end ≤ i) s (take at ss) front) back (omega (arith, lt)))

pub holds_past : (i at : ℕ) (xs : List Span) → All (λ s. s.end ≤ i) (take at xs) → length xs ≤ at → spans_hold xs i ≡ false
holds_past i at [] front le = refl
holds_past i zero (s ∷ ss) front le = absurd (omega (arith, le))
holds_past i (suc at) (s ∷ ss) front le =
    let first : s.end ≤ i = All-head (λ s. s.end ≤ i) s (take at ss) front in
    let outside : within s.start s.end i ≡ false = grind (arith, nat_tests) in
    rw outside (holds_past i at ss (All-tail (λ s. s.end ≤ i) s (take at ss) front) (omega (arith, le)))

-- adding: what ends before the range stays
pub added_front : (low a b n : ℕ) (xs : List Span) → AreSpansApart low xs → All (λ s. s.end ≤ a - 1) (take n xs) → range_added a b xs ≡ take n xs ++ range_added a b (drop n xs)
added_front low a b zero xs p front = refl
added_front low a b (suc n) [] p front = refl
added_front low a b (suc n) (s ∷ ss) p front =
    let first : s.end ≤ a - 1 = All-head (λ s. s.end ≤ a - 1) s (take n ss) front in
    let before : ltb s.end a ≡ true = grind (arith, nat_tests, p.1) in
    rw before (ap (λ r. s ∷ r) (added_front (s.end + 1) a b n ss p.2 (All-tail (λ s. s.end ≤ a - 1) s (take n ss) front)))

-- one that touches is joined
pub added_more : (a b n : ℕ) (xs : List Span) (d : Span) → n < length xs → a ≤ (get_or xs n d).end → (get_or xs n d).start ≤ b →
    range_added a b (drop n xs) ≡ range_added (min a (get_or xs n d).start) (max b (get_or xs n d).end) (drop (n + 1) xs)
added_more a b n xs d lt left right =
    let s = get_or xs n d in
    let not_before : ltb s.end a ≡ false = grind (arith, nat_tests) in
    let not_after : ltb b s.start ≡ false = grind (arith, nat_tests) in
    rw (drop_more xs n d lt, not_before, not_after) refl

pub added_end : (a b n : ℕ) (xs : List Span) → length xs ≤ n → range_added a b (drop n xs) ≡ record { start = a; end = b } ∷ drop n xs
added_end a b n xs le = rw (drop_all n xs le) refl

pub added_stop : (a b n : ℕ) (xs : List Span) (d : Span) → n < length xs → a ≤ (get_or xs n d).end → b < (get_or xs n d).start → range_added a b (drop n xs) ≡ record { start = a; end = b } ∷ drop n xs
added_stop a b n xs d lt left after =
    let s = get_or xs n d in
    let not_before : ltb s.end a ≡ false = grind (arith, nat_tests) in
    let is_after : ltb b s.start ≡ true = grind (arith, nat_tests) in
    rw (drop_more xs n d lt, not_before, is_after) refl

-- an element written, and those behind it taken out up to `to`
pub written_over : {X : Type 0} (xs : List X) (n m : ℕ) (x : X) → n < m → n < length xs → take (n + 1) (set xs n x) ++ drop m (set xs n x) ≡ take n xs ++ x ∷ drop m xs
written_over xs n m x lt in' = rw (take_more_set xs n x in', drop-set-lt m xs n x lt) (append_assoc (take n xs) (x ∷ []) (drop m xs))

-- removing: the intervals before, what is left of the one at `from`, what is left of the one at `to`, and those behind
removed_behind : (a b : ℕ) (xs : List Span) → AreSpansApart b xs → a < b → range_removed a b xs ≡ xs
removed_behind a b [] p lt = refl
removed_behind a b (s ∷ ss) p lt =
    let no_left : ltb s.start a ≡ false = grind (arith, nat_tests, p.0) in
    let right : ltb b s.end ≡ true = grind (arith, nat_tests, p.0, p.1) in
    let same : max b s.start ≡ s.start = omega (arith, p.0) in
    rw (no_left, right, same) (ap (λ r. s ∷ r) (removed_behind a b ss (apart_lower b (s.end + 1) ss (omega (arith, p.0, p.1)) p.2) lt))

removed_within : (low a b n : ℕ) (xs : List Span) → AreSpansApart low xs → a ≤ low → a < b → All (λ s. s.end ≤ b) (take n xs) → All (λ s. b < s.end) (drop n xs)
    → range_removed a b xs ≡ right_of b (drop n xs)
removed_within low a b zero [] p le lt front back = refl
removed_within low a b (suc n) [] p le lt front back = refl
removed_within low a b zero (s ∷ ss) p le lt front back =
    let past : b < s.end = All-head (λ s. b < s.end) s ss back in
    let no_left : ltb s.start a ≡ false = grind (arith, nat_tests, p.0) in
    let right : ltb b s.end ≡ true = grind (arith, nat_tests) in
    rw (no_left, right) (ap (λ r. record { start = max b s.start; end = s.end } ∷ r) (removed_behind a b ss (apart_lower b (s.end + 1) ss (omega arith) p.2) lt))
removed_within low a b (suc n) (s ∷ ss) p le lt front back =
    let upto : s.end ≤ b = All-head (λ s. s.end ≤ b) s (take n ss) front in
    let no_left : ltb s.start a ≡ false = grind (arith, nat_tests, p.0) in
    let no_right : ltb b s.end ≡ false = grind (arith, nat_tests) in
    rw (no_left, no_right) (removed_within (s.end + 1) a b n ss p.2 (omega (arith, p.0, p.1)) lt (All-tail (λ s. s.end ≤ b) s (take n ss) front) back)

pub removed_between : (low a b n m : ℕ) (xs : List Span) → AreSpansApart low xs → a < b → n ≤ m → All (λ s. s.end ≤ a) (take n xs) →
    All (λ s. a < s.end) (drop n xs) → All (λ s. s.end ≤ b) (take m xs) → All (λ s. b < s.end) (drop m xs) →
    range_removed a b xs ≡ take n xs ++ (left_of a (drop n xs) ++ right_of b (drop m xs))
removed_between low a b zero zero [] p lt le fa ba fb bb = refl
removed_between low a b zero (suc m) [] p lt le fa ba fb bb = refl
removed_between low a b (suc n) zero [] p lt le fa ba fb bb = refl
removed_between low a b (suc n) (suc m) [] p lt le fa ba fb bb = refl
removed_between low a b zero zero (s ∷ ss) p lt le fa ba fb bb =
    let past : b < s.end = All-head (λ s. b < s.end) s ss bb in
    let right : ltb b s.end ≡ true = grind (arith, nat_tests) in
    rw right (ap (λ r. left_piece a s ++ record { start = max b s.start; end = s.end } ∷ r) (removed_behind a b ss (apart_lower b (s.end + 1) ss (omega arith) p.2) lt))
removed_between low a b zero (suc m) (s ∷ ss) p lt le fa ba fb bb =
    let upto : s.end ≤ b = All-head (λ s. s.end ≤ b) s (take m ss) fb in
    let past : a < s.end = All-head (λ s. a < s.end) s ss ba in
    let no_right : ltb b s.end ≡ false = grind (arith, nat_tests) in
    rw no_right (ap (λ r. left_piece a s ++ r) (removed_within (s.end + 1) a b m ss p.2 (omega arith) lt (All-tail (λ s. s.end ≤ b) s (take m ss) fb) bb))
removed_between low a b (suc n) zero (s ∷ ss) p lt le fa ba fb bb = absurd (omega (arith, le))
removed_between low a b (suc n) (suc m) (s ∷ ss) p lt le fa ba fb bb =
    let upto : s.end ≤ a = All-head (λ s. s.end ≤ a) s (take n ss) fa in
    let left : ltb s.start a ≡ true = grind (arith, nat_tests, p.1) in
    let no_right : ltb b s.end ≡ false = grind (arith, nat_tests) in
    let same : min a s.end ≡ s.end = omega arith in
    rw (left, no_right, same) (ap (λ r. s ∷ r) (removed_between (s.end + 1) a b n m ss p.2 lt (omega (arith, le))
    (All-tail (λ s. s.end ≤ a) s (take n ss) fa) ba (All-tail (λ s. s.end ≤ b) s (take m ss) fb) bb))

-- from facts at each place to facts of a front and of the rest
pub all_front : (n t : ℕ) (xs : List Span) → n ≤ length xs → ((k : ℕ) (d : Span) → k < n → (get_or xs k d).end ≤ t) → All (λ s. s.end ≤ t) (take n xs)
all_front n t xs le each k d lt = rw (get_or-take n xs k d (omega (arith, lt, length-take-le n xs le))) (each k d (omega (arith, lt, length-take-le n xs le)))

pub all_back : (n t : ℕ) (xs : List Span) → ((k : ℕ) (d : Span) → n ≤ k → k < length xs → t < (get_or xs k d).end) → All (λ s. t < s.end) (drop n xs)
all_back n t xs each k d lt = rw (get_or-drop n xs k d) (each (n + k) d (omega arith) (omega (arith, lt, length-drop n xs)))

-- the interval at a place from n on
pub ends_after : (n k t : ℕ) (xs : List Span) (d : Span) → All (λ s. t ≤ s.end) (drop n xs) → n ≤ k → k < length xs → t ≤ (get_or xs k d).end
ends_after n k t xs d all le lt = subst (λ (x : ℕ). t ≤ (get_or xs x d).end) {x = n + (k - n)} {y = k} (omega arith)
    (rw (get_or-drop n xs (k - n) d) at (all (k - n) d (omega (arith, length-drop n xs))))

abbrev pub no_span : Span
no_span = record { start = 0; end = 0 }

-- a search for more goes no less far
pub in_order : (n m a b : ℕ) (xs : List Span) → a < b → n ≤ length xs → All (λ s. s.end ≤ a) (take n xs) → All (λ s. b < s.end) (drop m xs) → n ≤ m
in_order n m a b xs lt le front back = ⊎_elim (λ (less : m < n). absurd (clash less)) (λ h. h) (cases_lt m n)
  where
    here : (get_or xs (m + 0) no_span).end ≡ (get_or xs m no_span).end
    here = ap (λ k. (get_or xs k no_span).end) {x = m + 0} {y = m} (omega arith)

    clash : m < n → ⊥
    clash less =
        let x : (get_or xs m no_span).end ≤ a = subst (λ (s : Span). s.end ≤ a) (get_or-take n xs m no_span less) (front m no_span (omega (arith, length-take-le n xs le))) in
        let y : b < (get_or xs (m + 0) no_span).end = subst (λ (s : Span). b < s.end) (get_or-drop m xs 0 no_span) (back 0 no_span (omega (arith, length-drop m xs))) in
        omega (arith, x, y, here)

-- the interval that a read at n gave
here_of : (n : ℕ) (xs : List Span) (s : Span) → n < length xs → s ≡ get_or xs n s → drop n xs ≡ s ∷ drop (n + 1) xs
here_of n xs s lt read = drop_more xs n s lt ∙ ap (λ x. x ∷ drop (n + 1) xs) (sym read)

ends_here : (n t : ℕ) (xs : List Span) (s : Span) → n < length xs → s ≡ get_or xs n s → All (λ x. t < x.end) (drop n xs) → t < s.end
ends_here n t xs s lt read all = All-head (λ x. t < x.end) s (drop (n + 1) xs) (subst (All (λ x. t < x.end)) (here_of n xs s lt read) all)

pub added_at : (a b n m : ℕ) (xs : List Span) (s : Span) → AreSpansApart 0 xs → All (λ s. s.end ≤ a - 1) (take n xs) → range_added a b (drop n xs) ≡ s ∷ drop m xs
    → range_added a b xs ≡ take n xs ++ s ∷ drop m xs
added_at a b n m xs s p front joined = added_front 0 a b n xs p front ∙ ap (λ r. take n xs ++ r) joined

-- one interval that begins before the range and ends after it
pub left_made : (a n : ℕ) (xs : List Span) (s : Span) → n < length xs → s ≡ get_or xs n s → s.start < a → All (λ x. a < x.end) (drop n xs) →
    left_of a (drop n xs) ≡ record { start = s.start; end = a } ∷ []
left_made a n xs s lt read before all =
    let past = ends_here n a xs s lt read all in
    let test : ltb s.start a ≡ true = grind (arith, nat_tests) in
    let same : min a s.end ≡ a = omega arith in
    ap (left_of a) (here_of n xs s lt read) ∙ rw (test, same) refl

pub right_made : (b n : ℕ) (xs : List Span) (s : Span) → n < length xs → s ≡ get_or xs n s → s.start ≤ b → right_of b (drop n xs) ≡ record { start = b; end = s.end } ∷ drop (n + 1) xs
right_made b n xs s lt read before =
    let same : max b s.start ≡ b = omega arith in
    ap (right_of b) (here_of n xs s lt read) ∙ rw same refl

two_written : {X : Type 0} (n : ℕ) (xs : List X) (x y : X) → n < length xs → set (insert xs n x) (suc n) y ≡ take n xs ++ x ∷ y ∷ drop (suc n) xs
two_written n [] x y lt = absurd (omega (arith, lt))
two_written zero (z ∷ zs) x y lt = refl
two_written (suc n) (z ∷ zs) x y lt = ap (λ r. z ∷ r) (two_written n zs x y (omega (arith, lt)))

pub split_made : (a b n : ℕ) (xs : List Span) (s : Span) → n < length xs → s ≡ get_or xs n s → s.start < a → a < b →
    All (λ x. b < x.end) (drop n xs) → set (insert xs n (record { start = s.start; end = a })) (n + 1) (record { start = b; end = s.end }) ≡ take n xs
    ++ (left_of a (drop n xs) ++ right_of b (drop n xs))
split_made a b n xs s lt read before some all =
    let past : All (λ x. a < x.end) (drop n xs) = λ k d h. omega (arith, some, all k d h) in
    rw (left_made a n xs s lt read before past, right_made b n xs s lt read (omega arith), add-one) (two_written n xs _ _ lt)

-- the edits of a removal, joined
pub cut_made : (xs ys zs l r : List Span) (n k m : ℕ) → k ≤ m → take m zs ≡ take m ys → take k ys ≡ take n xs ++ l → drop m zs ≡ r → take k zs ++ drop m zs ≡ take n xs ++ (l ++ r)
cut_made xs ys zs l r n k m le front kept back =
    let same : take k zs ≡ take k ys = sym (take-take k m zs le) ∙ ap (take k) front ∙ take-take k m ys le in
    rw (same, kept, back) (append_assoc (take n xs) l r)
