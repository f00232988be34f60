-- How many elements of a list, and how many indices of a range, pass a test.
use Rattle.std.proofs.lemmas.Grind.{common_steps}
use Rattle.std.proofs.Common.{◌≡◌, ℕ, zero, suc, ◌+◌, ◌-◌, ◌<◌, ◌≤◌, Bool, true, false, not, ◌&&◌, ◌||◌, cond, List, [], ◌∷◌, length, map, sym, refl, ap, ◌∙◌, subst, arith, ⊎_elim, count_by}
use Rattle.std.specs.List.{range_with_len}
use Rattle.std.proofs.lemmas.Bool.{cases_lt, false_from_ne_true}
use Rattle.std.proofs.lemmas.List.Sums.{sum_by-cons}

-- ---- any list

pub count_cons : {X : Type 0} (p : X → Bool) (x : X) (xs : List X) → count_by p (x ∷ xs) ≡ cond (p x) 1 0 + count_by p xs
count_cons p x xs = sum_by-cons (λ x. cond (p x) 1 0) x xs

pub count_alike : {X : Type 0} (p r : X → Bool) → ((x : X) → p x ≡ r x) → (xs : List X) → count_by p xs ≡ count_by r xs
count_alike p r alike xs = grind (arith, common_steps)

pub count_map : {X Y : Type 0} (p : Y → Bool) (f : X → Y) (xs : List X) → count_by p (map f xs) ≡ count_by (λ x. p (f x)) xs
count_map p f xs = grind (arith, common_steps)

either_one : (t : Bool) → cond (not t) 1 0 + cond t 1 0 ≡ 1
either_one t = grind (arith, common_steps)

pub count_not : {X : Type 0} (p : X → Bool) (xs : List X) → count_by (λ x. not (p x)) xs + count_by p xs ≡ length xs
count_not p [] = refl
count_not p (x ∷ xs) = omega (arith, count_not p xs, count_cons p x xs, count_cons (λ x. not (p x)) x xs, either_one (p x))

one_of : (t u : Bool) → (t ≡ true → u ≡ false) → cond (t || u) 1 0 ≡ cond t 1 0 + cond u 1 0
one_of t u not_both = grind (arith, common_steps)

-- where no element passes both
pub count_or : {X : Type 0} (p r : X → Bool) → ((x : X) → p x ≡ true → r x ≡ false) → (xs : List X) → count_by (λ x. p x || r x) xs ≡ count_by p xs + count_by r xs
count_or p r apart [] = refl
count_or p r apart (x ∷ xs) = omega (arith, count_or p r apart xs, count_cons (λ x. p x || r x) x xs, count_cons p x xs, count_cons r x xs, one_of (p x) (r x) (apart x))

parted : (p w : Bool) → cond {A = ℕ} p 1 0 ≡ cond {A = ℕ} (p && w) 1 0 + cond {A = ℕ} (p && not w) 1 0
parted p w = grind (arith, common_steps)

pub count_parted : {X : Type 0} (p w : X → Bool) (xs : List X) → count_by p xs ≡ count_by (λ x. p x && w x) xs + count_by (λ x. p x && not (w x)) xs
count_parted p w [] = refl
count_parted p w (x ∷ xs) = omega (arith, count_parted p w xs, count_cons p x xs, count_cons (λ x. p x && w x) x xs, count_cons (λ x. p x && not (w x)) x xs, parted (p x) (w x))

-- ---- ranges

pub count_split : (r : ℕ → Bool) (x n m : ℕ) → count_by r (range_with_len x (n + m)) ≡ count_by r (range_with_len x n) + count_by r (range_with_len (x + n) m)
count_split r x zero m = ap (λ k. count_by r (range_with_len x k)) {x = 0 + m} {y = m} (omega arith) ∙ ap (λ k. count_by r (range_with_len k m)) {x = x} {y = x + 0} (omega arith) ∙ omega arith
count_split r x (suc n) m =
    ap (λ k. count_by r (range_with_len x k)) {x = suc n + m} {y = suc (n + m)} (omega arith) ∙ count_cons r x (range_with_len (x + 1) (n + m))
    ∙ ap (λ k. cond (r x) 1 0 + k) (count_split r (x + 1) n m ∙ ap (λ k. count_by r (range_with_len (x + 1) n) + count_by r (range_with_len k m)) {x = x + 1 + n} {y = x + suc n} (omega arith))
    ∙ omega (arith, count_cons r x (range_with_len (x + 1) n))

-- where the tests agree on the range
pub alike_in : (r p : ℕ → Bool) (x n : ℕ) → ((i : ℕ) → x ≤ i → i < x + n → r i ≡ p i) → count_by r (range_with_len x n) ≡ count_by p (range_with_len x n)
alike_in r p x zero same = refl
alike_in r p x (suc n) same =
    count_cons r x (range_with_len (x + 1) n) ∙ ap (λ t. cond {A = ℕ} t 1 0 + count_by r (range_with_len (x + 1) n)) (same x (omega arith) (omega arith))
    ∙ ap (λ k. cond {A = ℕ} (p x) 1 0 + k) (alike_in r p (x + 1) n (λ i le lt. same i (omega (arith, le)) (omega (arith, lt)))) ∙ sym (count_cons p x (range_with_len (x + 1) n))

pub count_outside : (r : ℕ → Bool) (x n : ℕ) → ((i : ℕ) → x ≤ i → i < x + n → r i ≡ false) → count_by r (range_with_len x n) ≡ 0
count_outside r x zero none = refl
count_outside r x (suc n) none =
    let first : cond {A = ℕ} (r x) 1 0 ≡ 0 = ap (λ t. cond {A = ℕ} t 1 0) (none x (omega arith) (omega arith)) in
    omega (arith, count_cons r x (range_with_len (x + 1) n), first, count_outside r (x + 1) n (λ i le lt. none i (omega (arith, le)) (omega (arith, lt))))

pub none_of_count : (p : ℕ → Bool) (x n i : ℕ) → count_by p (range_with_len x n) ≡ 0 → x ≤ i → i < x + n → p i ≡ false
none_of_count p x zero i none le lt = absurd (omega (arith, le, lt))
none_of_count p x (suc n) i none le lt =
    let step = count_cons p x (range_with_len (x + 1) n) in
    ⊎_elim (λ (later : x < i). none_of_count p (x + 1) n i (omega (arith, step, none)) (omega (arith, later)) (omega (arith, lt)))
    (λ (now : i ≤ x). false_from_ne_true (p i) (λ is.
    let here : p x ≡ true = subst (λ k. p k ≡ true) {x = i} {y = x} (omega (arith, now, le)) is in
    let one : cond {A = ℕ} (p x) 1 0 ≡ 1 = ap (λ t. cond {A = ℕ} t 1 0) here in
    omega (arith, step, none, one)))
    (cases_lt x i)

-- all that pass lie from lo up to hi, and those below n are counted
pub count_within : (r : ℕ → Bool) (lo hi n : ℕ) → hi ≤ n → ((i : ℕ) → i < n → r i ≡ true → (lo ≤ i) × (i < hi)) → count_by r (range_with_len 0 n) ≡ count_by r (range_with_len lo (hi - lo))
count_within r lo hi n le in' = ⊎_elim
    (λ (none : hi < lo).
    let nowhere : hi - lo ≡ 0 = omega (arith, none) in
    count_outside r 0 n (λ i low high. false_from_ne_true (r i) (λ p. omega (arith, none, (in' i (omega (arith, high)) p).0, (in' i (omega (arith, high)) p).1)))
    ∙ ap (λ k. count_by r (range_with_len lo k)) {x = 0} {y = hi - lo} (omega (arith, none)))
    (λ (some : lo ≤ hi).
    let whole = count_split r 0 hi (n - hi) in
    let same : count_by r (range_with_len 0 n) ≡ count_by r (range_with_len 0 (hi + (n - hi))) = ap (λ k. count_by r (range_with_len 0 k)) {x = n} {y = hi + (n - hi)} (omega (arith, le)) in
    let past : count_by r (range_with_len (0 + hi) (n - hi)) ≡ 0 = count_outside r (0 + hi) (n - hi)
    (λ i low high. false_from_ne_true (r i) (λ p. omega (arith, low, (in' i (omega (arith, high, le)) p).1))) in
    let parts : count_by r (range_with_len 0 hi) ≡ count_by r (range_with_len 0 lo) + count_by r (range_with_len (0 + lo) (hi - lo)) =
    ap (λ k. count_by r (range_with_len 0 k)) {x = hi} {y = lo + (hi - lo)} (omega (arith, some)) ∙ count_split r 0 lo (hi - lo) in
    let before : count_by r (range_with_len 0 lo) ≡ 0 = count_outside r 0 lo (λ i low high. false_from_ne_true (r i) (λ p. omega (arith, high, (in' i (omega (arith, high, some, le)) p).0))) in
    let moved : count_by r (range_with_len (0 + lo) (hi - lo)) ≡ count_by r (range_with_len lo (hi - lo)) = ap (λ k. count_by r (range_with_len k (hi - lo))) {x = 0 + lo} {y = lo} (omega arith) in
    omega (arith, whole, same, past, parts, before, moved))
    (cases_lt hi lo)
