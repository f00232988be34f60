-- Ranges of bits in a word, and how many bits a word has.
use Rattle.std.proofs.Common.{◌≡◌, ℕ, zero, suc, ◌+◌, ◌-◌, ◌*◌, ◌/◌, ◌%◌, ◌^◌, ◌<◌, ◌≤◌, min, Bool, not, ◌&&◌, ◌||◌, cond, eqb, [], max, subst, sym, refl, ap, ◌∙◌, arith, ⊎_elim, bit_and, bit_or}
use Rattle.std.proofs.Common.{count_ones, pow_pos, shr_lt, mod-lt, mod-eq_of_lt, count_by}
use Rattle.std.specs.Int.{bit_at, bit_not, w64}
use Rattle.std.specs.List.{range_with_len}
use Rattle.std.proofs.lemmas.Bool.{cases_lt}
use Rattle.std.proofs.lemmas.Bool.Decides.{nat_tests}
use Rattle.std.proofs.lemmas.List.FromFn.{length-range_with_len}
use Rattle.std.proofs.lemmas.Nat.{ones_cat, ones-le, div-add-mod', zero_from_ones}
use Rattle.std.proofs.lemmas.Nat.Bits.{bit_at-lt, bit_at_and, bit_at_or, bit_at_not, bit_at_ones, bit_at_ones_above}
use Rattle.std.proofs.lemmas.Nat.Bits.{bit_at_mask_inside, bit_at_mask_below, bit_at_cat_low, bit_at_cat_high, bit_at_lowest}
use Rattle.hp_model.proofs.Counting.{count_cons, count_split, count_not, count_outside, alike_in}
use Rattle.hp_model.proofs.Ranges.{within-true, within-below, within-past}
use Rattle.hp_model.proofs.Words.{within}

-- ---- a bit as a test

has : ℕ → ℕ → Bool
has n i = eqb (bit_at n i) 1

both : (x y : ℕ) → x < 2 → y < 2 → eqb (min x y) 1 ≡ (eqb x 1 && eqb y 1)
both x y u v = grind (arith, nat_tests)

either : (x y : ℕ) → x < 2 → y < 2 → eqb (max x y) 1 ≡ (eqb x 1 || eqb y 1)
either x y u v = grind (arith, nat_tests)

other : (x : ℕ) → x < 2 → eqb (1 - x) 1 ≡ not (eqb x 1)
other x u = grind (arith, nat_tests)

pub has_and : (m n i : ℕ) → eqb (bit_at (bit_and m n) i) 1 ≡ (eqb (bit_at m i) 1 && eqb (bit_at n i) 1)
has_and m n i = ap (λ x. eqb x 1) (bit_at_and m n i) ∙ both (bit_at m i) (bit_at n i) (bit_at-lt m i) (bit_at-lt n i)

pub has_or : (m n i : ℕ) → eqb (bit_at (bit_or m n) i) 1 ≡ (eqb (bit_at m i) 1 || eqb (bit_at n i) 1)
has_or m n i = ap (λ x. eqb x 1) (bit_at_or m n i) ∙ either (bit_at m i) (bit_at n i) (bit_at-lt m i) (bit_at-lt n i)

pub has_not : (n i : ℕ) → n < 2 ^ 64 → i < 64 → eqb (bit_at (bit_not w64 n) i) 1 ≡ not (eqb (bit_at n i) 1)
has_not n i small lt = ap (λ x. eqb x 1) (bit_at_not w64 n i small lt) ∙ other (bit_at n i) (bit_at-lt n i)

-- ---- the bits from one place up to another

pub has_between : (low high i x y : ℕ) → x ≡ 2 ^ 64 - 2 ^ low → y ≡ 2 ^ high - 1 → i < 64 → eqb (bit_at (bit_and x y) i) 1 ≡ within low high i
has_between low high i x y x_is y_is lt =
    has_and x y i ∙ ap (λ n. eqb (bit_at n i) 1 && eqb (bit_at y i) 1) x_is ∙ ap (λ n. eqb (bit_at (2 ^ 64 - 2 ^ low) i) 1 && eqb (bit_at n i) 1) y_is
    ∙ ⊎_elim
    (λ (below : i < low). rw (bit_at_mask_below low 64 i below) (sym (within-below low high i below)))
    (λ (from : low ≤ i). ⊎_elim
    (λ (inside : i < high). rw (bit_at_mask_inside low 64 i from lt, bit_at_ones high i inside) (sym (within-true low high i from inside)))
    (λ (past : high ≤ i). rw (bit_at_mask_inside low 64 i from lt, bit_at_ones_above high i past) (sym (within-past low high i past)))
    (cases_lt i high))
    (cases_lt i low)

-- ---- how many bits

one_digit : (a : ℕ) → a < 2 → count_ones a ≡ cond {A = ℕ} (eqb a 1) 1 0
one_digit zero lt = omega (arith, ones-le 0 0 (omega arith))
one_digit (suc zero) lt = ⊎_elim (λ (some : 0 < count_ones 1). omega (arith, ones-le 1 1 (omega arith), some))
    (λ (none : count_ones 1 ≤ 0). absurd (omega (arith, zero_from_ones 1 (omega arith))))
    (cases_lt 0 (count_ones 1))
one_digit (suc (suc a)) lt = absurd (omega (arith, lt))

-- a number of k bits has as many ones as places that pass the test
pub ones_counted : (k n : ℕ) → n < 2 ^ k → count_ones n ≡ count_by (λ i. eqb (bit_at n i) 1) (range_with_len 0 k)
ones_counted zero n lt = omega (arith, lt, ones-le 0 n lt)
ones_counted (suc k) n lt =
    let a = n / 2 ^ k in
    let r = n % 2 ^ k in
    let parts : a * 2 ^ k + r ≡ n = div-add-mod' n (2 ^ k) in
    let small : r < 2 ^ k = mod-lt n (pow_pos k) in
    let top : a < 2 = shr_lt 1 k (subst (λ (m : ℕ). n < 2 ^ m) {x = suc k} {y = 1 + k} (omega arith) lt) in
    let low = alike_in (λ i. eqb (bit_at r i) 1) (λ i. eqb (bit_at n i) 1) 0 k (λ i from below. ap (λ x. eqb x 1) (sym (bit_at_cat_low a k r i (omega (arith, below))) ∙ ap (λ m. bit_at m i) parts)) in
    let last : bit_at n k ≡ a = ap (λ m. bit_at m k) (sym parts) ∙ bit_at_cat_high a k r k small (omega arith) ∙ lowest_is a k top in
    let split = count_split (λ i. eqb (bit_at n i) 1) 0 k 1 in
    let at : 0 + k ≡ k = omega arith in
    let end : count_by (λ i. eqb (bit_at n i) 1) (range_with_len (0 + k) 1) ≡ cond {A = ℕ} (eqb a 1) 1 0 =
    omega (arith, count_cons (λ i. eqb (bit_at n i) 1) (0 + k) [], ap (λ x. cond {A = ℕ} (eqb x 1) 1 0) (ap (bit_at n) at ∙ last)) in
    let more : k + 1 ≡ suc k = omega arith in
    let whole = ap (λ m. count_by (λ i. eqb (bit_at n i) 1) (range_with_len 0 m)) more in
    let cat = ap count_ones (sym parts) ∙ ones_cat k a r small in
    omega (arith, cat, ones_counted k r small, low, one_digit a top, split, end, whole)
  where
    lowest_is : (a k : ℕ) → a < 2 → bit_at a (k - k) ≡ a
    lowest_is a k top =
        let none : k - k ≡ 0 = omega arith in
        ap (bit_at a) none ∙ bit_at_lowest a ∙ mod-eq_of_lt top

moved : (p : ℕ → Bool) (s x k : ℕ) → count_by p (range_with_len (s + x) k) ≡ count_by (λ i. p (s + i)) (range_with_len x k)
moved p s x zero = refl
moved p s x (suc k) =
    omega (
      arith,
      count_cons p (s + x) (range_with_len (s + x + 1) k),
      count_cons (λ i. p (s + i)) x (range_with_len (x + 1) k),
      moved p s (x + 1) k,
      ap (λ m. count_by p (range_with_len m k)) (next s x),
    )
  where
    next : (s x : ℕ) → s + x + 1 ≡ s + (x + 1)
    next s x = omega arith

-- the numbers of a word that pass a test are its ones
pub word_counted : (p : ℕ → Bool) (s n : ℕ) → n < 2 ^ 64 → ((i : ℕ) → i < 64 → p (s + i) ≡ eqb (bit_at n i) 1) → count_by p (range_with_len s 64) ≡ count_ones n
word_counted p s n lt same = ap (λ m. count_by p (range_with_len m 64)) (start s) ∙ moved p s 0 64
    ∙ alike_in (λ i. p (s + i)) (λ i. eqb (bit_at n i) 1) 0 64 (λ i low high. same i (omega arith)) ∙ sym (ones_counted 64 n lt)
  where
    start : (s : ℕ) → s ≡ s + 0
    start s = omega arith

pub full_ones : (n : ℕ) → n ≡ 2 ^ 64 - 1 → count_ones n ≡ 64
full_ones n n_is =
    let one : ℕ → Bool = λ i. eqb (bit_at n i) 1 in
    let none = count_outside (λ i. not (one i)) 0 64 (λ i low high. ap (λ m. not (eqb (bit_at m i) 1)) n_is ∙ ap (λ m. not (eqb m 1)) (bit_at_ones 64 i (omega (arith, high)))) in
    omega (arith, ones_counted 64 n (omega (arith, n_is)), none, count_not one (range_with_len 0 64), length-range_with_len 0 64)
