-- Numbers by their digits, and in columns.
use Rattle.std.proofs.Common.{◌≡◌, ℕ, zero, suc, ◌+◌, ◌-◌, ◌*◌, ◌/◌, ◌%◌, ◌^◌, ◌<◌, ◌≤◌, List, ◌∷◌, [], ◌++◌, length, length-append, take, drop, replicate, ap, sym, ◌∙◌, arith, append-nil, decimal}
use Rattle.std.proofs.Math.Nat.{pow-suc, pow-le-pow_right}
use Rattle.std.proofs.lemmas.Fmt.{decimal_digit, decimal_nonempty, decimal_step}
use Rattle.std.proofs.lemmas.List.{take-append-drop, take-replicate}
use Rattle.hp_model.proofs.Words.{in_columns}

pub length_digit : (n : ℕ) → n < 10 → length (decimal n) ≡ 1
length_digit n small = ap length (decimal_digit n small)

-- a number from 10 ^ k on has more than k digits
long_decimal : (k n : ℕ) → 10 ^ k ≤ n → n < 2 ^ 64 → k < length (decimal n)
long_decimal zero n from fits = decimal_nonempty n fits
long_decimal (suc k) n from fits =
    let p : 10 ^ suc k ≡ 10 ^ k * 10 = pow-suc 10 k in
    let some : 10 ^ 0 ≤ 10 ^ k = pow-le-pow_right {n = 10} (omega arith) {i = 0} {j = k} (omega arith) in
    let rest : k < length (decimal (n / 10)) = long_decimal k (n / 10) (omega arith) (omega arith) in
    omega (arith, rest, ap length (decimal_step n (omega arith) fits), length-append (decimal (n / 10)) ((48 + n % 10) ∷ []))

-- a number that eight columns don't hold
pub wide_is : (n : ℕ) → 99999999 < n → n < 2 ^ 64 → decimal n ≡ in_columns n
wide_is n wide fits =
    let none : 0 ≡ 8 - length (decimal n) = omega (arith, long_decimal 8 n (omega arith) fits) in
    ap (λ k. replicate k 32 ++ decimal n) none

-- a number that stands at the end of eight columns
pub columns_are : (start n : ℕ) (columns : List ℕ) → start + length (decimal n) ≡ 8 → drop start columns ≡ decimal n ++ drop 8 (replicate 8 32) → take start columns ≡ take start (replicate 8 32)
    → columns ≡ in_columns n
columns_are start n columns ends behind before =
    let blank : start ≡ 8 - length (decimal n) = omega (arith, ends) in
    sym (take-append-drop start columns)
    ∙ ap (λ (xs : List ℕ). xs ++ drop start columns) (before ∙ take-replicate start 8 32 (omega (arith, ends)))
    ∙ ap (λ (xs : List ℕ). replicate start 32 ++ xs) (behind ∙ append-nil (decimal n))
    ∙ ap (λ k. replicate k 32 ++ decimal n) blank
