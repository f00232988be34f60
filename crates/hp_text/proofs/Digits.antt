-- Reading a number from left to right.
use Rattle.std.proofs.Common.{◌≡◌, ℕ, List, [], ◌∷◌, ◌+◌, ◌-◌, ◌*◌, ◌^◌, ◌<◌, ◌≤◌, length, refl, sym, ◌∙◌, ap, arith, Bool, true, false, ◌&&◌, nat_lt, nat_le, Option, Some, None, inl, inr, ◌⊎◌, drop}
use Rattle.std.proofs.Common.{get_or, add-one, drop-cons, drop_of_length-le}
use Rattle.std.proofs.lemmas.Bool.Decides.{nat_tests}
use Rattle.std.proofs.lemmas.Str.{digit_value_digit}
use Rattle.std.specs.Char.{is_ascii_digit, digit_value}
use Rattle.std.specs.Int.{IsInRange}
use Rattle.std.specs.Str.{all_ascii_digits}
use Rattle.std.specs.Str.Parse.{digits_value_after}
use Rattle.hp_model.proofs.Words.{number_of, when}

-- a number, where the test holds and it fits
abbrev pub made : Bool → ℕ → Option ℕ
made test value = when (test && nat_lt value (2 ^ 64)) value

-- the number that digits make after a value
abbrev pub number_from : ℕ → List ℕ → Option ℕ
number_from value digits = made (all_ascii_digits digits) (digits_value_after 10 value digits)

made_fits : (value : ℕ) → value < 2 ^ 64 → made true value ≡ Some value
made_fits value h = grind (arith, nat_tests)

made_large : (test : Bool) (value : ℕ) → 2 ^ 64 ≤ value → made test value ≡ None
made_large true value h = grind (arith, nat_tests)
made_large false value h = refl

number_from_digit : (value b : ℕ) (rest : List ℕ) → IsInRange 48 57 b → number_from value (b ∷ rest) ≡ number_from (value * 10 + (b - 48)) rest
number_from_digit value b rest h =
    let test : is_ascii_digit b ≡ true = grind (arith, nat_tests) in
    let same : digit_value b ≡ b - 48 = omega (arith, digit_value_digit b h) in
    ap (λ t. made (t && all_ascii_digits rest) (digits_value_after 10 value (b ∷ rest))) test
    ∙ ap (λ d. made (all_ascii_digits rest) (digits_value_after 10 (value * 10 + d) rest)) same

number_from_other : (value b : ℕ) (rest : List ℕ) → (IsInRange 48 57 b → ⊥) → number_from value (b ∷ rest) ≡ None
number_from_other value b rest h =
    let test : is_ascii_digit b ≡ false = grind (arith, nat_tests) in
    ap (λ t. made (t && all_ascii_digits rest) (digits_value_after 10 value (b ∷ rest))) test

grows : (value : ℕ) (digits : List ℕ) → value ≤ digits_value_after 10 value digits
grows value [] = omega arith
grows value (b ∷ rest) = omega (arith, grows (value * 10 + digit_value b) rest)

number_from_large : (value : ℕ) (rest : List ℕ) → 2 ^ 64 ≤ value → number_from value rest ≡ None
number_from_large value rest h = made_large (all_ascii_digits rest) (digits_value_after 10 value rest) (omega (arith, grows value rest))

in_range : (lo hi b : ℕ) → IsInRange lo hi b ⊎ (IsInRange lo hi b → ⊥)
in_range lo hi b = grind (arith, nat_tests)

-- a digit that is none, or too much
number_from_stop : (value b : ℕ) (rest : List ℕ) → (IsInRange 48 57 b → 2 ^ 64 ≤ value * 10 + (b - 48)) → number_from value (b ∷ rest) ≡ None
number_from_stop value b rest h = elim (in_range 48 57 b) [
  | inl digit ↦ number_from_digit value b rest digit ∙ number_from_large (value * 10 + (b - 48)) rest (h digit)
  | inr other ↦ number_from_other value b rest other
]

number_of_some : (digits : List ℕ) → 0 < length digits → length digits ≤ 20 → number_of digits ≡ number_from 0 digits
number_of_some digits some short =
    let a : nat_lt 0 (length digits) ≡ true = grind (arith, nat_tests) in
    let b : nat_le (length digits) 20 ≡ true = grind (arith, nat_tests) in
    ap (λ t. made (t && nat_le (length digits) 20 && all_ascii_digits digits) (digits_value_after 10 0 digits)) a
    ∙ ap (λ t. made (t && all_ascii_digits digits) (digits_value_after 10 0 digits)) b

pub number_step : (digits : List ℕ) (value i more : ℕ) (start : Option ℕ) → i < length digits → number_from value (drop i digits) ≡ start →
    IsInRange 48 57 (get_or digits i 0) → more ≡ value * 10 + (get_or digits i 0 - 48) → number_from more (drop (i + 1) digits) ≡ start
number_step digits value i more start within so digit is =
    let cut : drop i digits ≡ get_or digits i 0 ∷ drop (i + 1) digits = rw add-one (drop-cons digits i 0 within) in
    let step = number_from_digit value (get_or digits i 0) (drop (i + 1) digits) digit in
    ap (λ n. number_from n (drop (i + 1) digits)) is ∙ sym step ∙ ap (number_from value) (sym cut) ∙ so

pub number_stop : (digits : List ℕ) (value i : ℕ) → i < length digits → number_from value (drop i digits) ≡ number_from 0 digits →
    (IsInRange 48 57 (get_or digits i 0) → 2 ^ 64 ≤ value * 10 + (get_or digits i 0 - 48)) → 0 < length digits → length digits ≤ 20 →
    None ≡ number_of digits
number_stop digits value i within so stop some short =
    let cut : drop i digits ≡ get_or digits i 0 ∷ drop (i + 1) digits = rw add-one (drop-cons digits i 0 within) in
    sym (number_of_some digits some short ∙ sym so ∙ ap (number_from value) cut ∙ number_from_stop value (get_or digits i 0) (drop (i + 1) digits) stop)

pub number_end : (digits : List ℕ) (value i : ℕ) → length digits ≤ i → value < 2 ^ 64 → number_from value (drop i digits) ≡ number_from 0 digits →
    0 < length digits → length digits ≤ 20 → Some value ≡ number_of digits
number_end digits value i past fits so some short =
    sym (number_of_some digits some short ∙ sym so ∙ ap (number_from value) (drop_of_length-le digits past) ∙ made_fits value fits)
