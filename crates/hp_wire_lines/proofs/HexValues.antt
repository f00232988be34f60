-- The table of hex digits.
use Rattle.std.proofs.Common.{◌≡◌, ℕ, suc, zero, ◌+◌, ◌*◌, ◌<◌, ◌≤◌, Bool, true, false, ◌&&◌, ◌==◌, List, [], ◌∷◌, length, slice_index, Option, Some, None, Ok, Err, refl, sym, ap, ◌∙◌, arith}
use Rattle.std.proofs.Common.{unwrap_or}
use Rattle.std.proofs.lemmas.Bool.Decides.{nat_tests}
use Rattle.hex.specs.Hex.{hex_digit_value, digit_or_error, pair_value, ◌>>=◌}
use Rattle.hex.specs.declared.error.FromHexError.{FromHexError}
use Rattle.hex.specs.declared.error.FromHexError.TheVariants.{InvalidHexCharacter}

abbrev pub value_or_bad : ℕ → ℕ
value_or_bad c = unwrap_or (hex_digit_value c) 256

-- each is the value of the next byte as a digit, by computation
abbrev pub are_values : List ℕ → ℕ → Bool
are_values [] i = true
are_values (x ∷ xs) i = (x == value_or_bad i) && are_values xs (i + 1)

both : (a b : Bool) → (a && b) ≡ true → (a ≡ true) × (b ≡ true)
both true b h = (refl, h)
both false b h = cc

value_at_place : (xs : List ℕ) (i k : ℕ) → are_values xs i ≡ true → k < length xs → slice_index xs k ≡ value_or_bad (k + i)
value_at_place [] i k h l = absurd (omega (arith, l))
value_at_place (x ∷ xs) i zero h l =
    let same : i ≡ 0 + i = omega arith in
    let here = both (x == value_or_bad i) (are_values xs (i + 1)) h in
    let is : x ≡ value_or_bad i = grind (arith, nat_tests, here.0) in
    is ∙ ap value_or_bad same
value_at_place (x ∷ xs) i (suc k) h l =
    let same : k + (i + 1) ≡ suc k + i = omega arith in
    let here = both (x == value_or_bad i) (are_values xs (i + 1)) h in
    value_at_place xs (i + 1) k here.1 (omega (arith, l)) ∙ ap value_or_bad same

pub value_is : (xs : List ℕ) (c : ℕ) → are_values xs 0 ≡ true → c < length xs → slice_index xs c ≡ value_or_bad c
value_is xs c h l = let same : c + 0 ≡ c = omega arith in value_at_place xs 0 c h l ∙ ap value_or_bad same

-- ---- the byte of two digits

abbrev both_of : Option ℕ → Option ℕ → ℕ
both_of a b = unwrap_or a 256 * 16 + unwrap_or b 256

abbrev IsDigit : Option ℕ → Type 0
IsDigit a = (v : ℕ) → a ≡ Some v → v < 16

digit : (c : ℕ) → IsDigit (hex_digit_value c)
digit c v h = grind (arith)

good_by : (high low i : ℕ) (a b : Option ℕ) → both_of a b ≤ 255
    → (digit_or_error high i a >>= (λ h. digit_or_error low (i + 1) b >>= (λ l. Ok (h * 16 + l)))) ≡ Ok (both_of a b)
good_by high low i (Some h) (Some l) fits = refl
good_by high low i (Some h) None fits = absurd (omega (arith, fits))
good_by high low i None b fits = absurd (omega (arith, fits))

bad_by : (high low i : ℕ) (a b : Option ℕ) → IsDigit a → IsDigit b → 255 < both_of a b
    → (e : FromHexError) × ((digit_or_error high i a >>= (λ h. digit_or_error low (i + 1) b >>= (λ l. Ok (h * 16 + l)))) ≡ Err e)
bad_by high low i (Some h) (Some l) high_is low_is past = absurd (omega (arith, high_is h refl, low_is l refl, past))
bad_by high low i (Some h) None high_is low_is past = (InvalidHexCharacter low (i + 1), refl)
bad_by high low i None b high_is low_is past = (InvalidHexCharacter high i, refl)

pub pair_good : (high low both i : ℕ) → both ≡ value_or_bad high * 16 + value_or_bad low → both ≤ 255 → pair_value high low i ≡ Ok both
pair_good high low both i is fits =
    good_by high low i (hex_digit_value high) (hex_digit_value low) (omega (arith, is, fits)) ∙ ap (λ v. Ok v) (sym is)

pub pair_bad : (high low both i : ℕ) → both ≡ value_or_bad high * 16 + value_or_bad low → 255 < both → (e : FromHexError) × (pair_value high low i ≡ Err e)
pair_bad high low both i is past =
    bad_by high low i (hex_digit_value high) (hex_digit_value low) (digit high) (digit low) (omega (arith, is, past))
