-- The table of a name's bytes.
use Rattle.std.proofs.Common.{◌≡◌, ℕ, suc, zero, ◌+◌, ◌<◌, Bool, true, false, ◌&&◌, ◌==◌, not, List, [], ◌∷◌, length, slice_index, refl, subst, arith}
use Rattle.std.proofs.lemmas.Bool.{and_parts}
use Rattle.hp_model.proofs.Words.{is_name_byte}

abbrev IsMarkOf : ℕ → ℕ → Type 0
IsMarkOf x c = (x == 1) ≡ is_name_byte c

-- by computation
abbrev is_mark : Bool → Bool → Bool
is_mark true good = good
is_mark false good = not good

abbrev pub are_marks : List ℕ → ℕ → Bool
are_marks [] i = true
are_marks (x ∷ xs) i = is_mark (x == 1) (is_name_byte i) && are_marks xs (i + 1)

mark_by : (one good : Bool) → is_mark one good ≡ true → one ≡ good
mark_by true true h = refl
mark_by true false h = cc
mark_by false true h = cc
mark_by false false h = refl

mark_at : (xs : List ℕ) (i k : ℕ) → are_marks xs i ≡ true → k < length xs → IsMarkOf (slice_index xs k) (k + i)
mark_at [] i k h l = absurd (omega (arith, l))
mark_at (x ∷ xs) i zero h l =
    let same : i ≡ 0 + i = omega arith in
    subst (IsMarkOf x) same (mark_by (x == 1) (is_name_byte i) (and_parts (is_mark (x == 1) (is_name_byte i)) (are_marks xs (i + 1)) h).0)
mark_at (x ∷ xs) i (suc k) h l =
    let same : k + (i + 1) ≡ suc k + i = omega arith in
    subst (IsMarkOf (slice_index xs k)) same (mark_at xs (i + 1) k (and_parts (is_mark (x == 1) (is_name_byte i)) (are_marks xs (i + 1)) h).1 (omega (arith, l)))

pub mark_is : (xs : List ℕ) (c : ℕ) → are_marks xs 0 ≡ true → c < length xs → (slice_index xs c == 1) ≡ is_name_byte c
mark_is xs c h l = let same : c + 0 ≡ c = omega arith in subst (IsMarkOf (slice_index xs c)) same (mark_at xs 0 c h l)
