-- Words that are compared four bytes at a time.
use Rattle.std.proofs.Common.{◌≡◌, ℕ, ◌+◌, ◌<◌, ◌≤◌, ◌++◌, List, length, length-drop, length-take, take, drop, drop-drop, get_or, refl, sym, ap, ◌∙◌, arith, Bool, true, false, nat_lt}
use Rattle.std.proofs.lemmas.List.{get_or-drop, get_or-take, get_or_past, take-append-drop}
use Rattle.std.proofs.lemmas.Bool.Decides.{nat_tests, same_from_decides}
use Rattle.std.proofs.lemmas.Nat.{le_bytes_4}
use Rattle.std.proofs.lemmas.Slice.Eq.{bytes_eq-Decides}
use Rattle.std.specs.Int.{from_le_bytes, to_le_bytes, w32}
use Rattle.std.specs.Str.{bytes_eq}

-- what stands after the same front decides
after_same : (n : ℕ) (xs ys : List ℕ) → take n xs ≡ take n ys → bytes_eq (drop n xs) (drop n ys) ≡ bytes_eq xs ys
after_same n xs ys front =
    let rest = bytes_eq-Decides (drop n xs) (drop n ys) in
    let both : drop n xs ≡ drop n ys → xs ≡ ys = λ back. sym (take-append-drop n xs) ∙ ap (λ a. a ++ drop n xs) front ∙ ap (λ b. take n ys ++ b) back ∙ take-append-drop n ys in
    same_from_decides {P = xs ≡ ys} (bytes_eq (drop n xs) (drop n ys)) (bytes_eq xs ys) (λ t. both (rest.0 t), λ e. rest.1 (ap (drop n) e)) (bytes_eq-Decides xs ys)

abbrev Bytes : List ℕ → Type 0
Bytes xs = (i : ℕ) → get_or xs i 0 < 256

front_by : (n : ℕ) (xs : List ℕ) (i : ℕ) (in_front : Bool) → nat_lt i n ≡ in_front → Bytes xs → get_or (take n xs) i 0 < 256
front_by n xs i true t bytes = let h : i < n = grind (arith, nat_tests) in rw (get_or-take n xs i 0 h) (bytes i)
front_by n xs i false t bytes =
    let h : length (take n xs) ≤ i = grind (arith, nat_tests, length-take n xs) in
    rw (get_or_past (take n xs) i 0 h) (omega arith)

four_from : (xs : List ℕ) (at : ℕ) → Bytes xs → Bytes (take 4 (drop at xs))
four_from xs at bytes i = front_by 4 (drop at xs) i (nat_lt i 4) refl (λ j. rw (get_or-drop at xs j 0) (bytes (at + j)))

-- bytes that are one number in their next four are the same there
pub after_four : (xs ys : List ℕ) (at : ℕ) → at + 4 ≤ length xs → at + 4 ≤ length ys → Bytes xs → Bytes ys
    → from_le_bytes w32 (take 4 (drop at xs)) ≡ from_le_bytes w32 (take 4 (drop at ys))
    → bytes_eq (drop (at + 4) xs) (drop (at + 4) ys) ≡ bytes_eq (drop at xs) (drop at ys)
after_four xs ys at here there bytes others same =
    let four = λ (zs : List ℕ) (h : at + 4 ≤ length zs) (b : Bytes zs). le_bytes_4 (take 4 (drop at zs)) (from_le_bytes w32 (take 4 (drop at zs)))
    (omega (arith, length-take 4 (drop at zs), length-drop at zs)) (four_from zs at b) refl in
    ap (λ r. bytes_eq r (drop (at + 4) ys)) (sym (drop-drop 4 at xs)) ∙ ap (bytes_eq (drop 4 (drop at xs))) (sym (drop-drop 4 at ys))
    ∙ after_same 4 (drop at xs) (drop at ys) (sym (four xs here bytes) ∙ ap (to_le_bytes w32) same ∙ four ys there others)
