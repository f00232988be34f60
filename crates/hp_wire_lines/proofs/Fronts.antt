-- Pieces that are read from the front of a line on.
use Rattle.std.proofs.Common.{◌≡◌, ℕ, List, [], ◌∷◌, ◌++◌, ◌+◌, ◌-◌, ◌*◌, ◌^◌, ◌<◌, ◌≤◌, length, refl, sym, ◌∙◌, ap, arith, Bool, true, false, ◌&&◌, ◌==◌, nat_lt, nat_le, if◌then◌else◌, Option, Some}
use Rattle.std.proofs.Common.{None, Result, Ok, Err, drop, get_or, add-one, drop-cons, drop-drop, append-nil, length-append, length-drop, ok_or}
use Rattle.std.proofs.Math.Nat.{pow-suc, pow-le-pow_right}
use Rattle.std.proofs.Math.Seq.{drop-append-add}
use Rattle.std.proofs.lemmas.Bool.Decides.{nat_tests}
use Rattle.std.proofs.lemmas.Str.{digit_value_digit}
use Rattle.std.proofs.lemmas.List.Splits.{slice_split-cons_no, slice_split-cons_yes}
use Rattle.std.specs.Char.{is_ascii_digit, digit_value}
use Rattle.std.specs.Int.{IsInRange}
use Rattle.std.specs.List.{onto_first}
use Rattle.std.specs.Str.{all_ascii_digits}
use Rattle.std.specs.Str.Parse.{digits_value_after}
use Rattle.hp_model.proofs.Words.{number_at, number_read, piece_at, pieces_of_line, when, ◌>>=◌}
use Rattle.hp_model.specs.declared.refusal.Refusal.{Refusal}
use Rattle.hp_model.specs.declared.refusal.Refusal.TheVariants.{BadLine}
use Rattle.hp_text.specs.Pieces.{pieces_by, pieces_after, from_separator}
use Rattle.hp_wire_lines.specs.Words.{number_after, number_with, pieces_from, Takes}
use denote.Ref.{Bor}

pub within : (at : ℕ) (line : List ℕ) → at ≤ length line → pieces_from at line ≡ pieces_of_line (drop at line)
within at line h =
    let test : nat_le at (length line) ≡ true = grind (arith, nat_tests) in
    ap (λ t. if t then pieces_of_line (drop at line) else []) test

pub past : (at : ℕ) (line : List ℕ) → length line < at → pieces_from at line ≡ []
past at line h =
    let test : nat_le at (length line) ≡ false = grind (arith, nat_tests) in
    ap (λ t. if t then pieces_of_line (drop at line) else []) test

-- ---- numbers

abbrev made : (digits : ℕ) → Bool → (value : ℕ) → List (List ℕ) → Result (ℕ × List (List ℕ)) Refusal
made digits good value more =
    ok_or (when (nat_lt 0 digits && nat_le digits 20 && good && nat_lt value (2 ^ 64)) value) BadLine >>= (λ number. Ok (number, more))

pub at_start : (pieces : List (List ℕ)) → number_after 0 0 pieces ≡ number_at pieces
unfolding number_at piece_at
at_start [] = refl
at_start (p ∷ more) = let z : 0 + length p ≡ length p = omega arith in ap (λ k. made k (all_ascii_digits p) (digits_value_after 10 0 p) more) z

digit_with : (value n b : ℕ) (p : List ℕ) (more : List (List ℕ)) → IsInRange 48 57 b → number_with (value * 10 + (b - 48)) (n + 1) p more ≡ number_with value n (b ∷ p) more
digit_with value n b p more h =
    let k : n + 1 + length p ≡ n + length (b ∷ p) = omega arith in
    let test : true ≡ is_ascii_digit b = grind (arith, nat_tests) in
    let same : b - 48 ≡ digit_value b = omega (arith, digit_value_digit b h) in
    ap (λ j. made j (all_ascii_digits p) (digits_value_after 10 (value * 10 + (b - 48)) p) more) k
    ∙ ap (λ t. made (n + length (b ∷ p)) (t && all_ascii_digits p) (digits_value_after 10 (value * 10 + (b - 48)) p) more) test
    ∙ ap (λ d. made (n + length (b ∷ p)) (is_ascii_digit b && all_ascii_digits p) (digits_value_after 10 (value * 10 + d) p) more) same

digit_onto : (value n b : ℕ) (ps : List (List ℕ)) → IsInRange 48 57 b → number_after (value * 10 + (b - 48)) (n + 1) ps ≡ number_after value n (onto_first b ps)
digit_onto value n b [] h = digit_with value n b [] [] h
digit_onto value n b (p ∷ more) h = digit_with value n b p more h

-- a digit more makes a number of one place more, and all of 19 places are below 2^64
pub one_more : (value n digit : ℕ) → value < 10 ^ n → n < 19 → digit ≤ 9 → (value * 10 + digit < 10 ^ (n + 1)) × (value * 10 + digit < 2 ^ 64)
one_more value n digit small few is =
    let p : 10 ^ (n + 1) ≡ 10 ^ n * 10 = rw add-one (pow-suc 10 n) in
    let more : value * 10 + digit < 10 ^ (n + 1) = omega (arith, p) in
    let most : 10 ^ (n + 1) ≤ 10 ^ 19 = pow-le-pow_right {n = 10} (omega arith) {i = n + 1} {j = 19} (omega arith) in
    (more, omega arith)

-- one digit more is read
pub next_digit : (line : List ℕ) (value n at more : ℕ) → at < length line → IsInRange 48 57 (get_or line at 0) → more ≡ value * 10 + (get_or line at 0 - 48)
    → number_after more (n + 1) (pieces_from (at + 1) line) ≡ number_after value n (pieces_from at line)
next_digit line value n at more short digit is =
    let b = get_or line at 0 in
    let cut : drop at line ≡ b ∷ drop (at + 1) line = rw add-one (drop-cons line at 0 short) in
    let other : (b == 32) ≡ false = grind (arith, nat_tests, digit) in
    ap (λ v. number_after v (n + 1) (pieces_from (at + 1) line)) is
    ∙ ap (number_after (value * 10 + (b - 48)) (n + 1)) (within (at + 1) line (omega arith))
    ∙ digit_onto value n b (pieces_of_line (drop (at + 1) line)) digit
    ∙ ap (number_after value n) (sym (slice_split-cons_no (λ x. x == 32) b (drop (at + 1) line) other) ∙ ap pieces_of_line (sym cut) ∙ sym (within at line (omega arith)))

ends_here : (value n : ℕ) (more : List (List ℕ)) → 0 < n → n ≤ 20 → value < 2 ^ 64 → number_after value n ([] ∷ more) ≡ Ok (value, more)
ends_here value n more some few fits =
    let k : n + 0 ≡ n = omega arith in
    let a : nat_lt 0 n ≡ true = grind (arith, nat_tests) in
    let b : nat_le n 20 ≡ true = grind (arith, nat_tests) in
    let c : nat_lt value (2 ^ 64) ≡ true = grind (arith, nat_tests) in
    ap (λ j. made j true value more) k
    ∙ ap (λ t. ok_or (when (t && nat_le n 20 && true && nat_lt value (2 ^ 64)) value) BadLine >>= (λ number. Ok (number, more))) a
    ∙ ap (λ t. ok_or (when (t && true && nat_lt value (2 ^ 64)) value) BadLine >>= (λ number. Ok (number, more))) b
    ∙ ap (λ t. ok_or (when t value) BadLine >>= (λ number. Ok (number, more))) c

-- a number ends at a space
pub taken_at_space : (line : List ℕ) (value n at : ℕ) → at < length line → get_or line at 0 ≡ 32 → 0 < n → n ≤ 20 → value < 2 ^ 64
    → number_after value n (pieces_from at line) ≡ Ok (value, pieces_from (at + 1) line)
taken_at_space line value n at short space some few fits =
    let b = get_or line at 0 in
    let cut : drop at line ≡ b ∷ drop (at + 1) line = rw add-one (drop-cons line at 0 short) in
    let yes : (b == 32) ≡ true = grind (arith, nat_tests, space) in
    ap (number_after value n) (within at line (omega arith) ∙ ap pieces_of_line cut ∙ slice_split-cons_yes (λ x. x == 32) b (drop (at + 1) line) yes)
    ∙ ends_here value n (pieces_of_line (drop (at + 1) line)) some few fits
    ∙ ap (λ more. Ok (value, more)) (sym (within (at + 1) line (omega arith)))

-- a digit with a space behind it
pub taken_digit : (line : List ℕ) (from digit : ℕ) → from + 1 < length line → IsInRange 48 57 (get_or line from 0) → digit ≡ get_or line from 0 - 48 → get_or line (from + 1) 0 ≡ 32
    → number_at (pieces_from from line) ≡ Ok (digit, pieces_from (from + 2) line)
taken_digit line from digit short is value space =
    let next : from + 1 + 1 ≡ from + 2 = omega arith in
    sym (at_start (pieces_from from line))
    ∙ sym (next_digit line 0 0 from digit (omega arith) is (omega (arith, value)))
    ∙ taken_at_space line digit 1 (from + 1) short space (omega arith) (omega arith) (omega (arith, is, value))
    ∙ ap (λ at. Ok (digit, pieces_from at line)) next

-- ---- pieces

pub no_piece : piece_at [] ≡ Err BadLine
unfolding piece_at
no_piece = refl

after_piece : (line piece rest : List ℕ) (at : ℕ) → drop at line ≡ piece ++ 32 ∷ rest → drop (at + length piece + 1) line ≡ rest
after_piece line piece rest at whole =
    let k : at + length piece + 1 ≡ at + (length piece + 1) = omega arith in
    ap (λ n. drop n line) k ∙ sym (drop-drop (length piece + 1) at line) ∙ ap (drop (length piece + 1)) whole ∙ drop-append-add piece (32 ∷ rest) 1

-- the first piece, and what stands after it
pub next_piece : (line piece : List ℕ) (at : ℕ) (rest : Option (Bor (List ℕ))) → at ≤ length line → pieces_by 32 (drop at line) ≡ piece ∷ pieces_after 32 rest
    → drop at line ≡ piece ++ from_separator 32 rest → piece_at (pieces_from at line) ≡ Ok (piece, pieces_from (at + length piece + 1) line)
unfolding piece_at
next_piece line piece at None h cut whole =
    let n : length (drop at line) ≡ length piece = rw whole (ap length (append-nil piece)) in
    let end : length line < at + length piece + 1 = omega (arith, length-drop at line, n) in
    ap piece_at (within at line h ∙ cut) ∙ ap (λ more. Ok (piece, more)) (sym (past (at + length piece + 1) line end))
next_piece line piece at (Some rest) h cut whole =
    let n : length (drop at line) ≡ length piece + length (32 ∷ rest.now) = rw whole (length-append piece (32 ∷ rest.now)) in
    let short : at + length piece + 1 ≤ length line = omega (arith, length-drop at line, n) in
    let left : drop (at + length piece + 1) line ≡ rest.now = after_piece line piece rest.now at whole in
    ap piece_at (within at line h ∙ cut) ∙ ap (λ more. Ok (piece, more)) (ap pieces_of_line (sym left) ∙ sym (within (at + length piece + 1) line short))

-- a number is the first piece
pub taken_piece : (r : Result ℕ Refusal) (piece : List ℕ) (left before : List (List ℕ)) → piece_at before ≡ Ok (piece, left) → r ≡ number_read piece → Takes (λ (n : ℕ). n) r left (number_at before)
unfolding number_at
taken_piece (Ok n) piece left before cut is = ap (λ x. x >>= (λ piece. number_read piece.0 >>= (λ number. Ok (number, piece.1)))) cut ∙ ap (λ x. x >>= (λ number. Ok (number, left))) (sym is)
taken_piece (Err e) piece left before cut is = ap (λ x. x >>= (λ piece. number_read piece.0 >>= (λ number. Ok (number, piece.1)))) cut ∙ ap (λ x. x >>= (λ number. Ok (number, left))) (sym is)

pub taken_no_piece : (e : Refusal) (before : List (List ℕ)) → piece_at before ≡ Err e → number_at before ≡ Err e
unfolding number_at
taken_no_piece e before h = ap (λ x. x >>= (λ piece. number_read piece.0 >>= (λ number. Ok (number, piece.1)))) h
