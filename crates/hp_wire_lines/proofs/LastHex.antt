-- Hex digits that are the last word of a line. A space is no digit, so they need not be cut off first.
use Rattle.std.proofs.Common.{◌≡◌, ℕ, ◌+◌, ◌*◌, ◌%◌, ◌<◌, ◌≤◌, List, [], ◌∷◌, ◌++◌, length, drop, refl, sym, ◌∙◌, ap, arith, Bool, true, false, ◌==◌, nat_lt, if◌then◌else◌}
use Rattle.std.proofs.Common.{Result, Ok, Err, MatchResult, ◌⊎◌, inl, inr}
use Rattle.std.proofs.lemmas.Bool.Decides.{nat_tests}
use Rattle.std.proofs.lemmas.List.Splits.{slice_split-cons_no, slice_split-cons_yes}
use Rattle.std.specs.List.{onto_first}
use Rattle.hex.specs.Hex.{decode_of, decode_pairs, pair_value, value_at, ◌>>=◌ as ◌then◌}
use Rattle.hex.specs.declared.error.FromHexError.{FromHexError}
use Rattle.hex.specs.declared.error.FromHexError.TheVariants.{InvalidHexCharacter, OddLength}
use Rattle.hp_model.proofs.Words.{Read, bytes_of_hex, end_at, hex_at, piece_at, pieces_of_line, ◌>>=◌}
use Rattle.hp_model.specs.declared.refusal.Refusal.{Refusal}
use Rattle.hp_model.specs.declared.refusal.Refusal.TheVariants.{BadLine}
use Rattle.hp_wire_lines.proofs.Fronts.{past, within}
use Rattle.hp_wire_lines.proofs.Pieces.{first_piece}
use Rattle.hp_wire_lines.specs.Digits.{Decodes}
use Rattle.hp_wire_lines.specs.Words.{last_hex, pieces_from}

-- ---- a space among digits

abbrev Fails : {A : Type 0} → Result A FromHexError → Type 0
Fails r = (e : FromHexError) × (r ≡ Err e)

after_bad : {A B : Type 0} (r : Result A FromHexError) (f : A → Result B FromHexError) → Fails r → Fails (r then f)
after_bad r f h = (h.0, ap (λ x. x then f) h.1)

before_bad : {A B : Type 0} (r : Result A FromHexError) (f : A → Result B FromHexError) → ((a : A) → Fails (f a)) → Fails (r then f)
before_bad (Ok a) f h = h a
before_bad (Err e) f h = (e, refl)

bad_pairs : (i : ℕ) (front back : List ℕ) → Fails (decode_pairs i (front ++ 32 ∷ back))
unfolding decode_pairs
bad_pairs i [] [] = (OddLength, refl)
bad_pairs i [] (y ∷ back) = (InvalidHexCharacter 32 i, refl)
bad_pairs i (x ∷ []) back =
    after_bad (pair_value x 32 i) (λ byte. decode_pairs (i + 2) back then (λ bytes. Ok (byte ∷ bytes)))
    (before_bad (value_at x i) (λ h. value_at 32 (i + 1) then (λ l. Ok (h * 16 + l))) (λ h. (InvalidHexCharacter 32 (i + 1), refl)))
bad_pairs i (x ∷ y ∷ front) back =
    before_bad (pair_value x y i) (λ byte. decode_pairs (i + 2) (front ++ 32 ∷ back) then (λ bytes. Ok (byte ∷ bytes)))
    (λ byte. after_bad (decode_pairs (i + 2) (front ++ 32 ∷ back)) (λ bytes. Ok (byte ∷ bytes)) (bad_pairs (i + 2) front back))

bad_text : (text : List ℕ) (odd : Bool) → Fails (decode_pairs 0 text) → Fails (if odd then Err OddLength else decode_pairs 0 text)
bad_text text true h = (OddLength, refl)
bad_text text false h = h

abbrev read_by : Bool → Result (List ℕ) FromHexError → Result (List ℕ) Refusal
read_by some r = if some then elim r [ Ok bytes ↦ Ok bytes | Err e ↦ Err BadLine ] else Err BadLine

bad_by : (some : Bool) (r : Result (List ℕ) FromHexError) → Fails r → read_by some r ≡ Err BadLine
bad_by true r h = ap (read_by true) h.1
bad_by false r h = refl

bad_hex : (front back : List ℕ) → bytes_of_hex (front ++ 32 ∷ back) ≡ Err BadLine
bad_hex front back =
    let text : List ℕ = front ++ 32 ∷ back in
    bad_by (nat_lt 0 (length text)) (decode_of text) (bad_text text (length text % 2 == 1) (bad_pairs 0 front back))

-- ---- one piece, or more

abbrev IsCut : List ℕ → Type 0
IsCut line = (front : List ℕ) × (back : List ℕ) × (first : List ℕ) × (second : List ℕ) × (more : List (List ℕ)) × (line ≡ front ++ 32 ∷ back) × (pieces_of_line line ≡ first ∷ second ∷ more)

cut_cons : (c : ℕ) (line : List ℕ) → (c == 32) ≡ false → (pieces_of_line line ≡ line ∷ []) ⊎ IsCut line → (pieces_of_line (c ∷ line) ≡ (c ∷ line) ∷ []) ⊎ IsCut (c ∷ line)
cut_cons c line other (inl whole) = inl (slice_split-cons_no (λ b. b == 32) c line other ∙ ap (onto_first c) whole)
cut_cons c line other (inr (front, back, first, second, more, is, cut)) =
    inr (c ∷ front, back, c ∷ first, second, more, ap (λ xs. c ∷ xs) is, slice_split-cons_no (λ b. b == 32) c line other ∙ ap (onto_first c) cut)

cut_by : (c : ℕ) (line : List ℕ) (space : Bool) → (c == 32) ≡ space → (pieces_of_line line ≡ line ∷ []) ⊎ IsCut line → (pieces_of_line (c ∷ line) ≡ (c ∷ line) ∷ []) ⊎ IsCut (c ∷ line)
cut_by c line true space h =
    let f = first_piece (λ b. b == 32) line in
    let is : c ≡ 32 = grind (arith, nat_tests) in
    inr ([], line, [], f.0, f.1, ap (λ b. b ∷ line) is, slice_split-cons_yes (λ b. b == 32) c line space ∙ ap (λ ps. [] ∷ ps) f.2)
cut_by c line false other h = cut_cons c line other h

cut_or_whole : (line : List ℕ) → (pieces_of_line line ≡ line ∷ []) ⊎ IsCut line
cut_or_whole [] = inl refl
cut_or_whole (c ∷ line) = cut_by c line (c == 32) refl (cut_or_whole line)

-- ---- the last word

abbrev before : List (List ℕ) → Result (List ℕ) Refusal → Read (List ℕ)
before left r = r >>= (λ bytes. Ok (bytes, left))

one_read : (r : Result (List ℕ) Refusal) → (before [] r >>= (λ bytes. end_at bytes.1 >>= (λ done. Ok bytes.0))) ≡ r
unfolding end_at
one_read (Ok bytes) = refl
one_read (Err e) = refl

more_read : (some : Bool) (r : Result (List ℕ) FromHexError) (second : List ℕ) (more : List (List ℕ))
    → (before (second ∷ more) (read_by some r) >>= (λ bytes. end_at bytes.1 >>= (λ done. Ok bytes.0))) ≡ Err BadLine
unfolding end_at
more_read true (Ok bytes) second more = refl
more_read true (Err e) second more = refl
more_read false r second more = refl

last_by : (line : List ℕ) → (pieces_of_line line ≡ line ∷ []) ⊎ IsCut line → last_hex (pieces_of_line line) ≡ bytes_of_hex line
unfolding hex_at piece_at
last_by line (inl whole) = ap last_hex whole ∙ one_read (bytes_of_hex line)
last_by line (inr (front, back, first, second, more, is, cut)) =
    ap last_hex cut ∙ more_read (nat_lt 0 (length first)) (decode_of first) second more ∙ sym (ap bytes_of_hex is ∙ bad_hex front back)

last_is : (line : List ℕ) → last_hex (pieces_of_line line) ≡ bytes_of_hex line
last_is line = last_by line (cut_or_whole line)

last_none : last_hex [] ≡ Err BadLine
unfolding hex_at piece_at
last_none = refl

pub last_past : (line : List ℕ) (at : ℕ) (left : List (List ℕ)) → length line < at → pieces_from at line ≡ left → last_hex left ≡ Err BadLine
last_past line at left h view = ap last_hex (sym view ∙ past at line h) ∙ last_none

pub last_from : (line : List ℕ) (at : ℕ) (left : List (List ℕ)) → at ≤ length line → pieces_from at line ≡ left → last_hex left ≡ bytes_of_hex (drop at line)
last_from line at left h view = ap last_hex (sym view ∙ within at line h) ∙ last_is (drop at line)

-- a step that ends in such digits
end_by : {A : Type 0} (f : List ℕ → A) (bytes : List ℕ) (r : Result (Unit {0}) Refusal)
    → (r >>= (λ done. Ok (f bytes))) ≡ ((r >>= (λ done. Ok bytes)) >>= (λ bytes. Ok (f bytes)))
end_by f bytes (Ok done) = refl
end_by f bytes (Err e) = refl

then_by : {A : Type 0} (f : List ℕ → A) (r : Result (List ℕ × List (List ℕ)) Refusal)
    → (r >>= (λ bytes. end_at bytes.1 >>= (λ done. Ok (f bytes.0)))) ≡ ((r >>= (λ bytes. end_at bytes.1 >>= (λ done. Ok bytes.0))) >>= (λ bytes. Ok (f bytes)))
then_by f (Ok bytes) = end_by f bytes.0 (end_at bytes.1)
then_by f (Err e) = refl

pub then_last : {A : Type 0} (f : List ℕ → A) (pieces : List (List ℕ))
    → (hex_at pieces >>= (λ bytes. end_at bytes.1 >>= (λ done. Ok (f bytes.0)))) ≡ (last_hex pieces >>= (λ bytes. Ok (f bytes)))
then_last f pieces = then_by f (hex_at pieces)

-- ---- the digits, by how many they are

pub empty_read : (digits : List ℕ) → length digits ≡ 0 → bytes_of_hex digits ≡ Err BadLine
empty_read [] h = refl
empty_read (d ∷ ds) h = absurd (omega (arith, h))

bad_odd : (text : List ℕ) (odd : Bool) → odd ≡ true → Fails (if odd then Err OddLength else decode_pairs 0 text)
bad_odd text true h = (OddLength, refl)
bad_odd text false h = cc

pub odd_read : (digits : List ℕ) → length digits % 2 ≡ 1 → bytes_of_hex digits ≡ Err BadLine
odd_read digits h =
    let odd : (length digits % 2 == 1) ≡ true = grind (arith, nat_tests, h) in
    bad_by (nat_lt 0 (length digits)) (decode_of digits) (bad_odd digits (length digits % 2 == 1) odd)

good_by : (some odd : Bool) (r : Result (List ℕ) FromHexError) (bytes : List ℕ) (good : Bool) → some ≡ true → odd ≡ false → good ≡ true
    → MatchResult r (λ all. (good ≡ true) × (bytes ≡ all)) (λ e. good ≡ false) → read_by some (if odd then Err OddLength else r) ≡ Ok bytes
good_by true false (Ok all) bytes good s o g h = ap (λ bs. Ok bs) (sym h.1)
good_by true false (Err e) bytes good s o g h = cc
good_by true true r bytes good s o g h = cc
good_by false odd r bytes good s o g h = cc

pub good_read : (digits bytes : List ℕ) (good : Bool) → 0 < length digits → length digits % 2 ≡ 0 → good ≡ true → Decodes digits bytes good → bytes_of_hex digits ≡ Ok bytes
good_read digits bytes good some even is h =
    let s : nat_lt 0 (length digits) ≡ true = grind (arith, nat_tests, some) in
    let o : (length digits % 2 == 1) ≡ false = grind (arith, nat_tests, even) in
    good_by (nat_lt 0 (length digits)) (length digits % 2 == 1) (decode_pairs 0 digits) bytes good s o is h

not_by : (some odd : Bool) (r : Result (List ℕ) FromHexError) (bytes : List ℕ) (good : Bool) → good ≡ false
    → MatchResult r (λ all. (good ≡ true) × (bytes ≡ all)) (λ e. good ≡ false) → read_by some (if odd then Err OddLength else r) ≡ Err BadLine
not_by true false (Ok all) bytes good g h = let is = h.0 in cc
not_by true false (Err e) bytes good g h = refl
not_by true true r bytes good g h = refl
not_by false odd r bytes good g h = refl

pub not_read : (digits bytes : List ℕ) (good : Bool) → good ≡ false → Decodes digits bytes good → bytes_of_hex digits ≡ Err BadLine
not_read digits bytes good is h = not_by (nat_lt 0 (length digits)) (length digits % 2 == 1) (decode_pairs 0 digits) bytes good is h
