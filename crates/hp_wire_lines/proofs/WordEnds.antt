-- Pieces whose first bytes were looked at.
use Rattle.std.proofs.Common.{◌≡◌, ℕ, List, [], ◌∷◌, ◌++◌, ◌+◌, ◌-◌, ◌<◌, ◌≤◌, length, refl, sym, ◌∙◌, ap, arith, ◌⊎◌, inl, inr, Bool, true, false, ◌&&◌, ◌==◌, nat_lt, if◌then◌else◌, Ok, Err, take}
use Rattle.std.proofs.Common.{drop, get_or, append-nil, append_assoc, length-drop, drop_of_length-le}
use Rattle.std.proofs.lemmas.Bool.Decides.{nat_tests}
use Rattle.std.proofs.lemmas.List.{drop_more, get_or-drop, take-append-drop, take_more}
use Rattle.std.proofs.lemmas.List.Folds.{list_all-append}
use Rattle.std.proofs.lemmas.Slice.Eq.{bytes_eq-Decides}
use Rattle.std.proofs.lemmas.List.Splits.{slice_split-cons_no, slice_split-cons_yes}
use Rattle.std.specs.List.{list_all, onto_first}
use Rattle.std.specs.Str.{bytes_eq}
use Rattle.hp_model.proofs.Words.{Read, is_word, is_word_byte, piece_at, pieces_of_line, word_at, word_of, ◌>>=◌}
use Rattle.hp_model.specs.declared.refusal.Refusal.TheVariants.{BadLine}
use Rattle.hp_wire_lines.proofs.Fronts.{past, within}
use Rattle.hp_wire_lines.proofs.Pieces.{first_piece}
use Rattle.hp_wire_lines.specs.Words.{between, piece_with, pieces_from}

-- one byte more
pub between_more : (line : List ℕ) (from at : ℕ) → from ≤ at → at < length line → between from (at + 1) line ≡ between from at line ++ get_or line at 0 ∷ []
between_more line from at h short =
    let n : ℕ = at - from in
    let next : at + 1 - from ≡ n + 1 = omega arith in
    let here : from + n ≡ at = omega arith in
    ap (λ k. take k (drop from line)) next ∙ take_more (drop from line) n 0 (omega (arith, length-drop from line))
    ∙ ap (λ b. take n (drop from line) ++ b ∷ []) (get_or-drop from line n 0 ∙ ap (λ i. get_or line i 0) here)

with_more : (front : List ℕ) (c : ℕ) (ps : List (List ℕ)) → piece_with front (onto_first c ps) ≡ piece_with (front ++ c ∷ []) ps
with_more front c [] = refl
with_more front c (p ∷ more) = ap (λ x. x ∷ more) (sym (append_assoc front (c ∷ []) p))

-- a byte that is no space stands before the first of the pieces after it
onto : (line : List ℕ) (at : ℕ) → at < length line → (get_or line at 0 == 32) ≡ false → pieces_from at line ≡ onto_first (get_or line at 0) (pieces_from (at + 1) line)
onto line at short other =
    within at line (omega arith) ∙ ap pieces_of_line (drop_more line at 0 short)
    ∙ slice_split-cons_no (λ b. b == 32) (get_or line at 0) (drop (at + 1) line) other
    ∙ ap (onto_first (get_or line at 0)) (sym (within (at + 1) line (omega arith)))

pub front_none : (line : List ℕ) (from : ℕ) → from ≤ length line → pieces_from from line ≡ piece_with (between from from line) (pieces_from from line)
front_none line from h =
    let f = first_piece (λ b. b == 32) (drop from line) in
    let is : pieces_from from line ≡ f.0 ∷ f.1 = within from line h ∙ f.2 in
    let none : from - from ≡ 0 = omega arith in
    is ∙ sym (ap (piece_with (between from from line)) is ∙ ap (λ k. (take k (drop from line) ++ f.0) ∷ f.1) none)

pub front_more : (line : List ℕ) (from at : ℕ) → from ≤ at → at < length line → (get_or line at 0 == 32) ≡ false
    → pieces_from from line ≡ piece_with (between from at line) (pieces_from at line) → pieces_from from line ≡ piece_with (between from (at + 1) line) (pieces_from (at + 1) line)
front_more line from at h short other so =
    so ∙ ap (piece_with (between from at line)) (onto line at short other) ∙ with_more (between from at line) (get_or line at 0) (pieces_from (at + 1) line)
    ∙ ap (λ f. piece_with f (pieces_from (at + 1) line)) (sym (between_more line from at h short))

pub ends_at_end : (line : List ℕ) (at : ℕ) → at ≡ length line → pieces_from at line ≡ [] ∷ pieces_from (at + 1) line
ends_at_end line at is =
    within at line (omega arith) ∙ ap pieces_of_line (drop_of_length-le line (omega arith)) ∙ ap (λ more. [] ∷ more) (sym (past (at + 1) line (omega arith)))

pub ends_at_space : (line : List ℕ) (at : ℕ) → at < length line → get_or line at 0 ≡ 32 → pieces_from at line ≡ [] ∷ pieces_from (at + 1) line
ends_at_space line at short space =
    let yes : (get_or line at 0 == 32) ≡ true = grind (arith, nat_tests, space) in
    within at line (omega arith) ∙ ap pieces_of_line (drop_more line at 0 short) ∙ slice_split-cons_yes (λ b. b == 32) (get_or line at 0) (drop (at + 1) line) yes
    ∙ ap (λ more. [] ∷ more) (sym (within (at + 1) line (omega arith)))

-- a piece that ends
pub ended_piece : (front : List ℕ) (pieces left more : List (List ℕ)) → pieces ≡ piece_with front left → left ≡ [] ∷ more → piece_at pieces ≡ Ok (front, more)
unfolding piece_at
ended_piece front pieces left more so end =
    ap piece_at (so ∙ ap (piece_with front) end) ∙ ap (λ f. Ok (f, more)) (append-nil front)

-- ---- words

not_space : (c : ℕ) → is_word_byte c ≡ true → (c == 32) ≡ false
not_space c printed = grind (arith, nat_tests, printed)

printed_by : (front : List ℕ) (c : ℕ) → list_all is_word_byte front ≡ true → is_word_byte c ≡ true → list_all is_word_byte (front ++ c ∷ []) ≡ true
printed_by front c h printed =
    list_all-append is_word_byte front (c ∷ []) ∙ ap (λ b. b && list_all is_word_byte (c ∷ [])) h ∙ ap (λ b. b && true) printed

-- one printed character more
pub word_more : (line : List ℕ) (from at : ℕ) → from ≤ at → at < length line → is_word_byte (get_or line at 0) ≡ true
    → list_all is_word_byte (between from at line) ≡ true → pieces_from from line ≡ piece_with (between from at line) (pieces_from at line)
    → (list_all is_word_byte (between from (at + 1) line) ≡ true) × (pieces_from from line ≡ piece_with (between from (at + 1) line) (pieces_from (at + 1) line))
word_more line from at h short printed all so = (
  ap (list_all is_word_byte) (between_more line from at h short) ∙ printed_by (between from at line) (get_or line at 0) all printed,
  front_more line from at h short (not_space (get_or line at 0) printed) so,
)

pub word_start : (line : List ℕ) (from : ℕ) → from < length line → is_word_byte (get_or line from 0) ≡ true
    → (list_all is_word_byte (between from (from + 1) line) ≡ true) × (pieces_from from line ≡ piece_with (between from (from + 1) line) (pieces_from (from + 1) line))
word_start line from short printed =
    let none : from - from ≡ 0 = omega arith in
    word_more line from from (omega arith) short printed (ap (λ k. list_all is_word_byte (take k (drop from line))) none) (front_none line from (omega arith))

pub word_ends : (front : List ℕ) (pieces left more : List (List ℕ)) → pieces ≡ piece_with front left → left ≡ [] ∷ more → 0 < length front → list_all is_word_byte front ≡ true
    → word_at pieces ≡ Ok (front, more)
unfolding word_at
word_ends front pieces left more so end some printed =
    let long : nat_lt 0 (length front) ≡ true = grind (arith, nat_tests, some) in
    ap (λ x. x >>= (λ piece. word_of piece.0 >>= (λ word. Ok (word, piece.1)))) (ended_piece front pieces left more so end)
    ∙ ap (λ t. (if t && list_all is_word_byte front then Ok front else Err BadLine) >>= (λ word. Ok (word, more))) long
    ∙ ap (λ t. (if t then Ok front else Err BadLine) >>= (λ word. Ok (word, more))) printed

and_both : (a b : Bool) → (a && b) ≡ true → (a ≡ true) × (b ≡ true)
and_both true b h = (refl, h)
and_both false b h = cc

before_space : (word rest : List ℕ) → list_all is_word_byte word ≡ true → pieces_of_line (word ++ 32 ∷ rest) ≡ word ∷ pieces_of_line rest
before_space [] rest h = slice_split-cons_yes (λ b. b == 32) 32 rest refl
before_space (b ∷ word) rest h =
    let printed = and_both (is_word_byte b) (list_all is_word_byte word) h in
    slice_split-cons_no (λ b. b == 32) b (word ++ 32 ∷ rest) (not_space b printed.0) ∙ ap (onto_first b) (before_space word rest printed.1)

-- a line that begins with this word and a space
pub known_word : (line word : List ℕ) → length word < length line → get_or line (length word) 0 ≡ 32 → list_all is_word_byte word ≡ true → bytes_eq (take (length word) line) word ≡ true
    → piece_at (pieces_of_line line) ≡ Ok (word, pieces_from (length word + 1) line)
unfolding piece_at
known_word line word short space printed same =
    let n : ℕ = length word in
    let front : take n line ≡ word = (bytes_eq-Decides (take n line) word).0 same in
    let cut : line ≡ word ++ 32 ∷ drop (n + 1) line =
    sym (take-append-drop n line) ∙ ap (λ f. f ++ drop n line) front ∙ ap (λ r. word ++ r) (drop_more line n 0 short ∙ ap (λ b. b ∷ drop (n + 1) line) space) in
    ap (λ xs. piece_at (pieces_of_line xs)) cut ∙ ap piece_at (before_space word (drop (n + 1) line) printed)
    ∙ ap (λ more. Ok (word, more)) (sym (within (n + 1) line (omega arith)))

-- the first piece ends at a space, or is the whole line
abbrev HasFirst : List ℕ → Type 0
HasFirst line = (front : List ℕ) × (back : List ℕ) × (line ≡ front ++ 32 ∷ back) × (pieces_of_line line ≡ front ∷ pieces_of_line back)

first_cons : (c : ℕ) (line : List ℕ) → (c == 32) ≡ false → (pieces_of_line line ≡ line ∷ []) ⊎ HasFirst line → (pieces_of_line (c ∷ line) ≡ (c ∷ line) ∷ []) ⊎ HasFirst (c ∷ line)
first_cons c line other (inl whole) = inl (slice_split-cons_no (λ b. b == 32) c line other ∙ ap (onto_first c) whole)
first_cons c line other (inr (front, back, is, cut)) = inr (c ∷ front, back, ap (λ xs. c ∷ xs) is, slice_split-cons_no (λ b. b == 32) c line other ∙ ap (onto_first c) cut)

first_by : (c : ℕ) (line : List ℕ) (space : Bool) → (c == 32) ≡ space → (pieces_of_line line ≡ line ∷ []) ⊎ HasFirst line → (pieces_of_line (c ∷ line) ≡ (c ∷ line) ∷ []) ⊎ HasFirst (c ∷ line)
first_by c line true space h =
    let is : c ≡ 32 = grind (arith, nat_tests) in
    inr ([], line, ap (λ b. b ∷ line) is, slice_split-cons_yes (λ b. b == 32) c line space)
first_by c line false other h = first_cons c line other h

first_or_whole : (line : List ℕ) → (pieces_of_line line ≡ line ∷ []) ⊎ HasFirst line
first_or_whole [] = inl refl
first_or_whole (c ∷ line) = first_by c line (c == 32) refl (first_or_whole line)

abbrev taken : Read (List ℕ) → List ℕ
taken (Ok x) = x.0
taken (Err e) = []

abbrev left_by : Read (List ℕ) → List (List ℕ)
left_by (Ok x) = x.1
left_by (Err e) = []

-- a line that begins so, with more behind it
begins_so : (line word : List ℕ) (words : List (List ℕ)) → piece_at (pieces_of_line line) ≡ Ok (word, words) → (words ≡ []) ⊎ ((back : List ℕ) × (line ≡ word ++ 32 ∷ back))
unfolding piece_at
begins_so line word words h = by_first (first_or_whole line)
  where
    by_first : (pieces_of_line line ≡ line ∷ []) ⊎ HasFirst line → (words ≡ []) ⊎ ((back : List ℕ) × (line ≡ word ++ 32 ∷ back))
    by_first (inl whole) = inl (sym (ap left_by (ap piece_at (sym whole) ∙ h)))
    by_first (inr (front, back, is, cut)) = inr (back, is ∙ ap (λ f. f ++ 32 ∷ back) (ap taken (ap piece_at (sym cut) ∙ h)))

pub not_so : (line word : List ℕ) (words : List (List ℕ)) → ((back : List ℕ) → line ≡ word ++ 32 ∷ back → ⊥) → piece_at (pieces_of_line line) ≡ Ok (word, words) → words ≡ []
not_so line word words bad h = by_back (begins_so line word words h)
  where
    by_back : (words ≡ []) ⊎ ((back : List ℕ) × (line ≡ word ++ 32 ∷ back)) → words ≡ []
    by_back (inl none) = none
    by_back (inr (back, is)) = absurd (bad back is)

no_word : (piece : List ℕ) (pieces more : List (List ℕ)) → pieces ≡ piece ∷ more → is_word piece ≡ false → word_at pieces ≡ Err BadLine
unfolding word_at piece_at
no_word piece pieces more is bad =
    ap word_at is ∙ ap (λ t. (if t then Ok piece else Err BadLine) >>= (λ word. Ok (word, more))) bad

and_no : (a b : Bool) → b ≡ false → (a && b) ≡ false
and_no true b h = h
and_no false b h = refl

-- a byte that is no space and not printed
pub word_bad : (line : List ℕ) (from at : ℕ) → at < length line → (get_or line at 0 == 32) ≡ false → is_word_byte (get_or line at 0) ≡ false
    → pieces_from from line ≡ piece_with (between from at line) (pieces_from at line) → word_at (pieces_from from line) ≡ Err BadLine
word_bad line from at short other bad so =
    let c = get_or line at 0 in
    let front = between from at line in
    let f = first_piece (λ b. b == 32) (drop (at + 1) line) in
    let left : pieces_from at line ≡ (c ∷ f.0) ∷ f.1 = onto line at short other ∙ ap (onto_first c) (within (at + 1) line (omega arith) ∙ f.2) in
    let all : list_all is_word_byte (front ++ c ∷ f.0) ≡ false =
    list_all-append is_word_byte front (c ∷ f.0) ∙ and_no (list_all is_word_byte front) _ (ap (λ b. b && list_all is_word_byte f.0) bad) in
    no_word (front ++ c ∷ f.0) (pieces_from from line) f.1 (so ∙ ap (piece_with front) left) (and_no (nat_lt 0 (length (front ++ c ∷ f.0))) _ all)

no_piece_word : word_at [] ≡ Err BadLine
unfolding word_at piece_at
no_piece_word = refl

none_by : (line : List ℕ) (from : ℕ) (past_end : Bool) → nat_lt (length line) from ≡ past_end → length line ≤ from → word_at (pieces_from from line) ≡ Err BadLine
none_by line from true t h = let beyond : length line < from = grind (arith, nat_tests) in ap word_at (past from line beyond) ∙ no_piece_word
none_by line from false t h = let is : from ≡ length line = grind (arith, nat_tests) in no_word [] (pieces_from from line) (pieces_from (from + 1) line) (ends_at_end line from is) refl

-- nothing is left
pub word_none : (line : List ℕ) (from : ℕ) → length line ≤ from → word_at (pieces_from from line) ≡ Err BadLine
word_none line from h = none_by line from (nat_lt (length line) from) refl h

start_by : (line : List ℕ) (from : ℕ) (space : Bool) → (get_or line from 0 == 32) ≡ space → from < length line → is_word_byte (get_or line from 0) ≡ false
    → word_at (pieces_from from line) ≡ Err BadLine
start_by line from true t short bad =
    let space : get_or line from 0 ≡ 32 = grind (arith, nat_tests) in
    no_word [] (pieces_from from line) (pieces_from (from + 1) line) (ends_at_space line from short space) refl
start_by line from false t short bad = word_bad line from from short t bad (front_none line from (omega arith))

pub word_not_here : (line : List ℕ) (from : ℕ) → from < length line → is_word_byte (get_or line from 0) ≡ false → word_at (pieces_from from line) ≡ Err BadLine
word_not_here line from short bad = start_by line from (get_or line from 0 == 32) refl short bad
