-- A text is cut at its first separator.
use Rattle.std.proofs.Common.{◌≡◌, ℕ, List, [], ◌∷◌, ◌++◌, ◌+◌, ◌<◌, ◌≤◌, length, take, drop, refl, sym, ◌∙◌, ap, arith, Bool, true, false, nat_lt, ◌==◌, Some, None, cond, length-drop, take_all, ◌-◌}
use Rattle.std.proofs.Common.{position}
use Rattle.std.proofs.lemmas.Bool.{eqb-true}
use Rattle.std.proofs.lemmas.Bool.Decides.{nat_tests}
use Rattle.std.proofs.lemmas.List.Splits.{slice_split_first, slice_split_none}
use Rattle.std.proofs.lemmas.List.Sums.{fails_before_first, passes_at_first, split_at_first}
use Rattle.std.specs.List.{position_or_len}
use Rattle.hp_text.specs.Pieces.{pieces_by}

abbrev separates : ℕ → ℕ → Bool
separates separator b = b == separator

-- a text is cut at this place
pub record IsCutAt (separator : ℕ) (text : List ℕ) (at : ℕ) : Type 0 where
  pub within : at < length text
  pub pieces : pieces_by separator text ≡ take at text ∷ pieces_by separator (drop (at + 1) text)
  pub whole : text ≡ take at text ++ separator ∷ drop (at + 1) text

first_cut : (separator : ℕ) (text : List ℕ) → position_or_len (separates separator) text < length text → IsCutAt separator text (position_or_len (separates separator) text)
first_cut separator text within =
    let at = position_or_len (separates separator) text in
    let is = eqb-true _ _ (passes_at_first (separates separator) text 0 within) in
    record {
      within = within;
      pieces = slice_split_first (separates separator) text 0 within;
      whole = split_at_first (separates separator) text 0 within ∙ ap (λ b. take at text ++ b ∷ drop (at + 1) text) is;
    }

cut_go : (separator : ℕ) (text : List ℕ) (at : ℕ) (test : Bool) → nat_lt (position_or_len (separates separator) text) (length text) ≡ test
    → cond test (Some (position_or_len (separates separator) text)) None ≡ Some at → IsCutAt separator text at
cut_go separator text at true within e =
    let same : position_or_len (separates separator) text ≡ at = cc in
    rw (sym same) (first_cut separator text (grind (arith, nat_tests)))
cut_go separator text at false within e = cc

pub cut : (separator : ℕ) (text : List ℕ) (at : ℕ) → position (separates separator) text ≡ Some at → IsCutAt separator text at
cut separator text at e = cut_go separator text at (nat_lt (position_or_len (separates separator) text) (length text)) refl e

uncut_go : (separator : ℕ) (text : List ℕ) (test : Bool) → nat_lt (position_or_len (separates separator) text) (length text) ≡ test
    → cond test (Some (position_or_len (separates separator) text)) None ≡ None → pieces_by separator text ≡ text ∷ []
uncut_go separator text true within e = cc
uncut_go separator text false past e =
    let none : length text ≤ position_or_len (separates separator) text = grind (arith, nat_tests) in
    slice_split_none (separates separator) text (λ k d h. fails_before_first (separates separator) text k d (omega arith))

pub uncut : (separator : ℕ) (text : List ℕ) → position (separates separator) text ≡ None → pieces_by separator text ≡ text ∷ []
uncut separator text e = uncut_go separator text (nat_lt (position_or_len (separates separator) text) (length text)) refl e

-- a slice from a place on, as code cuts it
pub rest_is : (at : ℕ) (bytes : List ℕ) → take (length bytes - at) (drop at bytes) ≡ drop at bytes
rest_is at bytes = take_all (length bytes - at) (drop at bytes) (omega (arith, length-drop at bytes))
