-- The lines of an input.
use Rattle.std.specs.Prelude.{ℕ, List, [], ◌∷◌, ◌++◌, length, Result, Ok, Err, ◌==◌, nat_le, if◌then◌else◌}
use Rattle.std.specs.List.{slice_split}
use Rattle.hp_model.specs.declared.refusal.Refusal.{Refusal}
use Rattle.hp_model.specs.declared.refusal.Refusal.TheVariants.{BadLine, LineTooLong}
use Rattle.hp_model.specs.Profile.{most_line_bytes}

-- a line is its bytes, or what it is refused
abbrev pub Line : Type 0
Line = Result (List ℕ) Refusal

-- a line that a newline ended
abbrev pub ended : List ℕ → Line
ended bytes = if nat_le (length bytes) most_line_bytes then Ok bytes else Err LineTooLong

-- what the input ends in without a newline is no good line, and nothing where there is nothing
abbrev pub unended : List ℕ → List Line
unended [] = []
unended (b ∷ bytes) = (if nat_le (length (b ∷ bytes)) most_line_bytes then Err BadLine else Err LineTooLong) ∷ []

-- the pieces before, between and after the newlines
abbrev pub pieces : List ℕ → List (List ℕ)
pieces input = slice_split (λ b. b == 10) input

-- the lines that a newline ended: all pieces but the last
abbrev pub ended_pieces : List (List ℕ) → List Line
ended_pieces [] = []
ended_pieces (last ∷ []) = []
ended_pieces (piece ∷ next ∷ more) = ended piece ∷ ended_pieces (next ∷ more)

abbrev pub last_piece : List (List ℕ) → List ℕ
last_piece [] = []
last_piece (last ∷ []) = last
last_piece (piece ∷ next ∷ more) = last_piece (next ∷ more)

abbrev pub ended_lines : List ℕ → List Line
ended_lines input = ended_pieces (pieces input)

-- the bytes after the last newline
abbrev pub after_lines : List ℕ → List ℕ
after_lines input = last_piece (pieces input)

abbrev pub lines : List ℕ → List Line
lines input = ended_lines input ++ unended (after_lines input)
