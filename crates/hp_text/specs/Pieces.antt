-- What stands before, between and after the separators of a text.
use Rattle.std.specs.Prelude.{ℕ, List, [], ◌≡◌, ◌∷◌, ◌++◌, ◌==◌, Option, Some, None}
use Rattle.std.specs.List.{slice_split}
use denote.Ref.{Bor}

abbrev pub pieces_by : ℕ → List ℕ → List (List ℕ)
pieces_by separator text = slice_split (λ b. b == separator) text

-- the pieces of what stands after a separator, where there is one
abbrev pub pieces_after : ℕ → Option (Bor (List ℕ)) → List (List ℕ)
pieces_after separator None = []
pieces_after separator (Some rest) = pieces_by separator rest.now

-- the separator and what stands after it, where there is one
abbrev pub from_separator : ℕ → Option (Bor (List ℕ)) → List ℕ
from_separator separator None = []
from_separator separator (Some rest) = separator ∷ rest.now

-- what stands before the first separator of a text, and what stands after it, where there is one
pub record IsFirstPiece (separator : ℕ) (text first : List ℕ) (rest : Option (Bor (List ℕ))) : Type 0 where
  pub pieces : pieces_by separator text ≡ first ∷ pieces_after separator rest
  pub whole : text ≡ first ++ from_separator separator rest
