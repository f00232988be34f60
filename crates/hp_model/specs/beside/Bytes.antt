-- Bytes that lie in one of two places.
use Rattle.std.specs.Prelude.{ℕ, List, [], ◌∷◌, take}

-- the many, or else the first of the few
abbrev pub kept : (count : ℕ) → (few many : List ℕ) → List ℕ
kept count few [] = take count few
kept count few (b ∷ many) = b ∷ many
