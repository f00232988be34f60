-- Lists of a child's maps, one for each file that has any.
use Rattle.std.specs.Prelude.{◌≡◌, ◌⊎◌, ℕ, ◌+◌, ◌-◌, ◌<◌, ◌≤◌, ◌++◌, List, [], ◌∷◌, length, replicate}
use Rattle.hp_model.specs.files.Mapping.{Mapping}
use Rattle.hp_lookup.specs.Forking.{HasRoom, children_of}
use Rattle.hp_lookup.specs.Numbered.{NumberedFile, numbered_at}
use Rattle.hp_file.specs.declared.fork_lists.FileMaps.{FileMaps}

-- a list more, behind so many empty ones
abbrev pub with_next : List (List (Mapping ℕ)) → (gap : ℕ) → List (Mapping ℕ) → List (List (Mapping ℕ))
with_next vs gap v = vs ++ (replicate gap [] ++ v ∷ [])

-- a list for each file up to the last one's: an empty one where none was made
abbrev pub spread_on : List (List (Mapping ℕ)) → List FileMaps → List (List (Mapping ℕ))
spread_on vs [] = vs
spread_on vs (x ∷ xs) = spread_on (with_next vs (x.file - length vs) x.list.items) xs

abbrev pub spread : List FileMaps → List (List (Mapping ℕ))
spread xs = spread_on [] xs

-- they are of files from a place on that rise, and have room for these files' maps
abbrev pub AreFit : (from : ℕ) → List NumberedFile → List FileMaps → Type 0
AreFit from fs [] = Unit {0}
AreFit from fs (x ∷ xs) = (from ≤ x.file) × (x.file < length fs) × HasRoom (numbered_at fs x.file) x.list × AreFit (x.file + 1) fs xs

-- the first list is the second with some left out
abbrev pub IsAmong : {X : Type 0} → List X → List X → Type 0
IsAmong [] ys = Unit {0}
IsAmong (x ∷ xs) [] = ⊥
IsAmong (x ∷ xs) (y ∷ ys) = ((x ≡ y) × IsAmong xs ys) ⊎ IsAmong (x ∷ xs) ys

-- each list has some of the child's maps of its file
abbrev pub ArePart : (parent child : ℕ) → List NumberedFile → List (List (Mapping ℕ)) → Type 0
ArePart parent child [] [] = Unit {0}
ArePart parent child [] (v ∷ vs) = ⊥
ArePart parent child (f ∷ fs) [] = Unit {0}
ArePart parent child (f ∷ fs) (v ∷ vs) = IsAmong v (children_of parent child f.maps) × ArePart parent child fs vs

-- such lists of files before a place
pub record AreSome (parent child from : ℕ) (fs : List NumberedFile) (xs : List FileMaps) : Type 0 where
  pub fit : AreFit 0 fs xs
  pub before : length (spread xs) ≤ from
  pub part : ArePart parent child fs (spread xs)
