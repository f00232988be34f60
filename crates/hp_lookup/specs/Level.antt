-- At which indices copies stand. No public clause cites this module.
use Rattle.std.specs.Prelude.{◌≡◌, ℕ, Option, Some, List, slice_index_or}
use Rattle.hp_model.specs.files.Mapping.{Mapping, copy_of, place_at}
use Rattle.hp_lookup.specs.Numbered.{no_mapping}

-- the copy of a map of a file at an index
abbrev pub copy_in : List (Mapping ℕ) → (map i : ℕ) → Option ℕ
copy_in ms map i = copy_of (place_at (slice_index_or ms map no_mapping) i)

-- maps that hold one number as a copy hold it at one index
abbrev pub AreLevel : List (Mapping ℕ) → Type 0
AreLevel ms = (number a b i j : ℕ) → copy_in ms a i ≡ Some number → copy_in ms b j ≡ Some number → i ≡ j
