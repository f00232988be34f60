-- Copies that are put in and taken back. No public clause cites this module.
use Rattle.std.specs.Prelude.{ℕ, ◌==◌, ◌||◌, Bool, true, false, None, Some, map, if◌then◌else◌, slice_set}
use Rattle.hp_mapping.specs.Mapped.{at_place}
use Rattle.hp_model.specs.declared.place.Place.{Place}
use Rattle.hp_model.specs.declared.place.Place.TheVariants.{Gone, Live}
use Rattle.hp_model.specs.files.Mapping.{Mapping, copy_of, place_at, without_copy}
use Rattle.hp_lookup.specs.Numbered.{NumberedFile, mapping_at}

-- a place of an owner, or of another map, with its first copy
abbrev pub first_copy : (owner : Bool) → ℕ → Place ℕ → Place ℕ
first_copy owner number Gone = Gone
first_copy owner number (Live was copy) = Live (owner || was) (Some number)

abbrev pub has_number : ℕ → Place ℕ → Bool
has_number number p = elim (copy_of p) [ None ↦ false | Some k ↦ k == number ]

-- a map that has the number as its copy at the index loses it, and is marked
abbrev pub robbed_at : (number i : ℕ) → Mapping ℕ → Mapping ℕ
robbed_at number i m = if has_number number (place_at m i) then record (at_place without_copy i m) { unmapped = true } else m

-- all maps of the file but one
abbrev pub with_taken_back : (number keeper i : ℕ) → NumberedFile → NumberedFile
with_taken_back number keeper i f = record f { maps = slice_set (map (robbed_at number i) f.maps) keeper (mapping_at f keeper) }
