-- A place in a word. The lower half is the number of its copy, and three bits stand above it.
use Rattle.std.specs.Prelude.{ℕ, zero, suc, ◌%◌, ◌^◌, Bool, true, false, None, Some}
use Rattle.std.specs.Int.{bit_at}
use Rattle.hp_model.specs.declared.place.Place.{Place}
use Rattle.hp_model.specs.declared.place.Place.TheVariants.{Gone, Live}

abbrev pub is_set : ℕ → Bool
is_set zero = false
is_set (suc n) = true

-- live with a copy, if the first bit is set, or without, if the second is; and whether its reservation was consumed
abbrev pub place_with : (copied bare consumed number : ℕ) → Place ℕ
place_with (suc n) bare consumed number = Live (is_set consumed) (Some number)
place_with zero (suc n) consumed number = Live (is_set consumed) None
place_with zero zero consumed number = Gone

abbrev pub place_in : ℕ → Place ℕ
place_in code = place_with (bit_at code 34) (bit_at code 33) (bit_at code 32) (code % 2 ^ 32)
