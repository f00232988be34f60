-- What contracts see of a mapping.
use Rattle.std.specs.Prelude.{◌≡◌, ℕ, ◌-◌, ◌<◌, ◌≤◌, ◌&&◌, ◌++◌, ◌^◌, not, Bool, true, false, is_some, if◌then◌else◌, List, drop, length, replicate, slice_index_or, slice_set, take}
use Rattle.std.specs.Prelude.{None, Some}
use Rattle.std.specs.List.{count_by}
use Rattle.hp_model.specs.declared.place.Place.{Place}
use Rattle.hp_model.specs.declared.place.Place.TheVariants.{Gone, Live}
use Rattle.hp_model.specs.Lists.{part}
use Rattle.hp_model.specs.files.Mapping.{Mapping, place_at, with_place, copy_of, is_unconsumed, without_copy}

-- a place that was never touched
abbrev pub fresh : Place ℕ
fresh = Live false None

-- so many places: these come first, and those behind are fresh
abbrev pub with_fresh : ℕ → List (Place ℕ) → List (Place ℕ)
with_fresh count first = first ++ replicate (count - length first) fresh

-- some of the places, from one on
pub record IsPlaceRun (at : ℕ) (places run : List (Place ℕ)) : Type 0 where
  pub some : 0 < length run
  pub run_is : run ≡ take (length run) (drop at places)

-- the place of the file's index i is changed
abbrev pub at_place : (Place ℕ → Place ℕ) → ℕ → Mapping ℕ → Mapping ℕ
at_place f i m = with_place m i (f (place_at m i))

abbrev pub consumed : Place ℕ → Place ℕ
consumed Gone = Gone
consumed (Live was copy) = Live true copy

abbrev pub with_copy : ℕ → Place ℕ → Place ℕ
with_copy page Gone = Gone
with_copy page (Live was copy) = Live was (Some page)

abbrev pub has_copy : Place ℕ → Bool
has_copy p = is_some (copy_of p)

abbrev pub has_reserve : Mapping ℕ → ℕ → Bool
has_reserve m i = m.owner && is_unconsumed (place_at m i)

-- no private copy from a up to b
abbrev pub IsClear : ℕ → ℕ → Mapping ℕ → Type 0
IsClear a b m = (k : ℕ) → a ≤ k → k < b → copy_of (place_at m k) ≡ None

-- the reservations of all places, if the map owns them
abbrev pub owned_reserves : Bool → List (Place ℕ) → ℕ
owned_reserves owner places = if owner then count_by is_unconsumed places else 0

-- the reservations from a up to b
abbrev pub reserves_in : ℕ → ℕ → Mapping ℕ → ℕ
reserves_in a b m =
    if m.owner
    then count_by is_unconsumed (part (a - m.start) (b - m.start) m.places)
    else 0

-- the lowest private copy from a up to b was this page, and is gone
pub record TakesLowest (a b page : ℕ) (old new : Mapping ℕ) : Type 0 where
  pub at : ℕ
  pub from : a ≤ at
  pub below : at < b
  pub page_is : copy_of (place_at old at) ≡ Some page
  pub clear : IsClear a at old
  pub after : new ≡ at_place without_copy at old

-- the same of a list of places: one is changed; those from a up to b have no copy; they are gone
abbrev pub at_index : (Place ℕ → Place ℕ) → ℕ → List (Place ℕ) → List (Place ℕ)
at_index f at places = slice_set places at (f (slice_index_or places at Gone))

-- one gets a copy, and whether it had none is told
pub record SetsCopy (at page : ℕ) (old new : List (Place ℕ)) (bare : Bool) : Type 0 where
  pub set : new ≡ at_index (with_copy page) at old
  pub bare_is : bare ≡ not (has_copy (slice_index_or old at Gone))
  pub few : length old < 2 ^ 63

-- one leaves, and whether its reservation was there is told
pub record Leaves (at : ℕ) (old new : List (Place ℕ)) (freed : Bool) : Type 0 where
  pub left : new ≡ slice_set old at Gone
  pub freed_is : freed ≡ is_unconsumed (slice_index_or old at Gone)

abbrev pub HasNoCopy : ℕ → ℕ → List (Place ℕ) → Type 0
HasNoCopy a b places = (k : ℕ) → a ≤ k → k < b → copy_of (slice_index_or places k Gone) ≡ None

abbrev pub AreGone : ℕ → ℕ → List (Place ℕ) → Type 0
AreGone a b places = (k : ℕ) → a ≤ k → k < b → slice_index_or places k Gone ≡ Gone
