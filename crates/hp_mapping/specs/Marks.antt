-- Marks of places.
use Rattle.std.specs.Prelude.{◌≡◌, ◌≢◌, ℕ, ◌*◌, ◌/◌, ◌≤◌, ◌^◌, Bool, true, false, List, length, slice_index_or}
use Rattle.std.specs.List.{count_by}
use Rattle.hp_marks.specs.Marks.{marked}
use Rattle.hp_model.specs.declared.place.Place.{Place}
use Rattle.hp_model.specs.declared.place.Place.TheVariants.{Gone}
use Rattle.hp_model.specs.files.Mapping.{is_live}
use Rattle.hp_mapping.specs.Mapped.{has_copy}

-- no mark from a on
abbrev pub IsUnmarkedFrom : ℕ → List ℕ → Type 0
IsUnmarkedFrom a words = (k : ℕ) → a ≤ k → marked words k ≡ false

-- the mark of one number is now this
pub record ChangesMark (at : ℕ) (mark : Bool) (old new : List ℕ) : Type 0 where
  pub here : marked new at ≡ mark
  pub others : (k : ℕ) → k ≢ at → marked new k ≡ marked old k
  pub len : length new ≡ length old

-- `above` marks the words that have a mark
pub record IsSummed (words above : List ℕ) : Type 0 where
  pub few : length words ≤ 2 ^ 58
  pub few_above : length above ≤ 2 ^ 58
  pub none : (k : ℕ) → marked above (k / 64) ≡ false → marked words k ≡ false
  pub some : (w : ℕ) → marked above w ≡ true → ((k : ℕ) → k / 64 ≡ w → marked words k ≡ false) → ⊥
  pub room : length words ≤ 64 * length above

-- the marks say which places pass the test
pub record AreMarked (test : Place ℕ → Bool) (places : List (Place ℕ)) (marks : List ℕ) : Type 0 where
  pub are : (k : ℕ) → marked marks k ≡ test (slice_index_or places k Gone)
  pub room : length places ≤ 64 * length marks

-- which places are live, and which have a copy; and so many have one
pub record AreCopiesCounted (count : ℕ) (places : List (Place ℕ)) (live copies : List ℕ) : Type 0 where
  pub live_are : AreMarked is_live places live
  pub copies_are : AreMarked has_copy places copies
  pub count_is : count ≡ count_by has_copy places
