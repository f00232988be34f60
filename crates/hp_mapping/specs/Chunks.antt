-- Places in chunks of 64, of which some were never written.
use Rattle.std.specs.Prelude.{◌≡◌, ℕ, ◌+◌, ◌*◌, ◌/◌, ◌%◌, ◌<◌, ◌≤◌, nat_lt, List, length, map, slice_index, slice_index_or, vec_capacity}
use Rattle.std.specs.Global.{Vec}
use Rattle.std.specs.List.{count_by, range_with_len}
use Rattle.hp_model.specs.declared.place.Place.{Place}
use Rattle.hp_model.specs.declared.place.Place.TheVariants.{Gone}
use Rattle.hp_mapping.specs.Mapped.{fresh}

-- where the place k stands: its home is a chunk
abbrev pub slot_of : List ℕ → ℕ → ℕ
slot_of homes k = 64 * slice_index homes (k / 64) + k % 64

-- so many places
abbrev pub all_places : ℕ → List ℕ → List (Place ℕ) → List (Place ℕ)
all_places count homes places = map (λ k. slice_index_or places (slot_of homes k) Gone) (range_with_len 0 count)

-- the chunk 0 is fresh, and no other is the home of two
pub record IsChunked (homes : List ℕ) (places : List (Place ℕ)) : Type 0 where
  pub blank : (k : ℕ) → k < 64 → slice_index_or places k Gone ≡ fresh
  pub within : (w : ℕ) → 64 * slice_index homes w + 64 ≤ length places
  pub apart : (v w : ℕ) → slice_index homes v ≡ slice_index homes w → 0 < slice_index homes v → v ≡ w
  pub used : length places ≡ 64 + 64 * count_by (λ home. nat_lt 0 home) homes

-- there is room for a chunk of each
abbrev pub HasChunkRoom : List ℕ → Vec (Place ℕ) → Type 0
HasChunkRoom homes places = 64 + 64 * length homes ≤ vec_capacity places

-- each place is as it was
abbrev pub IsSame : List ℕ → List (Place ℕ) → List ℕ → List (Place ℕ) → Type 0
IsSame homes places new now = (k : ℕ) → slice_index_or now (slot_of new k) Gone ≡ slice_index_or places (slot_of homes k) Gone
