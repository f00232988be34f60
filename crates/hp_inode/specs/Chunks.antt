-- The slots of chunks, each by its home.
--     chunk_rows homes slots      the rows of the chunks
--     AreChunks homes slots slotted capacity      so many chunks have slots, for all of which there is room
use Rattle.std.specs.Prelude.{ℕ, ◌≡◌, ◌+◌, ◌*◌, ◌<◌, ◌≤◌, ◌^◌, List, [], length, map, min, nat_lt, vec_capacity, Option, None, if◌then◌else◌}
use Rattle.std.specs.Global.{Vec}
use Rattle.std.specs.List.{slice_index_or, range_with_len, count_by}
use Rattle.hp_inode.specs.Rows.{Rows}

-- the homes of a chunk with no slots, and of one whose slots had no page yet
abbrev pub bare : ℕ
bare = 4294967295

abbrev pub promised : ℕ
promised = 4294967294

abbrev pub chunk_slots : List (Option ℕ) → ℕ → List (Option ℕ)
chunk_slots slots home = map (λ k. slice_index_or slots (64 * home + k) None) (range_with_len 0 64)

abbrev pub chunk_row : List (Option ℕ) → ℕ → List (Option ℕ)
chunk_row slots home = if nat_lt home bare then chunk_slots slots home else []

abbrev pub chunk_rows : List ℕ → List (Option ℕ) → Rows
chunk_rows homes slots = map (chunk_row slots) homes

-- how many slots a chunk has
abbrev pub slot_count : Rows → ℕ → ℕ
slot_count rows j = length (slice_index_or rows j [])

-- how many chunks have slots, and how many of these had a page
abbrev pub slotted_count : List ℕ → ℕ
slotted_count homes = count_by (λ home. nat_lt home bare) homes

abbrev pub used_count : List ℕ → ℕ
used_count homes = count_by (λ home. nat_lt home promised) homes

-- each home that was given is that of one chunk, and lies in the slots
pub record AreHomes (homes : List ℕ) (slots : List (Option ℕ)) : Type 0 where
  pub few : length homes ≤ 2 ^ 26
  pub within : (j : ℕ) → slice_index_or homes j bare < promised → 64 * slice_index_or homes j bare + 64 ≤ length slots
  pub apart : (j k : ℕ) → slice_index_or homes j bare ≡ slice_index_or homes k bare → slice_index_or homes j bare < promised → j ≡ k
  pub used : length slots ≡ 64 * used_count homes

pub record AreChunks (homes : List ℕ) (slots : List (Option ℕ)) (slotted capacity : ℕ) : Type 0 where
  pub given : AreHomes homes slots
  pub counted : slotted ≡ slotted_count homes
  pub room : 64 * slotted ≤ capacity

-- a chunk that has slots has this home, which it may just have got: no slot has another page, and no room is lost
pub record IsHoused (at own_home : ℕ) (homes new_homes : List ℕ) (slots new_slots : Vec (Option ℕ)) : Type 0 where
  pub given : AreHomes new_homes new_slots.items
  pub rows : chunk_rows new_homes new_slots.items ≡ chunk_rows homes slots.items
  pub count : slotted_count new_homes ≡ slotted_count homes
  pub capacity : vec_capacity slots ≤ vec_capacity new_slots
  pub home : own_home ≡ slice_index_or new_homes at bare
  pub own : own_home < promised

-- slots were promised to the chunks from one number up to another that had none
pub record ArePromised (from end : ℕ) (old new : List ℕ) : Type 0 where
  pub len : length new ≡ length old
  pub here : (j : ℕ) → from ≤ j → j < end → slice_index_or new j bare ≡ min promised (slice_index_or old j bare)
  pub others : (j : ℕ) → (from ≤ j → j < end → ⊥) → slice_index_or new j bare ≡ slice_index_or old j bare
