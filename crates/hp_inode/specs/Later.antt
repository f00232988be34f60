-- Blocks after the first. Those that were made stand one after another, and each has its number, from 1 on, at its place.
--     blocks_in places made      the block at each place, if it was made
--     contents empty blocks      what stands in each block, with nothing in one that was not made
--     AreLater places count      places of so many blocks, each at a place of its own
use Rattle.std.specs.Prelude.{ℕ, ◌≡◌, ◌≢◌, ◌<◌, ◌≤◌, List, ◌∷◌, map, length, nat_lt, Option, None, Some}
use Rattle.std.specs.List.{slice_index_or, count_by}
use Rattle.std.specs.Option.{unwrap_or}
use Rattle.hp_inode.specs.Blocks.{most_blocks}

-- the block of a number, of which 0 is none
abbrev pub nth_block : {X : Type 0} → List X → ℕ → Option X
nth_block made n = slice_index_or (None ∷ map Some made) n None

abbrev pub blocks_in : {X : Type 0} → List ℕ → List X → List (Option X)
blocks_in places made = map (nth_block made) places

abbrev pub contents : {X : Type 0} → X → List (Option X) → List X
contents empty blocks = map (λ block. unwrap_or block empty) blocks

-- how many places have a block
abbrev pub made_count : List ℕ → ℕ
made_count places = count_by (nat_lt 0) places

pub record AreLater (places : List ℕ) (count : ℕ) : Type 0 where
  pub few : length places < most_blocks
  pub made : count ≡ made_count places
  pub within : (j : ℕ) → slice_index_or places j 0 ≤ count
  pub apart : (j k : ℕ) → slice_index_or places j 0 ≡ slice_index_or places k 0 → slice_index_or places j 0 ≢ 0 → j ≡ k
