-- What contracts see of a node's frames that nobody holds, and what is kept of them.
use Rattle.std.specs.Prelude.{◌≡◌, ℕ, ◌+◌, ◌*◌, ◌^◌, ◌<◌, ◌≤◌, List, [], ◌∷◌, length, All}
use Rattle.hp_model.specs.Profile.{most_frames}
use Rattle.linked_list_allocator.specs.Region.{Region, block_size}
use Rattle.linked_list_allocator.specs.Holes.{Span}
use Rattle.hp_frames.specs.Frame.{Frame}

-- the node, the block that its frames lie in, the bytes of each, how many frames it has, and how many are here
pub record Stock : Type 0 where
  pub node : ℕ
  pub memory : Region
  pub page_bytes : ℕ
  pub all : ℕ
  pub here : ℕ

abbrev pub with_here : ℕ → Stock → Stock
with_here count s = record s { here = count }

-- a frame of this node and this block, with so many bytes
abbrev pub IsOf : ℕ → Region → ℕ → Frame → Type 0
IsOf node memory page_bytes f = (f.node ≡ node) × (f.memory ≡ memory) × (length f.bytes ≡ page_bytes)

-- what is kept: a place for each frame that may come back, and room in the block for those that were never cut
pub record IsStocked (fresh all room page_bytes : ℕ) (holes : List Span) (memory : Region) (node : ℕ) (returned : List Frame) : Type 0 where
  pub few : all ≤ most_frames
  pub within : fresh + length returned ≤ all
  pub places : all ≤ room
  pub small : 0 < fresh → page_bytes < 2 ^ 63
  pub uncut : 0 < fresh → (at : ℕ) × (holes ≡ (at, fresh * block_size page_bytes) ∷ [])
  pub own : All (IsOf node memory page_bytes) returned
