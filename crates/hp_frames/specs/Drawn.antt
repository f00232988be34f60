-- What contracts see of a frame that was taken and may not be written yet.
use Rattle.std.specs.Prelude.{ℕ}
use Rattle.linked_list_allocator.specs.Region.{Region}

-- the node that it is of, the block that it lies in, and how many bytes it has
pub record Drawn : Type 0 where
  pub node : ℕ
  pub memory : Region
  pub page_bytes : ℕ
