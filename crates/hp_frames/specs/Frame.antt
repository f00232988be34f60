-- What contracts see of a frame.
use Rattle.std.specs.Prelude.{◌≡◌, ℕ, ◌+◌, ◌-◌, List, ◌++◌, length, take, drop}
use Rattle.hp_model.specs.files.Page.{zeros}
use Rattle.linked_list_allocator.specs.Region.{Region}

-- the node that it is of, the block that it lies in, and its bytes
pub record Frame : Type 0 where
  pub node : ℕ
  pub memory : Region
  pub bytes : List ℕ

-- new in the place of old. Where new has another length it is cut, or filled up from old, so that the length stays
abbrev pub rewritten : List ℕ → List ℕ → List ℕ
rewritten old new = take (length old) (new ++ drop (length new) old)

-- the frame with these bytes from the offset on
abbrev pub overwritten : ℕ → List ℕ → Frame → Frame
overwritten offset bytes f = record f { bytes = take offset f.bytes ++ bytes ++ drop (offset + length bytes) f.bytes }

-- the bytes from a place on are zeros
abbrev pub AreZerosFrom : ℕ → List ℕ → Type 0
AreZerosFrom from bytes = drop from bytes ≡ zeros (length bytes - from)

-- the bytes up to a place are zeros
abbrev pub AreZerosUpTo : ℕ → List ℕ → Type 0
AreZerosUpTo to bytes = take to bytes ≡ zeros to
