-- Bytes that are added to a list in memory that was asked for before.
use Rattle.std.specs.Prelude.{◌≡◌, ◌≤◌, ◌+◌, ℕ, List, ◌++◌, Vec, vec_len, vec_capacity, length}
use Rattle.std.specs.declared.alloc.Global.{Global}

-- n bytes can be added without asking for memory
abbrev pub HasRoom : Vec ℕ Global → ℕ → Type 0
HasRoom out n = vec_len out + n ≤ vec_capacity out

-- the bytes were added, and the room that is left is what was left less these
pub record Adds (old new : Vec ℕ Global) (added : List ℕ) : Type 0 where
  pub bytes : new.items ≡ old.items ++ added
  pub len : vec_len new ≡ vec_len old + length added
  pub capacity : vec_capacity old ≤ vec_capacity new
