-- Pages in use, and private copies.
use Rattle.std.specs.Prelude.{ℕ, ◌+◌, List, ◌++◌, length, take, drop, replicate}

-- a page in use: the node that its frame is of, and its bytes
pub record Page : Type 0 where
  pub node : ℕ
  pub bytes : List ℕ

-- a private copy. Maps that hold the same stamp hold one page
pub record Copy : Type 0 where
  pub stamp : ℕ
  pub page : Page

abbrev pub zeros : ℕ → List ℕ
zeros n = replicate n 0

-- the page with these bytes from the offset on
abbrev pub overwritten : ℕ → List ℕ → Page → Page
overwritten offset bytes page = record page { bytes = take offset page.bytes ++ bytes ++ drop (offset + length bytes) page.bytes }
