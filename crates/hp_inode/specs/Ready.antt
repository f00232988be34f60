-- Indices, and a range of them that can be entered with no memory.
use Rattle.std.specs.Prelude.{ℕ, ◌≡◌, ◌<◌, ◌≤◌, ◌^◌, true, List}
use Rattle.std.specs.List.{count_by}
use Rattle.hp_model.specs.declared.cell.Cell.{Cell}
use Rattle.hp_model.specs.files.File.{has_page}
use Rattle.hp_inode.specs.Kept.{IsKept, cells_of}
use Rattle.hp_inode.specs.Blocks.{WordBlocks, RowBlocks, has_slot_at, has_word_for}

-- a file's cells, and the range that can be entered with no memory
pub record Ready : Type 0 where
  pub cells : List (Cell ℕ)
  pub from : ℕ
  pub to : ℕ

-- so many have a page; the indices from a up to b have their slots, and a place among the entries
pub record IsReady (len count pages : ℕ) (entries : WordBlocks) (rows : RowBlocks) (a b : ℕ) : Type 0 where
  pub kept : IsKept len count entries rows
  pub paged : pages ≡ count_by has_page (cells_of len entries rows)
  pub small : b < 2 ^ 32
  pub slots : (k : ℕ) → a ≤ k → k < b → has_slot_at rows k ≡ true
  pub room : (k : ℕ) → a ≤ k → k < b → has_word_for entries k ≡ true
