-- An inode's parts, and the cells that they stand for.
use Rattle.std.specs.Prelude.{ℕ, ◌≡◌, ◌<◌, ◌^◌, Bool, true, false, List, map, Option, None, Some, IsSome}
use Rattle.std.specs.List.{range_with_len}
use Rattle.hp_model.specs.declared.cell.Cell.{Cell}
use Rattle.hp_model.specs.declared.cell.Cell.TheVariants.{Hole, Entered, Present}
use Rattle.hp_inode.specs.Blocks.{WordBlocks, entered_count, entered_at, RowBlocks, page_at, has_slot_at}

abbrev pub cell_by : Bool → Option ℕ → Cell ℕ
cell_by true None = Entered
cell_by true (Some page) = Present page
cell_by false page = Hole

abbrev pub kept_cell : WordBlocks → RowBlocks → ℕ → Cell ℕ
kept_cell s rows i = cell_by (entered_at s i) (page_at rows i)

abbrev pub cells_of : ℕ → WordBlocks → RowBlocks → List (Cell ℕ)
cells_of len s rows = map (kept_cell s rows) (range_with_len 0 len)

-- entered only below the length, and so many; a page and a slot as the entries say
pub record IsKept (len count : ℕ) (entries : WordBlocks) (rows : RowBlocks) : Type 0 where
  pub small : len < 2 ^ 32
  pub below : (i : ℕ) → entered_at entries i ≡ true → i < len
  pub counted : entered_count entries 0 len ≡ count
  pub paged : (i : ℕ) → IsSome (page_at rows i) → entered_at entries i ≡ true
  pub slots : (i : ℕ) → entered_at entries i ≡ true → has_slot_at rows i ≡ true
