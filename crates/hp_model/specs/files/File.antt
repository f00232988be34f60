-- Files, and what stands on a mount: files in order of creation, each with its maps in order of making.
use Rattle.std.specs.Prelude.{ℕ, ◌-◌, Bool, true, false, not, List, [], ◌++◌, length, take, replicate}
use Rattle.std.specs.Prelude.{Option, None, Some}
use Rattle.std.specs.List.{slice_index_or, slice_set, flat_map}
use Rattle.hp_model.specs.files.Mapping.{Map, no_map}
use Rattle.hp_model.specs.files.Page.{Page}
use Rattle.hp_model.specs.declared.cell.Cell.{Cell}
use Rattle.hp_model.specs.declared.cell.Cell.TheVariants.{Hole, Entered, Present}
use Rattle.hp_model.specs.declared.limits.Limits.{Limits}

-- a file, with one cell for each index below its length
pub record File : Type 0 where
  pub name : Option (List ℕ)
  pub cells : List (Cell Page)
  pub maps : List Map

pub record Mount : Type 0 where
  pub limits : Limits
  pub files : List File

-- ---- one index. P is what a cell has as its page: the page itself, or its number

module _ {P : Type 0} where
  abbrev pub is_entered : Cell P → Bool
  is_entered Hole = false
  is_entered Entered = true
  is_entered (Present page) = true

  abbrev pub has_page : Cell P → Bool
  has_page Hole = false
  has_page Entered = false
  has_page (Present page) = true

  abbrev pub page_of : Cell P → Option P
  page_of Hole = None
  page_of Entered = None
  page_of (Present page) = Some page

  abbrev pub is_hole : Cell P → Bool
  is_hole c = not (is_entered c)

  abbrev pub entered : Cell P → Cell P
  entered Hole = Entered
  entered Entered = Entered
  entered (Present page) = Present page

  -- a page goes with its entry, an entry without a page stays
  abbrev pub cell_punched : Cell P → Cell P
  cell_punched Hole = Hole
  cell_punched Entered = Entered
  cell_punched (Present page) = Hole

  -- ---- the cells of a file

  abbrev pub cell_in : List (Cell P) → ℕ → Cell P
  cell_in cells i = slice_index_or cells i Hole

  -- the cells, and holes up to the length n if there are fewer
  abbrev pub at_least : ℕ → List (Cell P) → List (Cell P)
  at_least n cells = cells ++ replicate (n - length cells) Hole

  -- the cells below n, and holes up to the length n if there are fewer
  abbrev pub cells_to : ℕ → List (Cell P) → List (Cell P)
  cells_to n cells = take n cells ++ replicate (n - length cells) Hole

-- ---- a file of the machine

abbrev pub cell_at : File → ℕ → Cell Page
cell_at f i = cell_in f.cells i

abbrev pub with_cell : File → ℕ → Cell Page → File
with_cell f i c = record f { cells = slice_set f.cells i c }

abbrev pub with_map : File → ℕ → Map → File
with_map f k m = record f { maps = slice_set f.maps k m }

abbrev pub new_file : Option (List ℕ) → File
new_file name = record { name = name; cells = []; maps = [] }

abbrev pub map_in : File → ℕ → Map
map_in f k = slice_index_or f.maps k no_map

-- ---- files and maps of a mount

abbrev pub file_in : Mount → ℕ → File
file_in m k = slice_index_or m.files k (new_file None)

abbrev pub with_file : Mount → ℕ → File → Mount
with_file m k f = record m { files = slice_set m.files k f }

abbrev pub maps_of : Mount → List Map
maps_of m = flat_map (λ f. f.maps) m.files
