-- What a file and a map show at an index.
use Rattle.std.specs.Prelude.{ℕ, None, Some, List}
use Rattle.hp_model.specs.files.File.{File, cell_at}
use Rattle.hp_model.specs.files.Mapping.{Map, copy_of, place_at}
use Rattle.hp_model.specs.files.Page.{Page, zeros}
use Rattle.hp_model.specs.declared.cell.Cell.{Cell}
use Rattle.hp_model.specs.declared.cell.Cell.TheVariants.{Hole, Entered, Present}

-- the bytes of a file's index
abbrev pub shown : ℕ → Cell Page → List ℕ
shown size Hole = zeros size
shown size Entered = zeros size
shown size (Present page) = page.bytes

-- what a map shows at an index: its copy, or else what the file has
abbrev pub value : ℕ → File → Map → ℕ → List ℕ
value size f m i = elim (copy_of (place_at m i)) [ None ↦ shown size (cell_at f i) | Some copy ↦ copy.page.bytes ]
