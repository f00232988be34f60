-- The forms of an inode, and the cells that they stand for.
use Rattle.std.specs.Prelude.{ℕ, ◌<◌, ◌^◌, List, []}
use Rattle.hp_model.specs.declared.cell.Cell.{Cell}
use Rattle.hp_inode.specs.declared.form.Form.{Form}
use Rattle.hp_inode.specs.declared.form.Form.TheVariants.{Holes, Kept}
use Rattle.hp_inode.specs.Kept.{cells_of}

-- holes are the cells of no entries and no pages
abbrev pub cells_in : Form → List (Cell ℕ)
cells_in (Holes len) = cells_of len [] []
cells_in (Kept indices) = indices.value.cells

-- few enough; of indices their own invariant says so
abbrev pub IsForm : Form → Type 0
IsForm (Holes len) = len < 2 ^ 32
IsForm (Kept indices) = Unit
