-- What stands at an index, without its page, and how a copy is held.
use Rattle.std.specs.Prelude.{◌≡◌, ℕ, ◌==◌, ◌&&◌, Bool, true, false, None, Some}
use Rattle.hp_model.specs.declared.cell.Cell.{Cell}
use Rattle.hp_model.specs.declared.cell.Cell.TheVariants as cell
use Rattle.hp_model.specs.declared.place.Place.{Place}
use Rattle.hp_model.specs.files.CopyWrite.{is_held_once}
use Rattle.hp_model.specs.files.File.{File}
use Rattle.hp_model.specs.files.Mapping.{copy_of}
use Rattle.hp_model.specs.files.Page.{Copy, Page}
use Rattle.hp_model.specs.machine.Sound.{file_has}
use Rattle.hp_lookup.specs.declared.copy_state.CopyState.{CopyState}
use Rattle.hp_lookup.specs.declared.copy_state.CopyState.TheVariants.{Missing, HeldOnce, HeldBySeveral}
use Rattle.hp_file.specs.declared.file.CellState.{CellState}
use Rattle.hp_file.specs.declared.file.CellState.TheVariants.{Hole, Entered, Present}

abbrev pub IsState : CellState → Cell Page → Type 0
IsState Hole c = c ≡ cell.Hole
IsState Entered c = c ≡ cell.Entered
IsState Present c = (page : Page) × (c ≡ cell.Present page)

-- how the copy at a place is held by the maps of its file
abbrev pub IsCopyState : CopyState → File → Place Copy → Type 0
IsCopyState Missing f p = copy_of p ≡ None
IsCopyState HeldOnce f p = (copy : Copy) × (copy_of p ≡ Some copy) × (is_held_once f copy.stamp ≡ true)
IsCopyState HeldBySeveral f p = (copy : Copy) × (copy_of p ≡ Some copy) × (is_held_once f copy.stamp ≡ false)

abbrev pub is_stamp_at : ℕ → ℕ → ℕ → ℕ → Bool
is_stamp_at n q stamp node = (node == n) && (stamp == q)

-- copies with one stamp are pages of one node
abbrev pub AreAgreed : File → Type 0
AreAgreed f = (stamp m n : ℕ) → file_has (is_stamp_at m stamp) f ≡ true → file_has (is_stamp_at n stamp) f ≡ true → m ≡ n
