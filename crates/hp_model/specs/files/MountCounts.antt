-- The numbers of a mount, as sums over its files and maps.
use Rattle.std.specs.Prelude.{ℕ, ◌+◌, ◌&&◌, ◌==◌, Bool, false, not, List, length, map, max, if◌then◌else◌}
use Rattle.std.specs.Prelude.{Option, None, Some}
use Rattle.std.specs.List.{filter_map, flat_map, sum_by, count_by}
use Rattle.hp_model.specs.files.File.{File, has_page, is_entered, Mount}
use Rattle.hp_model.specs.Lists.{distinct}
use Rattle.hp_model.specs.files.Mapping.{Map, copy_of, is_unconsumed}
use Rattle.hp_model.specs.files.Page.{Page, Copy}
use Rattle.hp_model.specs.declared.cell.Cell.{Cell}
use Rattle.hp_model.specs.declared.cell.Cell.TheVariants.{Hole, Entered, Present}

abbrev pub copies_of : File → List Copy
copies_of f = flat_map (λ m. filter_map copy_of m.places) f.maps

abbrev pub stamps_of : File → List ℕ
stamps_of f = map (λ c. c.stamp) (copies_of f)

-- pages in use for a file: its own, and one for each stamp that its maps hold
abbrev pub file_pages : File → ℕ
file_pages f = count_by has_page f.cells + length (distinct (stamps_of f))

abbrev pub is_waiting : {P : Type 0} → Cell P → Bool
is_waiting c = is_entered c && not (has_page c)

-- reservations that an owner has not consumed
abbrev pub owner_reserves : Map → ℕ
owner_reserves m = if m.owner then count_by is_unconsumed m.places else 0

-- outstanding reservations of a file: entries without a page, and those of its maps' owners
abbrev pub file_reserves : File → ℕ
file_reserves f = count_by is_waiting f.cells + sum_by owner_reserves f.maps

abbrev pub pages_of : Mount → ℕ
pages_of m = sum_by file_pages m.files

abbrev pub reserves_of : Mount → ℕ
reserves_of m = sum_by file_reserves m.files

-- pages and outstanding reservations
abbrev pub usage_of : Mount → ℕ
usage_of m = pages_of m + reserves_of m

-- what the pool has committed to the mount
abbrev pub committed_of : Mount → ℕ
committed_of m = max (usage_of m) m.limits.min

-- ---- pages at a node

abbrev pub is_page_at : ℕ → Cell Page → Bool
is_page_at n Hole = false
is_page_at n Entered = false
is_page_at n (Present page) = page.node == n

abbrev pub stamp_at : ℕ → Copy → Option ℕ
stamp_at n c = if c.page.node == n then Some c.stamp else None

abbrev pub file_pages_at : ℕ → File → ℕ
file_pages_at n f = count_by (is_page_at n) f.cells + length (distinct (filter_map (stamp_at n) (copies_of f)))

abbrev pub pages_at : ℕ → Mount → ℕ
pages_at n m = sum_by (file_pages_at n) m.files
