-- Making a file and making a map.
use Rattle.std.specs.Prelude.{ℕ, ◌+◌, ◌&&◌, Bool, true, false, not, None, List, [], ◌∷◌, ◌++◌, take, drop, map, replicate, if◌then◌else◌}
use Rattle.std.specs.List.{filter, count_by}
use Rattle.hp_model.specs.declared.cell.Cell.{Cell}
use Rattle.hp_model.specs.declared.place.Place.TheVariants.{Live}
use Rattle.hp_model.specs.declared.step.Reserving.{Reserving}
use Rattle.hp_model.specs.declared.step.Reserving.TheVariants.{Reserve, NoReserve}
use Rattle.hp_model.specs.declared.step.Sharing.{Sharing}
use Rattle.hp_model.specs.declared.step.Sharing.TheVariants.{Shared, Private}
use Rattle.hp_model.specs.files.File.{File, Mount, at_least, entered, is_hole, maps_of}
use Rattle.hp_model.specs.Lists.{edit_range, least_unused, distinct}
use Rattle.hp_model.specs.files.Mapping.{Map, is_shared, is_of}

abbrev pub numbers_of : ℕ → List Map → List ℕ
numbers_of task maps = map (λ m. m.number) (filter (is_of task) maps)

-- the tasks that have maps on the mount
abbrev pub tasks_of : Mount → List ℕ
tasks_of m = distinct (map (λ x. x.task) (maps_of m))

abbrev pub next_number : ℕ → Mount → ℕ
next_number task m = least_unused (numbers_of task (maps_of m))

abbrev pub reserves : Reserving → Bool
reserves Reserve = true
reserves NoReserve = false

-- the reservations that n pages from index a on ask for
abbrev pub asked : Sharing → Reserving → (a n : ℕ) → File → ℕ
asked sharing NoReserve a n f = 0
asked Private Reserve a n f = n
asked Shared Reserve a n f = count_by is_hole (take n (drop a (at_least (a + n) f.cells)))

abbrev pub new_map : (task number a n : ℕ) → Sharing → Reserving → Map
new_map task number a n sharing reserving =
    record {
      task = task;
      number = number;
      start = a;
      sharing = sharing;
      owner = not (is_shared sharing) && reserves reserving;
      unmapped = false;
      places = replicate n (Live false None);
    }

abbrev pub cells_mapped : {P : Type 0} → Sharing → Reserving → (a n : ℕ) → List (Cell P) → List (Cell P)
cells_mapped sharing reserving a n cells =
    if is_shared sharing && reserves reserving then edit_range entered a (a + n) (at_least (a + n) cells) else at_least (a + n) cells

-- the file with one map more
abbrev pub mapped : (task number a n : ℕ) → Sharing → Reserving → File → File
mapped task number a n sharing reserving f =
    record f { cells = cells_mapped sharing reserving a n f.cells; maps = f.maps ++ new_map task number a n sharing reserving ∷ [] }

abbrev pub with_new : Mount → File → Mount
with_new m f = record m { files = m.files ++ f ∷ [] }
