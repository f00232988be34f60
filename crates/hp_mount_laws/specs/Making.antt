-- What making a file or a map asks first.
use Rattle.std.specs.Prelude.{ℕ, ◌+◌, ◌||◌, ◌==◌, Bool, not, is_some, Option, None, Some, List, [], ◌∷◌, length, nat_le, nat_lt, Ok, Err, Result}
use Rattle.hp_model.specs.declared.answer.Answer.TheVariants.{MapNo}
use Rattle.hp_model.specs.machine.SlotEvent.{SlotEvent}
use Rattle.hp_model.specs.declared.event.SlotEvent.TheVariants.{Map as MapEvent}
use Rattle.hp_model.specs.declared.refusal.Refusal.{Refusal}
use Rattle.hp_model.specs.declared.refusal.Refusal.TheVariants.{BadName, FileExists, NoInodes, OutOfRange, TooMany}
use Rattle.hp_model.specs.files.File.{Mount, new_file, with_file}
use Rattle.hp_model.specs.pool.Grant.{is_over}
use Rattle.hp_model.specs.files.MakeMap.{with_new}
use Rattle.hp_model.specs.machine.Plan.{Answered, Choice, Plan, Reply, grant}
use Rattle.hp_model.specs.Profile.{most_file_pages, most_files, most_map_pages}
use Rattle.hp_model.specs.machine.Promises.{file_in}
use Rattle.hp_model.specs.machine.SlotEvent.{are_too_many_maps, file_named, is_name}
use Rattle.hp_lookup.specs.Asking.{wants, with_range}
use Rattle.hp_lookup.specs.declared.next_map.MapRange.{MapRange}
use Rattle.hp_mount_laws.specs.Reach.{first_of}

-- what one file more is asked, whatever its name
abbrev pub file_tests : Mount → List (Bool × Refusal)
file_tests m = (nat_le most_files (length m.files), TooMany) ∷ (is_over m.limits.inodes (length m.files + 1), NoInodes) ∷ []

-- what a new file of this name is asked
abbrev pub create_tests : Mount → List ℕ → List (Bool × Refusal)
create_tests m name = (not (is_name name), BadName) ∷ (is_some (file_named m name), FileExists) ∷ file_tests m

abbrev pub map_tests : Mount → (task a n : ℕ) → List (Bool × Refusal)
map_tests m task a n = ((n == 0) || nat_lt most_file_pages (a + n), OutOfRange) ∷ (nat_lt most_map_pages n || are_too_many_maps m task, TooMany) ∷ []

-- why a task may not map the range, if anything
abbrev pub why_no_map : Mount → MapRange → Option Refusal
why_no_map m range = first_of (map_tests m range.task range.start range.pages)

-- the grant of a map's pages, and the map
abbrev pub map_plan : Mount → MapRange → (number home file : ℕ) → Choice → Plan
map_plan m range number home file c =
    grant c m home (wants range (file_in m file))
    (Answered (MapNo number) (Some (with_file m file (with_range range number (file_in m file)))))

-- the event of a map
abbrev pub map_event : (home : ℕ) → (name : List ℕ) → MapRange → SlotEvent
map_event home name range = MapEvent range.task home name range.start range.pages range.sharing range.reserving

-- the grant of its pages, and the file
abbrev pub anon_plan : Mount → MapRange → (number home : ℕ) → Choice → Plan
anon_plan m range number home c =
    grant c m home (wants range (new_file None))
    (Answered (MapNo number) (Some (with_new m (with_range range number (new_file None)))))

-- the reply of a map that was made, by its number
abbrev pub made_reply : ℕ → Result (Unit {0}) Refusal → Reply
made_reply number (Ok done) = Ok (MapNo number)
made_reply number (Err r) = Err r
