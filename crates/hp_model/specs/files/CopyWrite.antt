-- A write into a private copy.
use Rattle.std.specs.Prelude.{ℕ, ◌==◌, Bool, true, false, None, Some, map, if◌then◌else◌}
use Rattle.std.specs.List.{list_any, count_by}
use Rattle.hp_model.specs.declared.answer.Answer.TheVariants.{Done}
use Rattle.hp_model.specs.declared.place.Place.{Place}
use Rattle.hp_model.specs.files.File.{File, Mount, with_file, with_map}
use Rattle.hp_model.specs.pool.Grant.{is_full, rise}
use Rattle.hp_model.specs.files.Mapping.{Map, copy_of, without_copy}
use Rattle.hp_model.specs.files.MountCounts.{stamps_of}
use Rattle.hp_model.specs.files.Page.{Copy}
use Rattle.hp_model.specs.machine.Plan.{Outcome, Answered, Plan, Finish, Ask, Choice, grant_page}
use Rattle.hp_model.specs.pool.Pool.{GrantPage}
use Rattle.hp_model.specs.files.Spot.{Spot, copied}

abbrev pub holds : ℕ → Place Copy → Bool
holds stamp p = elim (copy_of p) [ None ↦ false | Some copy ↦ copy.stamp == stamp ]

abbrev pub drop_stamp : ℕ → Place Copy → Place Copy
drop_stamp stamp p = if holds stamp p then without_copy p else p

-- a map that loses its copy is marked
abbrev pub robbed : ℕ → Map → Map
robbed stamp m = if list_any (holds stamp) m.places then record m { unmapped = true; places = map (drop_stamp stamp) m.places } else m

-- the map keeps the stamp, and all others lose it
abbrev pub taken_back : Mount → Spot → ℕ → Outcome
taken_back m s stamp = Answered Done (Some (with_file m s.file_no (with_map (record s.file { maps = map (robbed stamp) s.file.maps }) s.map_no s.map)))

abbrev pub is_held_once : File → ℕ → Bool
is_held_once f stamp = count_by (λ n. n == stamp) (stamps_of f) == 1

-- an owner's write is never refused
abbrev pub owner_write : Mount → Spot → (home stamp : ℕ) → (ℕ → Outcome) → Plan
owner_write m s home stamp fresh =
    if is_full m 1 then Finish (taken_back m s stamp)
    else Ask (λ nr. GrantPage home (rise m 1)) (λ a. if a.granted then fresh a.node else taken_back m s stamp)

abbrev pub copy_write : Choice → Mount → Spot → (home i : ℕ) → Bool → Copy → Plan
copy_write c m s home i consumed copy =
    let fresh : ℕ → Outcome = λ node. copied m s i consumed (record { stamp = c.stamp; page = record { node = node; bytes = copy.page.bytes } }) in
    if is_held_once s.file copy.stamp then Finish (Answered Done (Some m))
    else if s.map.owner then owner_write m s home copy.stamp fresh
    else grant_page c m home fresh
