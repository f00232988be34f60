-- An access through a map, at a live index below the file's length.
use Rattle.std.specs.Prelude.{ℕ, ◌&&◌, Bool, true, not, None, Some, if◌then◌else◌}
use Rattle.hp_model.specs.declared.cell.Cell.{Cell}
use Rattle.hp_model.specs.declared.cell.Cell.TheVariants.{Hole, Entered, Present}
use Rattle.hp_model.specs.declared.place.Place.{Place}
use Rattle.hp_model.specs.declared.place.Place.TheVariants.{Gone, Live}
use Rattle.hp_model.specs.declared.answer.Answer.TheVariants.{Done}
use Rattle.hp_model.specs.declared.refusal.Refusal.TheVariants.{TakenByOwner, OutOfRange}
use Rattle.hp_model.specs.declared.step.Intent.{Intent}
use Rattle.hp_model.specs.declared.step.Intent.TheVariants.{Read, Write}
use Rattle.hp_model.specs.files.CopyWrite.{copy_write}
use Rattle.hp_model.specs.files.File.{Mount, cell_at, has_page}
use Rattle.hp_model.specs.files.Mapping.{is_shared, place_at}
use Rattle.hp_model.specs.files.Page.{Page, Copy, zeros}
use Rattle.hp_model.specs.machine.Plan.{Answered, Plan, Finish, Choice, refuse, grant_page, reserved_page}
use Rattle.hp_model.specs.files.Spot.{Spot, filled, copied}
use Rattle.hp_model.specs.files.Value.{value}

abbrev pub shared_access : Choice → ℕ → Mount → Spot → (home i : ℕ) → Cell Page → Plan
shared_access c size m s home i (Present page) = Finish (Answered Done (Some m))
shared_access c size m s home i Entered = reserved_page home (λ node. filled m s i (record { node = node; bytes = zeros size }))
shared_access c size m s home i Hole = grant_page c m home (λ node. filled m s i (record { node = node; bytes = zeros size }))

-- a private copy of what the map shows: by the owner's reservation, which is consumed, else by a grant
abbrev pub new_copy : Choice → ℕ → Mount → Spot → (home i : ℕ) → Bool → Plan
new_copy c size m s home i consumed =
    let fresh : ℕ → Copy = λ node. record { stamp = c.stamp; page = record { node = node; bytes = value size s.file s.map i } } in
    if s.map.owner && not consumed
    then reserved_page home (λ node. copied m s i true (fresh node))
    else grant_page c m home (λ node. copied m s i consumed (fresh node))

abbrev pub uncopied_access : Choice → ℕ → Mount → Spot → (home i : ℕ) → Bool → Intent → Plan
uncopied_access c size m s home i consumed Write = new_copy c size m s home i consumed
uncopied_access c size m s home i consumed Read =
    if has_page (cell_at s.file i) then Finish (Answered Done (Some m)) else new_copy c size m s home i consumed

abbrev pub private_access : Choice → ℕ → Mount → Spot → (home i : ℕ) → Place Copy → Intent → Plan
private_access c size m s home i Gone intent = refuse OutOfRange
private_access c size m s home i (Live consumed (Some copy)) Read = Finish (Answered Done (Some m))
private_access c size m s home i (Live consumed (Some copy)) Write = copy_write c m s home i consumed copy
private_access c size m s home i (Live consumed None) intent =
    if s.map.unmapped then refuse TakenByOwner else uncopied_access c size m s home i consumed intent

abbrev pub access : Choice → ℕ → Mount → Spot → (home i : ℕ) → Intent → Plan
access c size m s home i intent =
    if is_shared s.map.sharing
    then shared_access c size m s home i (cell_at s.file i)
    else private_access c size m s home i (place_at s.map i) intent
