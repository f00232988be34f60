-- The maps of a task that leave all files.
use Rattle.std.specs.Prelude.{ℕ}
use Rattle.hp_lookup.specs.declared.departed.Departed.{Departed}
use Rattle.hp_lookup.specs.Leaving.{HaveMapsLeft}
use Rattle.hp_file.specs.declared.held_pages.HeldPages.{HeldPages}
use Rattle.hp_file.specs.FileList.{Listed}

-- all maps of a task left the files, and what went with them is told
abbrev pub HaveLeft : {N : Type 0} → (task : ℕ) → (old now : Listed) → (pages left : HeldPages N) → Departed → Type 0
HaveLeft task old now pages left gone =
    HaveMapsLeft task old.files now.files pages.store left.store left.more gone.maps gone.reserves
