-- The section of a mount: nr is read, and the minimum that the options mean at it is granted.
use Rattle.std.specs.Prelude.{◌≡◌, ℕ, true, false, List, Result, Ok, Err}
use Rattle.hp_model.specs.declared.limits.Limits.{Limits}
use Rattle.hp_model.specs.declared.refusal.Refusal.{Refusal}
use Rattle.hp_model.specs.declared.refusal.Refusal.TheVariants.{NoPages, TraceFull}
use Rattle.hp_model.specs.declared.section.PoolAnswer.{PoolAnswer}
use Rattle.hp_model.specs.declared.section.Section.{Section}
use Rattle.hp_model.specs.declared.section.Section.TheVariants.{ReadAndGrant}
use Rattle.hp_model.specs.files.Options.{limits, wanted_of}
use Rattle.hp_mount_door.specs.Limits.{read_nr}
use Rattle.hp_subpool.specs.Subpool.{Subpool, opened}

-- by what the options mean: refused, or a share with their minimum, or NoPages for that
abbrev pub IsShareOf : Result Limits Refusal → (nr : ℕ) → Result (Subpool × Limits) Refusal → Section → PoolAnswer → Type 0
IsShareOf (Err e) nr got s a = (got ≡ Err e) × (s ≡ ReadAndGrant 0) × (a ≡ read_nr true nr)
IsShareOf (Ok l) nr (Ok got) s a = (got ≡ (opened l.max l.min, l)) × (s ≡ ReadAndGrant l.min) × (a ≡ read_nr true nr)
IsShareOf (Ok l) nr (Err e) s a = (e ≡ NoPages) × (s ≡ ReadAndGrant l.min) × (a ≡ read_nr false nr)

-- at some nr, by a section of the door; or TraceFull, and then there was none
abbrev pub IsOpenedAt : {X : Type 0} → (took : X → Section → PoolAnswer → X → Type 0) → (full : X → Type 0) → (size : ℕ) → (text : List ℕ) → (old new : X) → Result (Subpool × Limits) Refusal → Type 0
IsOpenedAt took full size text old new (Err TraceFull) = (new ≡ old) × full new
IsOpenedAt took full size text old new got =
    (nr : ℕ) × (s : Section) × (a : PoolAnswer) × IsShareOf (limits nr size (wanted_of text)) nr got s a × took old s a new
