-- The section in which a mount's limits are set anew: nr is read, and the minimum that the options mean at it is committed.
use Rattle.std.specs.Prelude.{◌≡◌, ℕ, Bool, true, false, List, Option, Result, Ok, Err, if◌then◌else◌}
use Rattle.hp_model.specs.declared.limits.Limits.{Limits}
use Rattle.hp_model.specs.declared.refusal.Refusal.{Refusal}
use Rattle.hp_model.specs.declared.refusal.Refusal.TheVariants.{NoPages, TraceFull}
use Rattle.hp_model.specs.declared.section.PoolAnswer.{PoolAnswer}
use Rattle.hp_model.specs.declared.section.Section.{Section}
use Rattle.hp_model.specs.declared.section.Section.TheVariants.{ReadAndGiveBack, ReadAndGrant}
use Rattle.hp_model.specs.files.Options.{limits, wanted_of}
use Rattle.hp_model.specs.pool.Pool.{no_takes}
use Rattle.hp_subpool.specs.Subpool.{Subpool, gain, is_loss, loss, with_limits}

abbrev pub read_nr : Bool → ℕ → PoolAnswer
read_nr granted nr = record { granted = granted; node = 0; nr = nr; pages = no_takes }

-- what another minimum asks of the pool, or gives back to it
abbrev pub minimum_section : Subpool → (min : ℕ) → Section
minimum_section s min = if is_loss s min then ReadAndGiveBack (loss s min) else ReadAndGrant (gain s min)

-- by what the options mean: refused, or the share has their limits, or NoPages for the minimum. It answers the limit of files
abbrev pub IsLimitedBy : Result Limits Refusal → (nr : ℕ) → (old new : Subpool) → Result (Option ℕ) Refusal → Section → PoolAnswer → Type 0
IsLimitedBy (Err e) nr old new got s a = (got ≡ Err e) × (new ≡ old) × (s ≡ ReadAndGrant 0) × (a ≡ read_nr true nr)
IsLimitedBy (Ok l) nr old new (Ok files) s a =
    (files ≡ l.inodes) × (new ≡ with_limits l.max l.min old) × (s ≡ minimum_section old l.min) × (a ≡ read_nr true nr)
IsLimitedBy (Ok l) nr old new (Err e) s a = (e ≡ NoPages) × (new ≡ old) × (s ≡ minimum_section old l.min) × (a ≡ read_nr false nr)

-- at some nr, by a section of the door; or TraceFull, and then there was none
abbrev pub IsLimitedAt : {X : Type 0} → (took : X → Section → PoolAnswer → X → Type 0) → (full : X → Type 0) → (size : ℕ) → (text : List ℕ)
    → (share left : Subpool) → (old new : X) → Result (Option ℕ) Refusal → Type 0
IsLimitedAt took full size text share left old new (Err TraceFull) = (left ≡ share) × (new ≡ old) × full new
IsLimitedAt took full size text share left old new got =
    (nr : ℕ) × (s : Section) × (a : PoolAnswer) × IsLimitedBy (limits nr size (wanted_of text)) nr share left got s a × took old s a new
