-- What was read of an input.
use Rattle.std.specs.Prelude.{◌≡◌, ℕ, List, Option, Result, Ok, Err, MatchResult, take}
use Rattle.std.specs.Io.KnownBytes.{Appends, Consumes, Keeps}
use Rattle.hp_model.specs.machine.Plan.{Reply}
use Rattle.hp_model.specs.run.Served.{Serves}
use Rattle.hp_model.specs.declared.step.Step.{Step}
use Rattle.hp_model.specs.declared.fault.RunFault.{RunFault}
use Rattle.hp_model.specs.declared.fault.RunFault.TheVariants.{Memory, Read, Write, TooLong}

-- what a reader has left, and all that its reads gave, each where it is known
abbrev pub Reading : Type 0
Reading = Option (List ℕ) × Option (List ℕ)

-- these bytes were read
abbrev pub Reads : Reading → Reading → List ℕ → Type 0
Reads old new bytes = Consumes old.0 new.0 bytes × Appends old.1 new.1 bytes

-- none were
abbrev pub ReadsNone : Reading → Reading → Type 0
ReadsNone old new = Keeps old.0 new.0 × Keeps old.1 new.1

-- a read gave the first n bytes of the buffer, or it failed and gave none
abbrev pub IsGiven : {E : Type 0} → Option (List ℕ) → Option (List ℕ) → Result ℕ E → List ℕ → Type 0
IsGiven old new result buf = MatchResult result (λ n. Appends old new (take n buf)) (λ _. Keeps old new)

-- why a run over an input ended: the input was over, a read failed, or a write; a line or the input may be too long, but memory was had before
abbrev pub HasCause : (over failed broken : Type 0) → Result ℕ RunFault → Type 0
HasCause over failed broken (Ok count) = over
HasCause over failed broken (Err Read) = failed
HasCause over failed broken (Err Write) = broken
HasCause over failed broken (Err TooLong) = Unit {0}
HasCause over failed broken (Err Memory) = ⊥

-- some input was read, and the run leaves of it what `Serves` says
abbrev pub ServesRead : {S : Type 0} → (S → Step → Reply → S → Type 0) → (page : ℕ) → S → S → Reading → Reading
    → Option (List ℕ) → Option (List ℕ) → Result ℕ RunFault → Type 0
ServesRead may_answer page old new unread left before after ended =
    (input : List ℕ) × Reads unread left input × Serves may_answer page old new before after input ended
