-- What becomes of a connection.
use Rattle.std.specs.Prelude.{◌≡◌, ◌⊎◌, ℕ, ℤ, List, [], ◌∷◌, Option, Some, Result, codes}
use Rattle.std.specs.Io.KnownBytes.{Appends}
use Rattle.hp_model.specs.declared.step.Step.{Step}
use Rattle.hp_model.specs.machine.Plan.{Reply}
use Rattle.hp_model.specs.run.Ran.{AppendsFront}
use Rattle.hp_model.specs.run.Served.{Serves}
use Rattle.hp_model.specs.declared.fault.RunFault.{RunFault}
use Rattle.hp_wire.specs.Reading.{HasCause}
use Rattle.hp_serving.specs.declared.entry.Outcome.{Outcome}
use Rattle.hp_serving.specs.declared.entry.Outcome.TheVariants.{Served, Refused, Gone}

-- All that was ever read from it, and all that was ever written to it: a session that was just opened answered the lines that were
-- read, up to an end that has its cause, and was told this; what was written are the lines of the replies that its calls gave, as
-- far as `Serves` says for that end.
abbrev pub WasServed : {S T : Type 0} → (S → Type 0) → (S → T → Type 0) → (S → Step → Reply → S → Type 0) → (S → ℕ)
    → (heard : Option (List ℕ)) → (over failed : Type 0) → (said : Option (List ℕ)) → (broken : Type 0) → T → Type 0
WasServed {S} is_opened was_told may_answer page heard over failed said broken told =
    (opened : S) × (finished : S) × (ended : Result ℕ RunFault) × is_opened opened × was_told finished told
    × (input : List ℕ) × (heard ≡ Some input) × Serves may_answer (page opened) opened finished (Some []) said input ended
    × HasCause over failed broken ended

-- the line for a client that has no session
abbrev pub no_session : List ℕ
no_session = codes "error 1 OutOfMemory\n"

-- all that was ever written to it is this line, or a front of it where a write failed
abbrev pub WasRefused : (said : Option (List ℕ)) → (broken : Type 0) → Type 0
WasRefused said broken = AppendsFront (Some []) said no_session × (Appends (Some []) said no_session ⊎ broken)

-- one or the other, by how it ended; one that could not be opened has no ends
abbrev pub Became : {S T G : Type 0} → (S → Type 0) → (S → T → Type 0) → (S → Step → Reply → S → Type 0) → (S → ℕ)
    → (heard : Option (List ℕ)) → (over failed : Type 0) → (said : Option (List ℕ)) → (broken : Type 0) → Outcome T G → Type 0
Became is_opened was_told may_answer page heard over failed said broken (Served told) =
    WasServed is_opened was_told may_answer page heard over failed said broken told
Became is_opened was_told may_answer page heard over failed said broken (Refused refused) = WasRefused said broken
Became is_opened was_told may_answer page heard over failed said broken (Gone gone) = ⊥

-- both ends of one connection, as they were when they were closed, show that; or it could not be opened
abbrev pub HasEnded : {S T G A B : Type 0} → (S → Type 0) → (S → T → Type 0) → (S → Step → Reply → S → Type 0) → (S → ℕ)
    → (A → Option ℤ) → (A → Option (List ℕ)) → (A → Type 0) → (A → Type 0) → (B → Option ℤ) → (B → Option (List ℕ)) → (B → Type 0) → Outcome T G → Type 0
HasEnded is_opened was_told may_answer page of heard over failed to said broken (Gone gone) = Unit {0}
HasEnded {A} {B} is_opened was_told may_answer page of heard over failed to said broken (Served told) =
    (reader : A) × (writer : B) × (of reader ≡ to writer)
    × WasServed is_opened was_told may_answer page (heard reader) (over reader) (failed reader) (said writer) (broken writer) told
HasEnded {A} {B} is_opened was_told may_answer page of heard over failed to said broken (Refused refused) =
    (reader : A) × (writer : B) × (of reader ≡ to writer) × WasRefused (said writer) (broken writer)

-- the same, as a fact
abbrev pub IsClosed : {S T G A B : Type 0} → (S → Type 0) → (S → T → Type 0) → (S → Step → Reply → S → Type 0) → (S → ℕ)
    → (A → Option ℤ) → (A → Option (List ℕ)) → (A → Type 0) → (A → Type 0) → (B → Option ℤ) → (B → Option (List ℕ)) → (B → Type 0) → Outcome T G → Type 0
IsClosed is_opened was_told may_answer page of heard over failed to said broken outcome =
    ∥ HasEnded is_opened was_told may_answer page of heard over failed to said broken outcome ∥₁

-- what the sessions were told that served some of these
abbrev pub told_in : {T G : Type 0} → List (Outcome T G) → List T
told_in [] = []
told_in (Served told ∷ outcomes) = told ∷ told_in outcomes
told_in (Refused refused ∷ outcomes) = told_in outcomes
told_in (Gone gone ∷ outcomes) = told_in outcomes
