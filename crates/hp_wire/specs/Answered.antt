-- Lines that were answered, into what waits to be written.
use Rattle.std.specs.Prelude.{◌≡◌, ℕ, List, [], ◌++◌, Option}
use Rattle.std.specs.Io.KnownBytes.{Appends}
use Rattle.hp_model.specs.machine.Plan.{Reply}
use Rattle.hp_model.specs.text.Lines.{Line}
use Rattle.hp_model.specs.text.Text.{IsTextOfReplies}
use Rattle.hp_model.specs.declared.step.Step.{Step}
use Rattle.hp_model.specs.run.Ran.{AppendsFront, Ran, RanInPart}
use Rattle.hp_wire.specs.Waiting.{Waiting}
use Rattle.hp_model.specs.declared.fault.RunFault.{RunFault}
use Rattle.hp_model.specs.declared.fault.RunFault.TheVariants.{Write}

-- what is written and what waits, in this order, gained these bytes
pub record Gains (old : Option (List ℕ)) (waiting : List ℕ) (new : Option (List ℕ)) (left : List ℕ) (added : List ℕ) : Type 0 where
  pub sent : List ℕ
  pub written : Appends old new sent
  pub same : waiting ++ added ≡ sent ++ left

-- all the lines were answered, and the text of the replies was gained
pub record Answered {S : Type 0} (may_answer : S → Step → Reply → S → Type 0) (page : ℕ) (old : S) (lines : List Line) (new : S)
    (before : Option (List ℕ)) (waiting : List ℕ) (after : Option (List ℕ)) (left : List ℕ) : Type 0 where
  pub text : List ℕ
  pub replies : IsTextOfReplies may_answer page old lines new text
  pub gained : Gains before waiting after left text

-- the first of the lines were answered, and a front of what waited and of the text of their replies was written
pub record AnsweredInPart {S : Type 0} (may_answer : S → Step → Reply → S → Type 0) (page : ℕ) (old : S) (lines : List Line) (new : S)
    (before : Option (List ℕ)) (waiting : List ℕ) (after : Option (List ℕ)) : Type 0 where
  pub done : List Line
  pub rest : List Line
  pub first : lines ≡ done ++ rest
  pub text : List ℕ
  pub replies : IsTextOfReplies may_answer page old done new text
  pub written : AppendsFront before after (waiting ++ text)

-- ---- with a writer whose known bytes `contents` tells, and the replies that wait

-- all the lines were answered
abbrev pub AnswersAll : {S W : Type 0} → (S → Step → Reply → S → Type 0) → (W → Option (List ℕ)) → List Line → S → S → W → W → Waiting → Waiting → Type 0
AnswersAll may_answer contents lines old new before after waiting left =
    Answered may_answer waiting.page old lines new (contents before) waiting.text (contents after) left.text

-- a write failed while they were answered
abbrev pub AnswersSome : {S W : Type 0} → (S → Step → Reply → S → Type 0) → (W → Option (List ℕ)) → List Line → S → S → W → W → Waiting → RunFault → Type 0
AnswersSome may_answer contents lines old new before after waiting fault =
    (fault ≡ Write) × AnsweredInPart may_answer waiting.page old lines new (contents before) waiting.text (contents after)

-- all the lines were answered, and the replies written
abbrev pub RunsAll : {S W : Type 0} → (S → Step → Reply → S → Type 0) → (W → Option (List ℕ)) → ℕ → List Line → S → S → W → W → Type 0
RunsAll may_answer contents page lines old new before after = Ran may_answer page old lines new (contents before) (contents after)

-- a write failed while they were answered and written
abbrev pub RunsSome : {S W : Type 0} → (S → Step → Reply → S → Type 0) → (W → Option (List ℕ)) → ℕ → List Line → S → S → W → W → RunFault → Type 0
RunsSome may_answer contents page lines old new before after fault =
    (fault ≡ Write) × RanInPart may_answer page old lines new (contents before) (contents after)

-- what is written and what waits stay as they are, in this order
abbrev pub LosesNone : {W : Type 0} → (W → Option (List ℕ)) → W → W → Waiting → Waiting → Type 0
LosesNone contents before after waiting left = Gains (contents before) waiting.text (contents after) left.text []
