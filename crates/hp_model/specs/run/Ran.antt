-- Lines that were answered, and the text of their replies that was written.
use Rattle.std.specs.Prelude.{◌≡◌, ℕ, List, ◌++◌, take, Option}
use Rattle.std.specs.Io.KnownBytes.{Appends}
use Rattle.hp_model.specs.machine.Plan.{Reply}
use Rattle.hp_model.specs.text.Lines.{Line}
use Rattle.hp_model.specs.text.Text.{IsTextOfReplies}
use Rattle.hp_model.specs.declared.step.Step.{Step}

-- known bytes grew by a front of these
abbrev pub AppendsFront : Option (List ℕ) → Option (List ℕ) → List ℕ → Type 0
AppendsFront old new bytes = (n : ℕ) × Appends old new (take n bytes)

-- all the lines were answered, and the text of the replies was written
pub record Ran {S : Type 0} (may_answer : S → Step → Reply → S → Type 0) (page : ℕ) (old : S) (lines : List Line) (new : S) (before after : Option (List ℕ)) : Type 0 where
  pub text : List ℕ
  pub replies : IsTextOfReplies may_answer page old lines new text
  pub written : Appends before after text

-- the first of the lines were answered, and a front of the text of their replies was written
pub record RanInPart {S : Type 0} (may_answer : S → Step → Reply → S → Type 0) (page : ℕ) (old : S) (lines : List Line) (new : S) (before after : Option (List ℕ)) : Type 0 where
  pub done : List Line
  pub rest : List Line
  pub first : lines ≡ done ++ rest
  pub text : List ℕ
  pub replies : IsTextOfReplies may_answer page old done new text
  pub written : AppendsFront before after text
