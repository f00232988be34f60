-- A run over the lines of an input.
use Rattle.std.specs.Prelude.{◌≡◌, ℕ, List, [], ◌∷◌, Result, Ok, Err}
use Rattle.hp_model.specs.declared.refusal.Refusal.{Refusal}
use Rattle.hp_model.specs.declared.step.Step.{Step}
use Rattle.hp_model.specs.text.Lines.{Line}
use Rattle.hp_model.specs.machine.Plan.{Reply}
use Rattle.hp_model.specs.text.Reading.{step_of}
use Rattle.hp_model.specs.text.Writing.{text}

-- what a line reads as is answered: a step by the machine, which it may change, and a refusal by itself
abbrev pub AnswersStep : {S : Type 0} → (S → Step → Reply → S → Type 0) → S → Result Step Refusal → Reply → S → Type 0
AnswersStep may_answer old (Ok step) reply new = may_answer old step reply new
AnswersStep may_answer old (Err refusal) reply new = (reply ≡ Err refusal) × (new ≡ old)

-- the lines are answered by these replies, one after another, from old to new
abbrev pub AnswersLines : {S : Type 0} → (S → Step → Reply → S → Type 0) → S → List Line → List Reply → S → Type 0
AnswersLines may_answer old [] [] new = new ≡ old
AnswersLines {S} may_answer old (line ∷ lines) (reply ∷ replies) new =
    (mid : S) × AnswersStep may_answer old (step_of line) reply mid × AnswersLines may_answer mid lines replies new
AnswersLines may_answer old [] (reply ∷ replies) new = ⊥
AnswersLines may_answer old (line ∷ lines) [] new = ⊥

-- the bytes are the text of replies to the lines, from old to new
abbrev pub IsTextOfReplies : {S : Type 0} → (S → Step → Reply → S → Type 0) → (page_bytes : ℕ) → S → List Line → S → List ℕ → Type 0
IsTextOfReplies may_answer page_bytes old lines new bytes = (replies : List Reply) × AnswersLines may_answer old lines replies new × (bytes ≡ text page_bytes replies)
