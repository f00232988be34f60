-- Loads, stores and faults that were read and wait.
use Rattle.std.specs.Prelude.{◌≡◌, ℕ, List, [], ◌∷◌, ◌++◌, Ok, Option}
use Rattle.std.specs.List.{flat_map}
use Rattle.hp_model.specs.beside.Queue.{QueuedView}
use Rattle.hp_model.specs.declared.fault.RunFault.{RunFault}
use Rattle.hp_model.specs.declared.fault.RunFault.TheVariants.{Write}
use Rattle.hp_model.specs.declared.step.Step.{Step}
use Rattle.hp_model.specs.machine.Plan.{Reply}
use Rattle.hp_model.specs.run.Ran.{AppendsFront}
use Rattle.hp_model.specs.text.Lines.{Line}
use Rattle.hp_model.specs.text.Reading.{step_of}
use Rattle.hp_model.specs.text.Writing.{line_of}
use Rattle.hp_wire.specs.Answered.{AnswersAll, Gains}
use Rattle.hp_wire.specs.Waiting.{Waiting}

-- one more waits, which is this step
abbrev pub IsAdded : Step → (old new : List QueuedView) → Type 0
IsAdded step old new = (q : QueuedView) × (new ≡ old ++ q ∷ []) × (q.step ≡ step)

-- one more waits, as which the line reads
abbrev pub IsLineTaken : Line → (old new : List QueuedView) → Type 0
IsLineTaken line old new = (q : QueuedView) × (new ≡ old ++ q ∷ []) × (step_of line ≡ Ok q.step)

-- the lines read as what waits
abbrev pub AreRead : List Line → List QueuedView → Type 0
AreRead [] [] = Unit {0}
AreRead (l ∷ ls) (q ∷ qs) = (step_of l ≡ Ok q.step) × AreRead ls qs
AreRead ls qs = ⊥

-- the text of what was answered
abbrev pub queued_text : (page : ℕ) → List QueuedView → List ℕ
queued_text page qs = flat_map (λ q. line_of page q.reply) qs

-- with a writer whose known bytes `contents` tells: what is written and what waits, in this order, gained the text
abbrev pub AddsText : {W : Type 0} → (W → Option (List ℕ)) → W → W → Waiting → Waiting → List ℕ → Type 0
AddsText contents before after waiting left text = Gains (contents before) waiting.text (contents after) left.text text

-- a write failed, and a front of what waited and of the text was written
abbrev pub CutsText : {W : Type 0} → (W → Option (List ℕ)) → W → W → Waiting → List ℕ → RunFault → Type 0
CutsText contents before after waiting text fault = (fault ≡ Write) × AppendsFront (contents before) (contents after) (waiting.text ++ text)

-- of these lines the first are answered, and the others wait
pub record TakesLine {S W : Type 0} (may_answer : S → Step → Reply → S → Type 0) (contents : W → Option (List ℕ)) (lines : List Line)
    (old new : S) (before after : W) (waiting left : Waiting) (queue : List QueuedView) : Type 0 where
  pub done : List Line
  pub others : List Line
  pub all : lines ≡ done ++ others
  pub answered : AnswersAll may_answer contents done old new before after waiting left
  pub read : AreRead others queue
