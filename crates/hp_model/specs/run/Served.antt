-- Runs over an input.
use Rattle.std.specs.Prelude.{◌≡◌, ◌≤◌, ℕ, ◌+◌, List, [], take, length, Option, Result, Ok, Err, zero, suc, ◌∷◌, ◌⊎◌, nat_le, if◌then◌else◌, codes}
use Rattle.std.specs.List.{flat_map}
use Rattle.hp_model.specs.Profile.{most_input_bytes, most_line_bytes}
use Rattle.hp_model.specs.text.Text.{AnswersLines}
use Rattle.hp_model.specs.text.Writing.{line_of, text}
use Rattle.hp_model.specs.declared.refusal.Refusal.{Refusal}
use Rattle.hp_model.specs.declared.refusal.Refusal.TheVariants.{BadLine, LineTooLong}
use Rattle.hp_model.specs.machine.Plan.{Reply}
use Rattle.hp_model.specs.text.Lines.{lines, ended_lines}
use Rattle.hp_model.specs.declared.step.Step.{Step}
use Rattle.std.specs.Io.KnownBytes.{Appends, Consumes}
use Rattle.hp_model.specs.declared.fault.RunFault.{RunFault}
use Rattle.hp_model.specs.declared.fault.RunFault.TheVariants.{Memory, Read, Write, TooLong}
use Rattle.hp_model.specs.run.Ran.{Ran, RanInPart}

-- what the input ends in without a newline is refused, by how many bytes of it are held
abbrev pub unended_by : ℕ → List Refusal
unended_by zero = []
unended_by (suc n) = (if nat_le (suc n) most_line_bytes then BadLine else LineTooLong) ∷ []

abbrev pub text_of_refusals : ℕ → List Refusal → List ℕ
text_of_refusals page refusals = flat_map (λ refusal. line_of page (Err refusal)) refusals

-- What a run leaves, from what was read and how it ended.
abbrev pub Serves : {S : Type 0} → (S → Step → Reply → S → Type 0) → ℕ → S → S → Option (List ℕ) → Option (List ℕ) → List ℕ → Result ℕ RunFault → Type 0
-- the input is within the limit, all lines are answered, and the text of the replies is written
Serves may_answer page old new before after input (Ok count) =
    Ran may_answer page old (lines input) new before after × (count ≡ length (lines input)) × (length input ≤ most_input_bytes)
-- nothing is read, answered or written
Serves may_answer page old new before after input (Err Memory) = (input ≡ []) × (new ≡ old) × (after ≡ before)
-- the lines that ended are answered, and the text of the replies is written
Serves may_answer page old new before after input (Err Read) = Ran may_answer page old (ended_lines input) new before after
-- so far as lines ended within the limit
Serves may_answer page old new before after input (Err TooLong) = (length input ≡ most_input_bytes + 1) × Ran may_answer page old (ended_lines (take most_input_bytes input)) new before after
-- the steps that were done stand, and a front of the text of their replies is written
Serves may_answer page old new before after input (Err Write) = RanInPart may_answer page old (lines input) new before after

-- Some input was read, and the run leaves of it what `Serves` says. What a reader has left and what was written, as far as
-- that is known, is told by `remaining` and `contents`.
abbrev pub ServesInput : {S R W : Type 0} → (S → Step → Reply → S → Type 0) → (S → ℕ) → (R → Option (List ℕ)) → (W → Option (List ℕ))
    → S → S → R → R → W → W → Result ℕ RunFault → Type 0
ServesInput may_answer page remaining contents old new unread left before after ended =
    (input : List ℕ) × Consumes (remaining unread) (remaining left) input
    × Serves may_answer (page old) old new (contents before) (contents after) input ended

-- there are replies to the lines of the input, one after another, and what was written is their text
abbrev pub AnswersInput : {S : Type 0} → (S → Step → Reply → S → Type 0) → (page : ℕ) → (input : List ℕ) → S → S → Option (List ℕ) → Option (List ℕ) → Type 0
AnswersInput may_answer page input old new before after =
    (replies : List Reply) × AnswersLines may_answer old (lines input) replies new × Appends before after (text page replies)

-- what is said of the end of a run
abbrev pub text_of_fault : RunFault → List ℕ
text_of_fault Memory = codes "out of memory"
text_of_fault Read = codes "read failed"
text_of_fault Write = codes "write failed"
text_of_fault TooLong = codes "input too long"

-- a run ended for want of memory, or at the limit of an input
abbrev pub IsMemoryOrTooLong : RunFault → Type 0
IsMemoryOrTooLong fault = (fault ≡ Memory) ⊎ (fault ≡ TooLong)
