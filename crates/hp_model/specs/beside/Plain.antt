-- The machine with one choice made: memory is never refused, and a new stamp is the least that is unused.
use Rattle.std.specs.Prelude.{ℕ, true, false, Result, Ok, Err, List, [], ◌∷◌, length}
use Rattle.hp_model.specs.declared.refusal.Refusal.{Refusal}
use Rattle.hp_model.specs.machine.Event.{after, stamps_in, has_maps_of}
use Rattle.hp_model.specs.text.Lines.{Line, lines}
use Rattle.hp_model.specs.Lists.{least_unused}
use Rattle.hp_model.specs.machine.Plan.{Reply, Choice}
use Rattle.hp_model.specs.text.Reading.{step_of}
use Rattle.hp_model.specs.machine.State.{State, slot_at}
use Rattle.hp_model.specs.machine.Step.{Script, Answer_with, Do, Where_mapped, script}
use Rattle.hp_model.specs.text.Writing.{text}
use Rattle.hp_model.specs.declared.event.Event.{Event}
use Rattle.hp_model.specs.declared.event.Event.TheVariants.{Tasks, Slot as OnSlot, Pool as OnPool}
use Rattle.hp_model.specs.declared.step.Step.{Step}

abbrev pub plain_choice : State → Event → Choice
plain_choice s (Tasks e) = record { stamp = 0; refused = false; after_grant = false }
plain_choice s (OnSlot k e) = record { stamp = least_unused (stamps_in (slot_at s k)); refused = false; after_grant = false }
plain_choice s (OnPool e) = record { stamp = 0; refused = false; after_grant = false }

-- how the machine chooses at an event
abbrev pub Chooser : Type 0
Chooser = State → Event → Choice

abbrev pub script_by : Chooser → Script → State → Reply × State
script_by choose (Answer_with r) s = (r, s)
script_by choose (Do e next) s = let q : Reply × State = after (choose s e) s e in script_by choose (next q.0) q.1
script_by choose (Where_mapped k task mapped other) s =
    elim (has_maps_of task (slot_at s k)) [ true ↦ script_by choose mapped s | false ↦ script_by choose other s ]

abbrev pub step_by : Chooser → State → Step → Reply × State
step_by choose s step = script_by choose (script (length s.slots) step) s

-- the replies, in order
abbrev pub run_by : Chooser → State → List Step → List Reply
run_by choose s [] = []
run_by choose s (step ∷ steps) = let q : Reply × State = step_by choose s step in q.0 ∷ run_by choose q.1 steps

abbrev pub plain_event : State → Event → Reply × State
plain_event s e = after (plain_choice s e) s e

abbrev pub plain_step : State → Step → Reply × State
plain_step s step = step_by plain_choice s step

abbrev pub plain_run : State → List Step → List Reply
plain_run s steps = run_by plain_choice s steps

-- ---- over text

-- a line's reply: a step by the machine, and a refusal by itself
abbrev pub line_by : Chooser → State → Result Step Refusal → Reply × State
line_by choose s (Ok step) = step_by choose s step
line_by choose s (Err refusal) = (Err refusal, s)

abbrev pub lines_by : Chooser → State → List Line → List Reply
lines_by choose s [] = []
lines_by choose s (line ∷ lines) = let q : Reply × State = line_by choose s (step_of line) in q.0 ∷ lines_by choose q.1 lines

-- what is written where this is read
abbrev pub plain_text : State → List ℕ → List ℕ
plain_text s input = text s.page_size (lines_by plain_choice s (lines input))
