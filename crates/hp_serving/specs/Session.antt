-- A session over a connection.
use Rattle.std.specs.Prelude.{ℕ, List, Option, Result}
use Rattle.hp_model.specs.declared.step.Step.{Step}
use Rattle.hp_model.specs.machine.Plan.{Reply}
use Rattle.hp_model.specs.declared.fault.RunFault.{RunFault}
use Rattle.hp_wire.specs.Reading.{HasCause, Reading, ServesRead}

-- A session that was just opened answered the lines that were read, up to an end that has its cause, and was told this. So what was
-- written are the lines of the replies that its calls gave, as far as `Serves` says for that end. What is left to read, what was
-- read, and what was written before and after, is said as far as it is known.
abbrev pub IsServed : {S T : Type 0} → (S → Type 0) → (S → T → Type 0) → (S → Step → Reply → S → Type 0) → (S → ℕ)
    → Reading → Reading → Option (List ℕ) → Option (List ℕ) → (over failed broken : Type 0) → T → Type 0
IsServed {S} is_opened was_told may_answer page unread left before after over failed broken told =
    (opened : S) × (finished : S) × (ended : Result ℕ RunFault) × is_opened opened × was_told finished told
    × ServesRead may_answer (page opened) opened finished unread left before after ended × HasCause over failed broken ended
