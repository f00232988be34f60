-- Faults that follow one another in a queue, and what a session is told of them.
use Rattle.std.specs.Prelude.{◌≡◌, ℕ, zero, suc, Ok, List, [], ◌∷◌}
use Rattle.hp_model.specs.beside.Queue.{QueuedView}
use Rattle.hp_model.specs.declared.answer.Answer.TheVariants.{Done}
use Rattle.hp_model.specs.declared.entry.Receipt.{Receipt}
use Rattle.hp_model.specs.declared.step.Step.{Step}
use Rattle.hp_model.specs.declared.step.Step.TheVariants.{Fault}
use Rattle.hp_events.specs.Queues.{IsFoundAndHanded}
use Rattle.hp_shared.specs.Runs.{Faults, fault_in_run}

-- the fault at this index, as a step
abbrev pub fault_at : Faults → (i : ℕ) → Step
fault_at f i = Fault f.task f.slot f.map i f.intent

-- these wait: faults at the indices from i on
abbrev pub AreFaultsOf : Faults → (i : ℕ) → List QueuedView → Type 0
AreFaultsOf f i [] = Unit {0}
AreFaultsOf f i (q ∷ qs) = (q.step ≡ fault_at f i) × AreFaultsOf f (suc i) qs

-- faults at so many indices from i on: each task was found, and then its fault done
abbrev pub AreFaultsHanded : (size at : ℕ) → Faults → (i count : ℕ) → (was now : List Receipt) → Type 0
AreFaultsHanded size at f i zero was now = now ≡ was
AreFaultsHanded size at f i (suc n) was now = (between : List Receipt)
    × IsFoundAndHanded size at f.task (λ home. fault_in_run f home i) (Ok Done) was between × AreFaultsHanded size at f (suc i) n between now
