-- A run of steps by one thread.
use Rattle.std.specs.Prelude.{◌≡◌, List, [], ◌∷◌}
use Rattle.hp_model.specs.declared.step.Step.{Step}
use Rattle.hp_model.specs.machine.Plan.{Reply}
use Rattle.hp_model.specs.machine.State.{State}
use Rattle.hp_model.specs.machine.Step.{IsStep}

-- the steps are answered by these replies, one after another, each as R says
abbrev pub RunsBy : (State → Step → Reply → State → Type 0) → State → List Step → List Reply → State → Type 0
RunsBy R s [] [] t = s ≡ t
RunsBy R s (step ∷ steps) (reply ∷ replies) t = (mid : State) × R s step reply mid × RunsBy R mid steps replies t
RunsBy R s [] (reply ∷ replies) t = ⊥
RunsBy R s (step ∷ steps) [] t = ⊥

-- a run of the machine
abbrev pub IsRun : State → List Step → List Reply → State → Type 0
IsRun s steps replies t = RunsBy IsStep s steps replies t
