-- The order of all events respects time.
use Rattle.std.specs.Prelude.{◌≡◌, ◌⊎◌, ℕ, ◌<◌, ◌≤◌, List, [], ◌∷◌, length, map}
use Rattle.hp_events.specs.Time.{IsFront, made}
use Rattle.hp_history.specs.Ending.{by_at}
use Rattle.hp_history.specs.History.{place_in}
use Rattle.hp_model.specs.machine.Ready.{Machine}
use Rattle.hp_model.specs.machine.State.{State}
use Rattle.hp_sessions.specs.Calls.{IsTimed, SessionView}
use Rattle.hp_shared.specs.Ended.{FinishedView}
use Rattle.hp_closing.specs.OneRun.{IsOneRun}

abbrev pub IsOneOf : FinishedView → List FinishedView → Type 0
IsOneOf one [] = ⊥
IsOneOf one (x ∷ xs) = (x ≡ one) ⊎ IsOneOf one xs

-- what a session saw, with all events of its calls so far (`Session::show`)
abbrev pub IsShown : SessionView → List ℕ → Type 0
IsShown session seen = made session.clock.number seen ≡ length session.receipts

-- a call of this session
pub record IsCallOf (one : FinishedView) (begins ends : SessionView) : Type 0 where
  pub timed : IsTimed begins ends
  pub number : ends.clock.number ≡ one.number
  pub seen : IsFront ends.clock.seen one.seen

-- What a session had been answered, and what was known of it when a call of another began, by whatever way it came there: each of its
-- events stands before each event of the call, and before all that come behind that, in the order that is the run of the machine
abbrev pub AnsweredFirst : Type 0
AnsweredFirst =
    (s : State) (sessions : List FinishedView) (m : Machine) (run : IsOneRun s sessions m) (answered : SessionView) (seen : List ℕ) → IsShown answered seen
    → (one : FinishedView) → IsOneOf one sessions → (begins ends : SessionView) → (call : IsCallOf one begins ends) → IsFront seen call.timed.start
    → (at to : ℕ) → at < length answered.receipts → length begins.receipts ≤ to → to < made one.number (map by_at run.all)
    → place_in answered.clock.number at (map by_at run.all) < place_in one.number to (map by_at run.all)
