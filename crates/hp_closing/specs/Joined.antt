-- Whether the trails of a machine were joined, and what that tells of its end.
use Rattle.std.specs.Prelude.{◌≡◌, ℕ, Option, Some, List, ◌++◌}
use Rattle.hp_events.specs.Time.{IsFront}
use Rattle.hp_history.specs.Ending.{clocks_of, sessions_from}
use Rattle.hp_history.specs.History.{Each, Ends}
use Rattle.hp_history.specs.declared.held.Held.{Held}
use Rattle.hp_history.specs.declared.law.Shape.{Shape}
use Rattle.hp_model.specs.declared.answer.Counts.{Counts}
use Rattle.hp_model.specs.declared.entry.Receipt.{Receipt}
use Rattle.hp_model.specs.declared.event.Event.{Event}
use Rattle.hp_model.specs.machine.Ready.{Machine}
use Rattle.hp_model.specs.machine.State.{State}
use Rattle.hp_model.specs.threads.JointRun.{Trails as Run}
use Rattle.hp_closing.specs.OneRun.{AreNumbered, all_told}
use Rattle.hp_shared.specs.Ended.{FinishedView}
use Rattle.hp_shared.specs.Sharing.{EndsRuns, entries_of}
use Rattle.hp_shared.specs.declared.shared.Trails.{Trails}
use Rattle.hp_system.specs.Sized.{all_free}
use Rattle.hp_trail.specs.Audit.{IsJointList}

-- trails are there, and these events join them and what the sessions were told
pub record AreJoined (trails : Option Trails) (told : List (List Receipt)) : Type 0 where
  pub given : Trails
  pub are : trails ≡ Some given
  pub events : List Event
  pub joint : IsJointList (entries_of given) told events

-- the trails of a machine and what its sessions were told were joined into these events, which end in it; and once it was
-- closed all its pages were free
pub record WasJoined (s : State) (told : List (List Receipt)) (counts : Counts) : Type 0 where
  pub trails : Run
  pub events : List Event
  pub machine : Machine
  pub ends : EndsRuns s trails machine
  pub joint : IsJointList trails told events
  pub free : counts ≡ all_free machine.state

-- a seat that had these parts has these sessions behind them as well, in the order of their numbers, and in front what they saw of the
-- order of all events, which has all that the seat has
pub record HaveJoined (sh : Shape) (parts : List Held) (sessions : List FinishedView) : Type 0 where
  pub seen : List (List ℕ)
  pub ends : Ends sh (clocks_of seen ++ (parts ++ sessions_from 0 (all_told sessions)))
  pub theirs : (order : List ℕ) → Each (λ bs. IsFront bs order) seen → Each (λ one. IsFront one.seen order) sessions
  pub numbered : AreNumbered 0 sessions
