-- What all sessions were told, as one run of the machine.
use Rattle.std.specs.Prelude.{◌≡◌, ℕ, ◌+◌, List, [], ◌∷◌, length, map}
use Rattle.hp_events.specs.Time.{IsFront}
use Rattle.hp_history.specs.Ending.{Told, by_at, event_at, item_of}
use Rattle.hp_history.specs.History.{Each}
use Rattle.hp_model.specs.declared.answer.Counts.{Counts}
use Rattle.hp_model.specs.declared.entry.Receipt.{Receipt}
use Rattle.hp_model.specs.machine.Event.{IsEventRun}
use Rattle.hp_model.specs.machine.Ready.{Machine}
use Rattle.hp_model.specs.machine.Settled.{IsSettledState}
use Rattle.hp_model.specs.machine.State.{State, slot_at}
use Rattle.hp_model.specs.threads.JointRun.{HasParts, IsTold}
use Rattle.hp_shared.specs.Ended.{FinishedView}
use Rattle.hp_system.specs.Sized.{all_free}

-- what each of them was told
abbrev pub all_told : List FinishedView → List (List Receipt)
all_told sessions = map (λ one. one.receipts) sessions

-- they stand in the order of their numbers, from n on
abbrev pub AreNumbered : (n : ℕ) → List FinishedView → Type 0
AreNumbered n [] = Unit {0}
AreNumbered n (one ∷ more) = (one.number ≡ n) × AreNumbered (n + 1) more

-- There is one order of all events, look-ups of tasks among them. It is what the sessions were told: each receipt in its session's
-- order, each once, and no others. Whatever a session saw of the order at any time is a front of it. It is a run of the machine from
-- this state, with the replies that were told, and ends, settled, with the parts of this machine
pub record IsOneRun (s : State) (sessions : List FinishedView) (m : Machine) : Type 0 where
  pub numbered : AreNumbered 0 sessions
  pub all : List Told
  pub are_told : IsTold (all_told sessions) (map item_of all)
  pub seen_first : Each (λ one. IsFront one.seen (map by_at all)) sessions
  pub end : State
  pub run : IsEventRun s (map event_at all) end
  pub settled : IsSettledState end
  pub parts : HasParts end (length s.slots) m.state.table (slot_at m.state) m.pool

-- it ended in a machine whose pages were all free, with these counts, once it was closed
pub record WasOneRun (s : State) (sessions : List FinishedView) (counts : Counts) : Type 0 where
  pub machine : Machine
  pub run : IsOneRun s sessions machine
  pub free : counts ≡ all_free machine.state
