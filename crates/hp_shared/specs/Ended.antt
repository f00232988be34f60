-- The end of the machine that threads shared: what its history has then.
use Rattle.std.specs.Prelude.{◌≡◌, ℕ, ◌<◌, ◌-◌, ◌^◌, Bool, true, Option, Some, List, [], ◌∷◌, ◌++◌, length}
use Rattle.atomic_table.specs.Seated.{TableId}
use Rattle.hp_model.specs.declared.entry.Receipt.{Receipt}
use Rattle.hp_model.specs.declared.entry.SlotEntry.{SlotEntry}
use Rattle.hp_model.specs.machine.Plan.{Slot}
use Rattle.hp_model.specs.machine.Ready.{Machine}
use Rattle.hp_model.specs.machine.State.{State}
use Rattle.hp_model.specs.threads.JointRun.{Trails as Run}
use Rattle.hp_history.specs.declared.held.Held.{Held}
use Rattle.hp_history.specs.declared.held.Held.TheVariants.{Tasks, Pool, Opener}
use Rattle.hp_history.specs.History.{front_of, held_from, receipts_in}
use Rattle.hp_history.specs.Sections.{session_view}
use Rattle.hp_history.specs.History.{number_in}
use Rattle.hp_shared.specs.Sharing.{AreGathered, EndsRuns, entries_of}
use Rattle.hp_shared.specs.declared.shared.Trails.{Trails}

-- a count of 64 bits, which stays at its most: below that it is exact
abbrev pub most_count : ℕ
most_count = 2 ^ 64 - 1

abbrev pub IsCount : (count exact : ℕ) → Type 0
IsCount count exact = count < most_count → exact ≡ count

-- it is not at its most, and so many
abbrev pub IsExactly : (count exact : ℕ) → Type 0
IsExactly count exact = (count < most_count) × (count ≡ exact)

-- a session that is over: its number, what it was told, and what it saw of the order of all events
pub record FinishedView : Type 0 where
  pub number : ℕ
  pub receipts : List Receipt
  pub seen : List ℕ

-- its seat has the session alone; where receipts are kept they are what it was told
pub record IsFinished (kept : Bool) (history : TableId) (number : ℕ) (receipts : List Receipt) (id : TableId) (views : List (List Held)) : Type 0 where
  pub count : IsCount number (number_in (front_of views))
  pub named : id ≡ history
  pub one : views ≡ (session_view (front_of views) ∷ []) ∷ []
  pub told : kept ≡ true → receipts ≡ receipts_in (front_of views)

-- a seat that had these parts has the slots as well, with their trails, which are runs of them that end in these mounts; and they
-- are what is kept, if any is
pub record AreSlotsJoined (keeps : Bool) (size : ℕ) (kept : List (List SlotEntry)) (mounts : List Slot) (was now : List Held) : Type 0 where
  pub trails : List (List SlotEntry)
  pub runs : AreGathered size trails mounts
  pub parts : now ≡ was ++ held_from 0 trails
  pub same : keeps ≡ true → kept ≡ trails

-- the seat has the trails of all parts, which are runs of these from this state to this machine, and it has opened so many sessions;
-- where trails are kept they are given, and are these
pub record HasEnded (keeps : Bool) (s : State) (slots : ℕ) (m : Machine) (given : Option Trails) (sessions : ℕ) (seat : List Held) : Type 0 where
  pub trails : Run
  pub opened : ℕ
  pub parts : seat ≡ Tasks trails.tasks ∷ Pool trails.pool ∷ Opener opened ∷ held_from 0 trails.slots
  pub ends : EndsRuns s trails m
  pub long : slots ≡ length trails.slots
  pub kept : keeps ≡ true → (t : Trails) × (given ≡ Some t) × (entries_of t ≡ trails)
  pub count : IsCount sessions opened
