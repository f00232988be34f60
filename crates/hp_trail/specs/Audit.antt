-- What an audit answers.
use Rattle.std.specs.Prelude.{◌≡◌, ℕ, List, length, map}
use Rattle.hp_model.specs.declared.entry.Receipt.{Receipt}
use Rattle.hp_model.specs.declared.event.Event.{Event}
use Rattle.hp_model.specs.declared.refusal.Refusal.{Refusal}
use Rattle.hp_model.specs.declared.refusal.Refusal.TheVariants.{OutOfMemory, TrailsDiffer}
use Rattle.hp_model.specs.threads.Differ.{Differ}
use Rattle.hp_model.specs.threads.JointRun.{Trails, Item, event_of, Joins, AreRuns, HasParts, IsJointRun}
use Rattle.hp_model.specs.machine.Plan.{Slot}
use Rattle.hp_model.specs.pool.PoolCounts.{Pool}
use Rattle.hp_model.specs.machine.Settled.{IsSettledState}
use Rattle.hp_model.specs.machine.State.{State}
use Rattle.hp_model.specs.machine.Table.{Table}

-- one order of all events joins the trails and the receipts, and these are its events. Where each
-- trail is a run of its part from a settled state, that order is a run of the machine from there,
-- with the recorded replies, and it ends, settled, where the trails end
pub record IsJointList (t : Trails) (receipts : List (List Receipt))
    (events : List Event) : Type 0 where
  pub items : List Item
  pub joins : Joins t receipts items
  pub answered : map (λ i. (event_of i.entry).0) items ≡ events
  pub run : (s : State) (table : Table) (ends : ℕ → Slot) (numbers : Pool)
      → IsSettledState s → AreRuns s t table ends numbers
      → (end : State) × IsJointRun s t items end × IsSettledState end
      × HasParts end (length s.slots) table ends numbers

-- trails and receipts differ in one of the ways in which they can, and no list joins them
pub record Disagree (t : Trails) (receipts : List (List Receipt)) : Type 0 where
  pub differ : Differ t receipts
  pub none : (items : List Item) → Joins t receipts items → ⊥

-- what is refused disagrees, or memory is
abbrev pub IsUnjoined : Trails → List (List Receipt) → Refusal → Type 0
IsUnjoined t receipts OutOfMemory = Unit {0}
IsUnjoined t receipts TrailsDiffer = Disagree t receipts
IsUnjoined t receipts other = ⊥
