-- What the task table under its lock is to a contract.
use Rattle.std.specs.Prelude.{◌≡◌, ℕ, ◌≤◌, Option, List, [], ◌∷◌, ◌++◌, length}
use Rattle.hp_model.specs.declared.entry.Receipt.{Receipt}
use Rattle.hp_model.specs.declared.entry.TableEntry.{TableEntry}
use Rattle.hp_model.specs.declared.event.TableEvent.{TableEvent}
use Rattle.hp_model.specs.machine.Plan.{Reply}
use Rattle.hp_model.specs.machine.Table.{Table, table_event}
use Rattle.hp_model.specs.Profile.{most_tasks}
use Rattle.hp_model.specs.threads.Closing.{to_remove}
use Rattle.hp_model.specs.threads.JointRun.{InTasks, Item, receipt_of}
use Rattle.hp_model.specs.threads.TableRun.{IsTableRun}
use Rattle.hp_history.specs.History.{IsChange}
use Rattle.hp_history.specs.Sections.{told_more}
use Rattle.hp_history.specs.declared.held.Held.{Held}
use Rattle.hp_history.specs.declared.held.Held.TheVariants.{Tasks}
use Rattle.hp_history.specs.declared.law.Change.{Change}
use Rattle.hp_locked.specs.Views.{HasPlaces, IsTrailOf}
use Rattle.hp_trail.specs.Keeping.{with_entry}

-- ---- the trail that the table's seat has

abbrev pub entries_of_table : List Held → List TableEntry
entries_of_table (Tasks es ∷ hs) = es
entries_of_table hs = []

abbrev pub table_in : List (List Held) → List TableEntry
table_in [] = []
table_in (v ∷ vs) = entries_of_table v

abbrev pub table_view : List (List Held) → List Held
table_view vs = Tasks (table_in vs) ∷ []

abbrev pub table_entry : TableEvent → Reply → TableEntry
table_entry e r = record { event = e; reply = r }

abbrev pub table_item : TableEvent → Reply → (place by : ℕ) → Item
table_item e r place by = record { entry = InTasks (table_entry e r); place = place; by = by }

abbrev pub table_receipt : TableEvent → Reply → (place : ℕ) → Receipt
table_receipt e r place = receipt_of (table_item e r place 0)

abbrev pub table_with : TableEvent → Reply → List TableEntry → Held
table_with e r es = Tasks (es ++ table_entry e r ∷ [])

-- a seat with the table and a session, once the table answered so
abbrev pub table_over : TableEvent → Reply → List Held → List Held
table_over e r v = table_with e r (entries_of_table v) ∷ told_more v (table_receipt e r (length (entries_of_table v))) ∷ []

-- the table of this trail, of so many nodes, answers the event so, and changes by it
abbrev pub IsNext : (nodes : ℕ) → List TableEntry → TableEvent → Reply → Change → Type 0
IsNext nodes es e r change =
    (t : Table) × (u : Table) × IsTableRun nodes [] es t × (table_event nodes t e ≡ (r, u)) × IsChange t u change

-- ---- the table under its lock

-- the tasks, their trail as the history has it, and as it is kept, if it is, with the places left there
pub record TableView : Type 0 where
  pub tasks : Table
  pub run : List TableEntry
  pub entries : Option (List TableEntry)
  pub left : Option ℕ
  pub extra : ℕ

abbrev pub locked_table : Table → List TableEntry → Option (List TableEntry) → Option ℕ → ℕ → TableView
locked_table t run entries left extra = record { tasks = t; run = run; entries = entries; left = left; extra = extra }

-- what holds of the table under its lock: from no task its trail is a run of it that ends in these tasks; and a place is left for the
-- removal of each task
pub record IsLockedTable (nodes : ℕ) (run : List TableEntry) (entries : Option (List TableEntry)) (left : Option ℕ) (extra : ℕ) (t : Table) : Type 0 where
  pub ends : IsTableRun nodes [] run t
  pub kept : IsTrailOf run entries
  pub few : to_remove t ≤ most_tasks
  pub enough : most_tasks ≤ extra
  pub places : HasPlaces left (to_remove t)

-- an event changed the tasks, with this reply, and added its entry
pub record IsTableEventDone (nodes : ℕ) (old new : TableView) (e : TableEvent) (reply : Reply) : Type 0 where
  pub changes : table_event nodes old.tasks e ≡ (reply, new.tasks)
  pub run : new.run ≡ old.run ++ table_entry e reply ∷ []
  pub entries : new.entries ≡ with_entry old.entries (table_entry e reply)
