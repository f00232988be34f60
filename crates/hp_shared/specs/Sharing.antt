-- The machine that threads share, to a contract, and the trails that it ends with.
use Rattle.std.specs.Prelude.{◌≡◌, ℕ, ◌<◌, ◌≤◌, Bool, None, List, [], length, not}
use Rattle.std.specs.List.{All, slice_index_or}
use Rattle.hp_model.specs.declared.entry.SlotEntry.{SlotEntry}
use Rattle.hp_model.specs.machine.Plan.{Slot}
use Rattle.hp_model.specs.machine.State.{State, slot_at}
use Rattle.hp_model.specs.threads.JointRun.{AreRuns, Trails as Run}
use Rattle.hp_model.specs.threads.LocalRun.{IsLocalRun}
use Rattle.hp_model.specs.Profile.{most_frames, most_page_bytes, most_slots}
use Rattle.hp_history.specs.declared.law.Shape.{Shape}
use Rattle.hp_locked.specs.Views.{frames_list}
use Rattle.hp_shared.specs.Slots.{slot_start}
use Rattle.hp_model.specs.machine.Ready.{Machine, machine_of}
use Rattle.hp_trail.specs.Walk.{trails_of}
use Rattle.hp_shared.specs.declared.shared.Trails.{Trails}

-- what no thread changes: the bytes of a page, and how many slots there are
pub record SharedView : Type 0 where
  pub page_size : ℕ
  pub slots : ℕ

pub record IsSharedMachine (keeps : Bool) (bytes : ℕ) (frames : ℕ → ℕ) (sh : Shape) (s : SharedView) : Type 0 where
  pub size : s.page_size ≡ bytes
  pub some : 0 < s.page_size
  pub most : s.page_size ≤ most_page_bytes
  pub any : 0 < s.slots
  pub few : s.slots ≤ most_slots
  pub nodes : length (frames_list frames) ≤ 4
  pub small : All (λ f. f ≤ most_frames) (frames_list frames)
  -- the history has the machine's shape, and homes are looked up in its words where no entries are kept
  pub shape : sh ≡ record { slots = s.slots; nodes = length (frames_list frames); looks = not keeps }

-- each slot's trail is a run of it, from its start to this mount
pub record AreGathered (size : ℕ) (trails : List (List SlotEntry)) (mounts : List Slot) : Type 0 where
  pub count : length trails ≡ length mounts
  pub runs : (k : ℕ) → k < length mounts
      → IsLocalRun size k (slot_start k) (slice_index_or trails k []) (slice_index_or mounts k None)

-- each trail is a run of its part, from that of this state to that of the machine
pub record EndsRuns (s : State) (t : Run) (m : Machine) : Type 0 where
  pub runs : AreRuns s t m.state.table (slot_at m.state) m.pool
  pub count : length m.state.slots ≡ length s.slots
  pub parts : m ≡ machine_of m.state.page_size m.state.table m.state.slots m.pool

-- the entries of all parts
abbrev pub entries_of : Trails → Run
entries_of t = trails_of t.tasks.items t.slots.items t.pool.items
