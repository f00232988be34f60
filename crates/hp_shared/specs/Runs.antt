-- Faults of one session through one map that follow one another, all done while the slot's lock is held.
use Rattle.std.specs.Prelude.{◌≡◌, ◌<◌, ℕ, zero, suc, Bool, true, false, Option, None, Some, Ok, List, [], ◌∷◌, ◌++◌, length, replicate}
use Rattle.atomic_table.specs.Seated.{TableId}
use Rattle.hp_history.specs.declared.held.Held.{Held}
use Rattle.hp_history.specs.History.{IsSession, front_of, look_item, number_in, receipts_in}
use Rattle.hp_history.specs.Sections.{entry_with, free_slot, slot_in}
use Rattle.hp_model.specs.declared.answer.Answer.TheVariants.{Done}
use Rattle.hp_model.specs.declared.entry.Receipt.{Receipt}
use Rattle.hp_model.specs.declared.entry.SlotEntry.{SlotEntry}
use Rattle.hp_model.specs.declared.event.SlotEvent.TheVariants.{Fault}
use Rattle.hp_model.specs.declared.service.Access.{Access}
use Rattle.hp_model.specs.declared.step.Intent.{Intent}
use Rattle.hp_model.specs.machine.Plan.{Slot}
use Rattle.hp_model.specs.machine.SlotEvent.{SlotEvent}
use Rattle.hp_model.specs.threads.JointRun.{receipt_of}
use Rattle.hp_events.specs.Answered.{Went}
use Rattle.hp_mount.specs.Running.{reserved_at}
use Rattle.hp_permit.specs.Claim.{Claim}
use Rattle.hp_shared.specs.Seated.{SeatedView, run_in, slot_receipt}

-- the slot, the task, its map and what the faults are for
pub record Faults : Type 0 where
  pub slot : ℕ
  pub task : ℕ
  pub map : ℕ
  pub intent : Intent

abbrev pub faults_of : (slot : ℕ) → Access → Intent → Faults
faults_of slot a intent = record { slot = slot; task = a.task; map = a.map; intent = intent }

abbrev pub fault_in_run : Faults → (home i : ℕ) → SlotEvent
fault_in_run f home i = Fault f.task home f.map i f.intent

-- the slot's trail, and what the session was told
pub record Seats : Type 0 where
  pub run : List SlotEntry
  pub told : List Receipt

-- what a session is told of a task's home
abbrev pub look_receipt : (task home : ℕ) → Receipt
look_receipt task home = receipt_of (look_item task home 0)

-- the task was looked up, and its fault at this index entered its section
abbrev pub fault_entered : Faults → (home place node i : ℕ) → Seats → Seats
fault_entered f home place node i s = record {
  run = s.run ++ entry_with (fault_in_run f home i) (Ok Done) (Some (reserved_at home place node)) ∷ [];
  told = (s.told ++ look_receipt f.task home ∷ []) ++ slot_receipt f.slot (fault_in_run f home i) (Ok Done) (length s.run) ∷ [];
}

-- so did faults at the indices from i on, by pages of these nodes
abbrev pub AreEntered : Faults → (i : ℕ) → List ℕ → Seats → Seats → Type 0
AreEntered f i [] s t = t ≡ s
AreEntered f i (node ∷ nodes) s t = (home : ℕ) × (place : ℕ) × AreEntered f (suc i) nodes (fault_entered f home place node i s) t

-- ---- the door

-- the faults and the index of the first; the session's number; and the nodes of the pages that wait, to which none is added once it is full
pub record RunView : Type 0 where
  pub faults : Faults
  pub index : ℕ
  pub number : ℕ
  pub seats : Seats
  pub waiting : List ℕ
  pub is_full : Bool

-- a door's, by the seats of the slot and of the session
abbrev pub run_view : Access → Intent → (views : List (List Held)) → List Held → (waiting : List ℕ) → (is_full : Bool) → RunView
run_view a intent views v waiting is_full = record {
  faults = faults_of (slot_in (front_of views)) a intent;
  index = a.index;
  number = number_in v;
  seats = record { run = run_in views; told = receipts_in v };
  waiting = waiting;
  is_full = is_full;
}

-- the nodes of the pages of claims, in the order in which they were taken
abbrev pub nodes_in : Option Claim → Option Claim → List ℕ
nodes_in None last = []
nodes_in (Some c) None = replicate c.amount c.node
nodes_in (Some c) (Some d) = replicate c.amount c.node ++ d.node ∷ []

-- some pages of one node, and then one of another
abbrev pub AreClaims : Option Claim → Option Claim → Type 0
AreClaims None None = Unit {0}
AreClaims None (Some d) = ⊥
AreClaims (Some c) None = 0 < c.amount
AreClaims (Some c) (Some d) = (0 < c.amount) × (d.amount ≡ 1)

-- claims that wait: the nodes of their pages, and whether no other has room
pub record TakenView : Type 0 where
  pub nodes : List ℕ
  pub is_full : Bool

-- the seats that a door has: a session's, and a slot's
pub record IsRunDoor (history : TableId) (looks kept : Bool) (mine : TableId) (me : List Held × List (ℕ × Unit {0})) (seat : TableId) (views : List (List Held)) : Type 0 where
  pub looking : looks ≡ true
  pub unkept : kept ≡ false
  pub named : mine ≡ history
  pub session : IsSession me.0
  pub alone : me.1 ≡ []
  pub slot : seat ≡ history
  pub one : views ≡ (free_slot (front_of views) ∷ []) ∷ []

-- the same door once faults of these nodes entered their sections, whatever waits
pub record HasEntered (d : RunView) (nodes : List ℕ) (e : RunView) : Type 0 where
  pub faults : e.faults ≡ d.faults
  pub index : e.index ≡ d.index
  pub number : e.number ≡ d.number
  pub entered : AreEntered d.faults d.index nodes d.seats e.seats

-- a fault at this index more entered its section, and its page waits
pub record IsPageMore (i : ℕ) (d e : RunView) : Type 0 where
  pub home : ℕ
  pub place : ℕ
  pub node : ℕ
  pub faults : e.faults ≡ d.faults
  pub index : e.index ≡ d.index
  pub number : e.number ≡ d.number
  pub seats : e.seats ≡ fault_entered d.faults home place node i d.seats
  pub waiting : e.waiting ≡ d.waiting ++ node ∷ []

-- ---- the slot and the session

pub record SeatedMount : Type 0 where
  pub mount : Slot
  pub seats : Seats

abbrev pub seated_mount : SeatedView → List Held → SeatedMount
seated_mount s v = record { mount = s.slot.mount; seats = record { run = s.run; told = receipts_in v } }

-- the task was looked up, and its fault at this index done by a reservation
pub record IsFaultDone (size : ℕ) (f : Faults) (i : ℕ) (a b : SeatedMount) : Type 0 where
  pub home : ℕ
  pub place : ℕ
  pub node : ℕ
  pub went : Went size f.slot a.mount (fault_in_run f home i) (Ok Done) (Some (reserved_at home place node)) b.mount
  pub seats : b.seats ≡ fault_entered f home place node i a.seats

-- so were faults at so many indices from i on
abbrev pub AreFaultsDone : (size : ℕ) → Faults → (i count : ℕ) → SeatedMount → SeatedMount → Type 0
AreFaultsDone size f i zero a b = b ≡ a
AreFaultsDone size f i (suc n) a b = (mid : SeatedMount) × IsFaultDone size f i a mid × AreFaultsDone size f (suc i) n mid b
