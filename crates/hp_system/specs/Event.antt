-- An event on a slot, carried out on the slot and the pool, and as a step of the machine.
use Rattle.std.specs.Prelude.{◌≡◌, ℕ, true, List, [], ◌∷◌, length, Ok, Err, Result, None, Some}
use Rattle.std.specs.Bool.{MatchBool}
use Rattle.std.specs.List.{filter, range_with_len}
use Rattle.hp_model.specs.declared.refusal.Refusal.{Refusal}
use Rattle.hp_model.specs.declared.event.Event.TheVariants.{Slot as OnSlot}
use Rattle.hp_model.specs.declared.answer.Answer.TheVariants.{Done}
use Rattle.hp_model.specs.machine.SlotEvent.{SlotEvent}
use Rattle.hp_model.specs.declared.event.SlotEvent.TheVariants.{ExitMaps, Fault, ForkMaps, Load, Store}
use Rattle.hp_model.specs.declared.section.PoolAnswer.{PoolAnswer}
use Rattle.hp_model.specs.declared.section.Section.{Section}
use Rattle.hp_model.specs.declared.service.Access.{Access}
use Rattle.hp_model.specs.declared.step.Intent.{Intent}
use Rattle.hp_model.specs.beside.Accesses.{done_reply}
use Rattle.hp_model.specs.files.File.{Mount}
use Rattle.hp_model.specs.machine.Event.{IsEvent, IsFresh, has_maps_of}
use Rattle.hp_model.specs.threads.LocalRun.{ThroughDoor}
use Rattle.hp_model.specs.machine.Plan.{Choice, Reply, Slot, gives}
use Rattle.hp_model.specs.pool.Pool.{section}
use Rattle.hp_model.specs.pool.PoolCounts.{Pool}
use Rattle.hp_model.specs.machine.SlotEvent.{slot_event}
use Rattle.hp_model.specs.machine.State.{State, slot_at}
use Rattle.hp_model.specs.machine.Step.{IsScript, Script, exit_slots, finding, fork_slots, on_slot, undone}

-- the pool by itself: a section gives its answer, and leaves the pool
abbrev pub took : Pool → Section → PoolAnswer → Pool → Type 0
took p s a q = section p s ≡ (a, q)

-- the event's plan, with some fresh stamp, was answered so, and left that slot and pool
abbrev pub IsCarried : (size k : ℕ) (p : Pool) (old : Slot) → SlotEvent → Reply → (new : Slot) (q : Pool) → Type 0
IsCarried size k p old e reply new q =
    (c : Choice) × IsFresh c old × ThroughDoor took (slot_event size k c old e) old p reply new q

-- the machine did the event on the slot of that number, if it is there
abbrev pub DoesOnSlot : State → (k : ℕ) → SlotEvent → Reply → State → Type 0
DoesOnSlot s k e reply t = IsScript s (on_slot (length s.slots) k e) reply t

-- and that of a task with its home, if the task is there
abbrev pub DoesOfTask : State → (task k : ℕ) → (ℕ → SlotEvent) → Reply → State → Type 0
DoesOfTask s task k e reply t = IsScript s (finding task (λ home. on_slot (length s.slots) k (e home))) reply t

-- the task's maps on these slots went, slot after slot: whatever follows that, follows here
abbrev pub AreExited : State → List ℕ → (task : ℕ) → State → Type 0
AreExited s ks task t = (next : Script) (reply : Reply) (u : State) → IsScript t next reply u → IsScript s (exit_slots ks task next) reply u

-- the slots below n where the task has maps
abbrev pub mapped_slots : State → (n task : ℕ) → List ℕ
mapped_slots s n task = filter (λ k. has_maps_of task (slot_at s k)) (range_with_len 0 n)

-- the parent's maps on a slot, if it has any there, are the child's as well
abbrev pub IsForkedOn : State → (k parent child : ℕ) → Result (Unit {0}) Refusal → State → Type 0
IsForkedOn s k parent child result t =
    MatchBool (has_maps_of parent (slot_at s k)) (IsEvent s (OnSlot k (ForkMaps parent child)) (done_reply result) t) ((done_reply result ≡ Ok Done) × (t ≡ s))

-- a fork on all slots; refused, the child's maps are gone again, and only the child is left to go
abbrev pub AreForked : State → (parent child : ℕ) → Result (Unit {0}) Refusal → State → Type 0
AreForked s parent child (Ok forked) t = IsScript s (fork_slots (range_with_len 0 (length s.slots)) [] parent child) (Ok Done) t
AreForked s parent child (Err r) t =
    (reply : Reply) (u : State) → IsScript t (undone [] child r) reply u → IsScript s (fork_slots (range_with_len 0 (length s.slots)) [] parent child) reply u

-- the maps of a task, which had some, went from a mount and through the pool by itself
pub record IsExit (task : ℕ) (m : Mount) (p : Pool) (n : Mount) (q : Pool) : Type 0 where
  pub some : has_maps_of task (Some m) ≡ true
  pub carried : (size k : ℕ) → IsCarried size k p (Some m) (ExitMaps task) (Ok Done) (Some n) q

-- and those of these tasks, one task after another
abbrev pub Exits : List ℕ → (m : Mount) (p : Pool) (n : Mount) (q : Pool) → Type 0
Exits [] m p n q = (n ≡ m) × (q ≡ p)
Exits (task ∷ tasks) m p n q = (mid : Mount) × (r : Pool) × IsExit task m p mid r × Exits tasks mid r n q

abbrev pub AllExit : (m : Mount) (p : Pool) (n : Mount) (q : Pool) → Type 0
AllExit m p n q = (tasks : List ℕ) × Exits tasks m p n q

-- a slot's mount went with all that it has: its maps, and then its files with the minimum
abbrev pub SlotGoes : Slot → (p q : Pool) → Type 0
SlotGoes None p q = q ≡ p
SlotGoes (Some m) p q =
    (last : Mount) × (r : Pool) × AllExit m p last r × ThroughDoor took (gives Done (Some last) None) (Some last) r (Ok Done) None q

-- and those of all these slots, the last of them first
abbrev pub AllGo : List Slot → (p q : Pool) → Type 0
AllGo [] p q = q ≡ p
AllGo (slot ∷ slots) p q = (r : Pool) × AllGo slots p r × SlotGoes slot r q

-- the event of a load of so many bytes, of a store and of a fault, of a task with that home
abbrev pub load_event : Access → (count home : ℕ) → SlotEvent
load_event a count home = Load a.task home a.map a.index a.offset count

abbrev pub store_event : Access → List ℕ → (home : ℕ) → SlotEvent
store_event a bytes home = Store a.task home a.map a.index a.offset bytes

abbrev pub fault_event : Access → Intent → (home : ℕ) → SlotEvent
fault_event a intent home = Fault a.task home a.map a.index intent
