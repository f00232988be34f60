-- A step as its events, one after another, and the reply that follows.
use Rattle.std.specs.Prelude.{◌≡◌, ℕ, Ok, Err, List, [], ◌∷◌, ◌++◌, length, if◌then◌else◌, nat_lt}
use Rattle.std.specs.Bool.{MatchBool}
use Rattle.std.specs.List.{range_with_len}
use Rattle.hp_model.specs.declared.answer.Answer.TheVariants.{Done, Home as HomeAnswer}
use Rattle.hp_model.specs.declared.refusal.Refusal.{Refusal}
use Rattle.hp_model.specs.declared.refusal.Refusal.TheVariants.{NoSuchSlot}
use Rattle.hp_model.specs.declared.event.Event.{Event}
use Rattle.hp_model.specs.declared.event.Event.TheVariants.{Tasks, Slot as OnSlot, Pool as OnPool}
use Rattle.hp_model.specs.declared.event.TableEvent.TheVariants as table
use Rattle.hp_model.specs.machine.SlotEvent.{SlotEvent}
use Rattle.hp_model.specs.declared.event.SlotEvent.TheVariants as slot
use Rattle.hp_model.specs.declared.event.PoolEvent.TheVariants as pool
use Rattle.hp_model.specs.declared.step.Step.{Step}
use Rattle.hp_model.specs.declared.step.Step.TheVariants.{Connect, Attach, Fork, Exit, Mount, Remount, Umount, Create, Unlink, Truncate, Punch, Preallocate, Read, Ls}
use Rattle.hp_model.specs.declared.step.Step.TheVariants.{Stat, Map, Anon, Unmap, Fault, Load, Store, Nr, Overcommit, Meminfo, Nodes, Df}
use Rattle.hp_model.specs.machine.Event.{IsEvent, has_maps_of}
use Rattle.hp_model.specs.machine.Plan.{Reply}
use Rattle.hp_model.specs.machine.State.{State, slot_at}

-- a reply; or an event, and what its reply leads to; or a choice by whether a task has a map on a slot
pub data Script : Type 0 where
  Answer_with : Reply → Script
  Do : Event → (Reply → Script) → Script
  Where_mapped : (slot task : ℕ) → (mapped other : Script) → Script

-- the event's reply is the step's
abbrev pub only : Event → Script
only e = Do e (λ r. Answer_with r)

-- one event on a slot, if there is one of that number
abbrev pub on_slot : (slots k : ℕ) → SlotEvent → Script
on_slot slots k e = if nat_lt k slots then only (OnSlot k e) else Answer_with (Err NoSuchSlot)

-- what follows where a reply is an answer
abbrev pub when_done : Reply → Script → Script
when_done (Err r) next = Answer_with (Err r)
when_done (Ok a) next = next

abbrev pub home_in : Reply → (ℕ → Script) → Script
home_in (Ok (HomeAnswer home)) f = f home
home_in (Ok other) f = Answer_with (Ok other)
home_in (Err r) f = Answer_with (Err r)

-- find the task, and go on with its home
abbrev pub finding : ℕ → (ℕ → Script) → Script
finding task f = Do (Tasks (table.Find task)) (λ r. home_in r f)

abbrev pub exit_slot : (k task : ℕ) → Script → Script
exit_slot k task next = Where_mapped k task (Do (OnSlot k (slot.ExitMaps task)) (λ r. next)) next

abbrev pub exit_slots : List ℕ → (task : ℕ) → Script → Script
exit_slots [] task next = next
exit_slots (k ∷ ks) task next = exit_slot k task (exit_slots ks task next)

-- a refused fork is undone: the child's maps on the slots that were done go, and then the child
abbrev pub undone : List ℕ → (child : ℕ) → Refusal → Script
undone done child r = exit_slots done child (Do (Tasks (table.Remove child)) (λ reply. Answer_with (Err r)))

abbrev pub or_undone : List ℕ → (child : ℕ) → Reply → Script → Script
or_undone done child (Err r) next = undone done child r
or_undone done child (Ok a) next = next

abbrev pub fork_slots : (slots done : List ℕ) → (parent child : ℕ) → Script
fork_slots [] done parent child = Answer_with (Ok Done)
fork_slots (k ∷ ks) done parent child =
    Where_mapped k parent (Do (OnSlot k (slot.ForkMaps parent child)) (λ r. or_undone done child r (fork_slots ks (done ++ k ∷ []) parent child)))
    (fork_slots ks done parent child)

abbrev pub script : (slots : ℕ) → Step → Script
script n (Connect task home) = only (Tasks (table.Add task home))
script n (Attach task) = only (Tasks (table.Find task))
script n (Fork parent child) = Do (Tasks (table.FindAndAdd parent child)) (λ r. when_done r (fork_slots (range_with_len 0 n) [] parent child))
script n (Exit task) = Do (Tasks (table.Remove task)) (λ r. when_done r (exit_slots (range_with_len 0 n) task (Answer_with (Ok Done))))
script n (Mount k options) = on_slot n k (slot.Mount options)
script n (Remount k options) = on_slot n k (slot.Remount options)
script n (Umount k) = on_slot n k slot.Umount
script n (Create k name) = on_slot n k (slot.Create name)
script n (Unlink k name) = on_slot n k (slot.Unlink name)
script n (Truncate k name pages) = on_slot n k (slot.Truncate name pages)
script n (Punch k name a b) = on_slot n k (slot.Punch name a b)
script n (Preallocate k name a b) = on_slot n k (slot.Preallocate name a b)
script n (Read k name i offset count) = on_slot n k (slot.Read name i offset count)
script n (Ls k) = on_slot n k slot.Ls
script n (Stat k name) = on_slot n k (slot.Stat name)
script n (Map task k name a pages sharing reserving) = finding task (λ home. on_slot n k (slot.Map task home name a pages sharing reserving))
script n (Anon task pages sharing reserving) = finding task (λ home. on_slot n 0 (slot.Anon task home pages sharing reserving))
script n (Unmap task k number a b) = finding task (λ home. on_slot n k (slot.Unmap task number a b))
script n (Fault task k number i intent) = finding task (λ home. on_slot n k (slot.Fault task home number i intent))
script n (Load task k number i offset count) = finding task (λ home. on_slot n k (slot.Load task home number i offset count))
script n (Store task k number i offset bytes) = finding task (λ home. on_slot n k (slot.Store task home number i offset bytes))
script n (Nr pages) = only (OnPool (pool.Nr pages))
script n (Overcommit pages) = only (OnPool (pool.Overcommit pages))
script n Meminfo = only (OnPool pool.Meminfo)
script n Nodes = only (OnPool pool.Nodes)
script n (Df k) = on_slot n k slot.Df

-- ---- a step of one thread

abbrev pub IsScript : State → Script → Reply → State → Type 0
IsScript s (Answer_with r) reply t = (reply ≡ r) × (t ≡ s)
IsScript s (Do e next) reply t = (r : Reply) × (mid : State) × IsEvent s e r mid × IsScript mid (next r) reply t
IsScript s (Where_mapped k task mapped other) reply t = MatchBool (has_maps_of task (slot_at s k)) (IsScript s mapped reply t) (IsScript s other reply t)

-- the step's script was carried out
abbrev pub IsScripted : State → Step → Reply → State → Type 0
IsScripted s step reply t = IsScript s (script (length s.slots) step) reply t

unfoldable pub IsStep : State → Step → Reply → State → Type 0
IsStep s step reply t = IsScripted s step reply t
