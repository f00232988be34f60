-- Loads, stores and faults, by the task's home, by its slot and by what the mount did.
use Rattle.std.proofs.Common.{◌≡◌, ℕ, ◌<◌, ◌≤◌, List, length, Err, Some, None, refl, sym, ap, ◌∙◌, subst, IsTrue, slice_index_or, slice_set}
use Rattle.hp_laws.proofs.Variants.{Access, Intent, NoSuchSlot, NoSuchTask, SlotEvent, Step}
use Rattle.hp_model.proofs.Words.{IsPromised, IsReadyMachine, IsStep, Machine, Pool, Reply, Script, Slot, State, Table, fault_step, home_of, is_slot_event, load_step, machine_of, on_slot, state_of}
use Rattle.hp_model.proofs.Words.{store_step}
use Rattle.hp_mount_laws.specs.Done.{IsDone}
use Rattle.hp_system.specs.Event.{DoesOfTask, fault_event, load_event, store_event, took}
use Rattle.hp_system.specs.Sized.{IsSized}
use Rattle.hp_laws.proofs.promises.Promised.{promised}
use Rattle.hp_system.proofs.Carries.{calm}
use Rattle.hp_system.proofs.MachineSteps.{done_on, past_slots, task_found, task_not_found}

-- a step is this event of a task, with its home, on a slot
pub record IsAccess (step : Step) (task k : ℕ) (e : ℕ → SlotEvent) : Type 0 where
  pub does : (s t : State) (reply : Reply) → DoesOfTask s task k e reply t → IsStep s step reply t
  pub happens : (home : ℕ) (x : Slot) → IsTrue (is_slot_event x (e home))
  pub bare : (bytes home : ℕ) (p : Pool) → IsDone took (λ d. ⊥) bytes k None p (e home) (Err NoSuchSlot) None p

pub load_is : (a : Access) (count : ℕ) → IsAccess (load_step a count) a.task a.slot (load_event a count)
unfolding IsStep
load_is a count = record { does = λ s t reply h. h; happens = λ home x. refl; bare = λ bytes home p. (calm, refl, ((refl, refl), refl)) }

pub store_is : (a : Access) (bytes : List ℕ) → IsAccess (store_step a bytes) a.task a.slot (store_event a bytes)
unfolding IsStep
store_is a bytes = record { does = λ s t reply h. h; happens = λ home x. refl; bare = λ size home p. (calm, refl, ((refl, refl), refl)) }

pub fault_is : (a : Access) (intent : Intent) → IsAccess (fault_step a intent) a.task a.slot (fault_event a intent)
unfolding IsStep
fault_is a intent = record { does = λ s t reply h. h; happens = λ home x. refl; bare = λ bytes home p. (calm, refl, ((refl, refl), refl)) }

-- a step was done as promised, and the machine is ready for the next
pub record IsEnded (m : Machine) (asked : Step) (reply : Reply) (n : Machine) : Type 0 where
  pub step : IsStep m.state asked reply n.state
  pub promised : IsPromised m.state asked reply n.state
  pub ready : IsReadyMachine n

module _ {size bytes : ℕ} {t : Table} {xs : List Slot} {p : Pool} {m : Machine} (sized : IsSized size bytes) (is : machine_of size t xs p ≡ m) (r : IsReadyMachine m)
    {step : Step} {task k : ℕ} {e : ℕ → SlotEvent} (it : IsAccess step task k e) where
  abbrev next : ℕ → Script
  next home = on_slot (length m.state.slots) k (e home)

  s_is : state_of size t xs p ≡ m.state
  s_is = ap (λ (x : Machine). x.state) is

  ended : (reply : Reply) (n : Machine) → DoesOfTask m.state task k e reply n.state → IsReadyMachine n → IsEnded m step reply n
  ended reply n h ready = (let done = it.does m.state n.state reply h in
      record { step = done; promised = promised m.state step reply n.state r.settled done; ready = ready })

  pub of_nobody : home_of t task ≡ None → IsEnded m step (Err NoSuchTask) m
  of_nobody unknown = ended (Err NoSuchTask) m (task_not_found m.state task next (ap (λ (s : State). home_of s.table task) (sym s_is) ∙ unknown)) r

  module _ (home : ℕ) (known : home_of t task ≡ Some home) where
    known_there : home_of m.state.table task ≡ Some home
    known_there = ap (λ (s : State). home_of s.table task) (sym s_is) ∙ known

    pub of_no_slot : length xs ≤ k → IsEnded m step (Err NoSuchSlot) m
    of_no_slot past =
        let many : length m.state.slots ≤ k = subst (λ (s : State). length s.slots ≤ k) s_is past in
        ended (Err NoSuchSlot) m (task_found m.state task m.state home next (Err NoSuchSlot) known_there (past_slots m.state k (e home) many)) r

    module _ (within : k < length xs) (x : Slot) (read : x ≡ slice_index_or xs k x) where
      pub of_mount : (old new : Slot) (q : Pool) (reply : Reply) (did : SlotEvent) → x ≡ old → did ≡ e home → IsDone took (λ d. ⊥) bytes k old p did reply new q
          → IsEnded m step reply (machine_of size t (slice_set xs k new) q)
      of_mount old new q reply did was same done =
          let on = done_on is k within x read sized r new q (e home) reply (it.happens home x)
          (rw was (subst (λ (d : SlotEvent). IsDone took (λ d. ⊥) bytes k old p d reply new q) same done)) in
          ended reply (machine_of size t (slice_set xs k new) q) (task_found m.state task (state_of size t (slice_set xs k new) q) home next reply known_there on.script) on.ready

      pub of_none : x ≡ None → IsEnded m step (Err NoSuchSlot) (machine_of size t (slice_set xs k x) p)
      of_none none = of_mount None x p (Err NoSuchSlot) (e home) none refl (rw none (it.bare bytes home p))
