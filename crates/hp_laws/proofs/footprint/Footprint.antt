-- Each step of a settled machine has the footprint that is told of it.
use Rattle.std.proofs.Common.{◌≡◌, subst, ℕ, true, Ok, Err}
use Rattle.std.proofs.lemmas.Bool.{eqb-true}
use Rattle.hp_laws.proofs.Variants.{Answer, Event, Pool as OnPool, Reserving, Sharing, Slot as OnSlot, Tasks}
use Rattle.hp_model.specs.declared.event.PoolEvent.TheVariants as pool
use Rattle.hp_model.specs.declared.event.SlotEvent.TheVariants as slot
use Rattle.hp_model.specs.declared.event.TableEvent.TheVariants as table
use Rattle.hp_model.specs.declared.step.Step.{Step}
use Rattle.hp_model.specs.declared.step.Step.TheVariants as step
use Rattle.hp_model.proofs.Words.{IsEvent, IsScripted, IsSettledState, IsStep, Reply, State}
use Rattle.hp_laws.specs.Laws.{FootprintIsKept}
use Rattle.hp_laws.proofs.steps.Whole.{by_event, is_whole, step_of}
use Rattle.hp_model.specs.machine.Footprint.{Changes, HasFootprint}
use Rattle.hp_laws.proofs.footprint.Accesses.{fault_changes, load_changes, store_changes}
use Rattle.hp_laws.proofs.footprint.Endings.{punch_changes, umount_changes, unlink_changes, unmap_changes}
use Rattle.hp_laws.proofs.footprint.IdleSteps.{event_idle, exit_idle, fork_idle}
use Rattle.hp_laws.proofs.footprint.Makings.{anon_changes, map_changes}
use Rattle.hp_laws.proofs.footprint.Mountings.{mount_changes, remount_changes}
use Rattle.hp_laws.proofs.footprint.Preallocations.{preallocate_changes}
use Rattle.hp_laws.proofs.footprint.Refusals.{early_refuses, event_refuses, exit_refuses, fork_refuses}
use Rattle.hp_laws.proofs.footprint.SmallSteps.{attach_changes, connect_changes, create_changes, df_changes, ls_changes, meminfo_changes, nodes_changes, nr_changes, overcommit_changes}
use Rattle.hp_laws.proofs.footprint.SmallSteps.{read_changes, stat_changes}
use Rattle.hp_laws.proofs.footprint.Truncates.{truncate_changes}
use Rattle.hp_laws.proofs.footprint.Walks.{exit_changes, fork_changes}

module _ (s : State) (st : IsSettledState s) where
  anon_on : (k task home n : ℕ) (sharing : Sharing) (reserving : Reserving) (a : Answer) (t : State) → k ≡ 0 → IsEvent s (OnSlot k (slot.Anon task home n sharing reserving)) (Ok a) t
      → Changes s (step.Anon task n sharing reserving) a t
  anon_on k task home n sharing reserving a t e is =
      anon_changes s task home n sharing reserving a t (subst (λ j. IsEvent s (OnSlot j (slot.Anon task home n sharing reserving)) (Ok a) t) e is)

  event_changes : (e : Event) (a : Answer) (t : State) → is_whole e ≡ true → IsEvent s e (Ok a) t → Changes s (step_of e) a t
  event_changes (Tasks (table.Add task home)) a t whole is = connect_changes s task home a t is
  event_changes (Tasks (table.Find task)) a t whole is = attach_changes s task a t is
  event_changes (Tasks (table.FindAndAdd parent child)) a t whole is = cc
  event_changes (Tasks (table.Remove task)) a t whole is = cc
  event_changes (OnPool (pool.Nr n)) a t whole is = nr_changes s n a t is
  event_changes (OnPool (pool.Overcommit n)) a t whole is = overcommit_changes s n a t is
  event_changes (OnPool pool.Meminfo) a t whole is = meminfo_changes s a t is
  event_changes (OnPool pool.Nodes) a t whole is = nodes_changes s a t is
  event_changes (OnSlot k (slot.Mount options)) a t whole is = mount_changes s k options a t is
  event_changes (OnSlot k (slot.Remount options)) a t whole is = remount_changes s k options a t is
  event_changes (OnSlot k slot.Umount) a t whole is = umount_changes s k a t is
  event_changes (OnSlot k (slot.Create name)) a t whole is = create_changes s k name a t is
  event_changes (OnSlot k (slot.Unlink name)) a t whole is = unlink_changes s k name a t is
  event_changes (OnSlot k (slot.Truncate name n)) a t whole is = truncate_changes s st k name n a t is
  event_changes (OnSlot k (slot.Punch name from to)) a t whole is = punch_changes s k name from to a t is
  event_changes (OnSlot k (slot.Preallocate name from to)) a t whole is = preallocate_changes s k name from to a t is
  event_changes (OnSlot k (slot.Read name i offset count)) a t whole is = read_changes s k a t name i offset count is
  event_changes (OnSlot k slot.Ls) a t whole is = ls_changes s k a t is
  event_changes (OnSlot k (slot.Stat name)) a t whole is = stat_changes s k a t name is
  event_changes (OnSlot k slot.Df) a t whole is = df_changes s k a t is
  event_changes (OnSlot k (slot.Map task home name from n sharing reserving)) a t whole is = map_changes s k task home from n sharing reserving name a t is
  event_changes (OnSlot k (slot.Anon task home n sharing reserving)) a t whole is = anon_on k task home n sharing reserving a t (eqb-true k 0 whole) is
  event_changes (OnSlot k (slot.Unmap task number from to)) a t whole is = unmap_changes s task k number from to a t is
  event_changes (OnSlot k (slot.Fault task home number i intent)) a t whole is = fault_changes s st k task number i home intent a t is
  event_changes (OnSlot k (slot.Load task home number i offset count)) a t whole is = load_changes s st k task number i home offset count a t is
  event_changes (OnSlot k (slot.Store task home number i offset bytes)) a t whole is = store_changes s st k task number i home offset bytes a t is
  event_changes (OnSlot k (slot.ForkMaps parent child)) a t whole is = cc
  event_changes (OnSlot k (slot.ExitMaps task)) a t whole is = cc

  event_footprint : (e : Event) (reply : Reply) (t : State) → is_whole e ≡ true → IsEvent s e reply t → HasFootprint s (step_of e) reply t
  event_footprint e (Ok a) t whole is = (event_changes e a t whole is, event_idle s st e a t is)
  event_footprint e (Err r) t whole is = event_refuses s st e r t whole is

  pub fork_footprint : (parent child : ℕ) (reply : Reply) (t : State) → IsScripted s (step.Fork parent child) reply t → HasFootprint s (step.Fork parent child) reply t
  fork_footprint parent child (Ok a) t is = (fork_changes parent child s a t is, fork_idle s st parent child a t is)
  fork_footprint parent child (Err r) t is = fork_refuses s st parent child r t is

  pub exit_footprint : (task : ℕ) (reply : Reply) (t : State) → IsScripted s (step.Exit task) reply t → HasFootprint s (step.Exit task) reply t
  exit_footprint task (Ok a) t is = (exit_changes s task a t is, exit_idle s st task a t is)
  exit_footprint task (Err r) t is = exit_refuses s st task r t is

  pub step_footprint : (x : Step) (reply : Reply) (t : State) → IsStep s x reply t → HasFootprint s x reply t
  step_footprint x reply t is =
      by_event s (λ x reply t. HasFootprint s x reply t) (λ x r early. early_refuses s st x r early) event_footprint fork_footprint exit_footprint reply t x is

pub footprint : FootprintIsKept
footprint s x reply t st is = step_footprint s st x reply t is
