-- From events to steps: what the one event of a step does is what the step does. A fork and an exit are several events.
use Rattle.std.proofs.Common.{arith, ◌≡◌, ⊎_elim, subst, ℕ, ◌==◌, Bool, true, false, Err, length, refl, sym}
use Rattle.hp_laws.proofs.Variants.{Anon, Attach, Connect, Create, Df, Event, Exit, Fault, Fork, Load, Ls, Map, Meminfo, Mount, NoSuchSlot, NoSuchTask, Nodes, Nr, Overcommit, Pool as OnPool}
use Rattle.hp_laws.proofs.Variants.{Preallocate, Punch, Refusal, Remount, Slot as OnSlot, SlotEvent, Stat, Step, Store, Tasks, Truncate, Umount, Unlink, Unmap}
use Rattle.hp_model.specs.declared.event.PoolEvent.TheVariants as pool
use Rattle.hp_model.specs.declared.event.SlotEvent.TheVariants as slot
use Rattle.hp_model.specs.declared.event.TableEvent.TheVariants as table
use Rattle.hp_model.specs.declared.step.Step.TheVariants.{Read}
use Rattle.hp_model.proofs.Words.{IsEvent, IsScript, IsScripted, IsStep, Reply, State, finding, is_for_pages, on_slot, only}
use Rattle.hp_laws.proofs.steps.Outcomes.{IsLeft, finding_goes, only_goes, slot_goes}

-- ---- the step of an event

-- the event is all of its step; the files of anonymous maps are on slot 0
abbrev pub is_whole : Event → Bool
is_whole (Tasks (table.FindAndAdd parent child)) = false
is_whole (Tasks (table.Remove task)) = false
is_whole (OnSlot k (slot.ForkMaps parent child)) = false
is_whole (OnSlot k (slot.ExitMaps task)) = false
is_whole (OnSlot k (slot.Anon task home pages sharing reserving)) = k == 0
is_whole other = true

abbrev pub slot_step : ℕ → SlotEvent → Step
slot_step k (slot.Mount options) = Mount k options
slot_step k (slot.Remount options) = Remount k options
slot_step k slot.Umount = Umount k
slot_step k (slot.Create name) = Create k name
slot_step k (slot.Unlink name) = Unlink k name
slot_step k (slot.Truncate name pages) = Truncate k name pages
slot_step k (slot.Punch name a b) = Punch k name a b
slot_step k (slot.Preallocate name a b) = Preallocate k name a b
slot_step k (slot.Read name i offset count) = Read k name i offset count
slot_step k slot.Ls = Ls k
slot_step k (slot.Stat name) = Stat k name
slot_step k slot.Df = Df k
slot_step k (slot.Map task home name a pages sharing reserving) = Map task k name a pages sharing reserving
slot_step k (slot.Anon task home pages sharing reserving) = Anon task pages sharing reserving
slot_step k (slot.Unmap task number a b) = Unmap task k number a b
slot_step k (slot.Fault task home number i intent) = Fault task k number i intent
slot_step k (slot.Load task home number i offset count) = Load task k number i offset count
slot_step k (slot.Store task home number i offset bytes) = Store task k number i offset bytes
slot_step k (slot.ForkMaps parent child) = Fork parent child
slot_step k (slot.ExitMaps task) = Exit task

-- the step that the event is of
abbrev pub step_of : Event → Step
step_of (Tasks (table.Add task home)) = Connect task home
step_of (Tasks (table.Find task)) = Attach task
step_of (Tasks (table.FindAndAdd parent child)) = Fork parent child
step_of (Tasks (table.Remove task)) = Exit task
step_of (OnSlot k e) = slot_step k e
step_of (OnPool (pool.Nr pages)) = Nr pages
step_of (OnPool (pool.Overcommit pages)) = Overcommit pages
step_of (OnPool pool.Meminfo) = Meminfo
step_of (OnPool pool.Nodes) = Nodes

-- ---- refused before any event changes anything

abbrev pub is_early : Refusal → Bool
is_early NoSuchSlot = true
is_early NoSuchTask = true
is_early other = false

pub early_pages : (r : Refusal) → is_early r ≡ true → is_for_pages r ≡ false
early_pages r early = grind arith

-- ---- what holds of each event holds of each step

module _ (s : State) (P : Step → Reply → State → Type 0) (early : (step : Step) (r : Refusal) → is_early r ≡ true → P step (Err r) s)
    (done : (e : Event) (reply : Reply) (t : State) → is_whole e ≡ true → IsEvent s e reply t → P (step_of e) reply t)
    (forks : (parent child : ℕ) (reply : Reply) (t : State) → IsScripted s (Fork parent child) reply t → P (Fork parent child) reply t)
    (exits : (task : ℕ) (reply : Reply) (t : State) → IsScripted s (Exit task) reply t → P (Exit task) reply t) (reply : Reply) (t : State) where
  by_left : (step : Step) (r : Refusal) → is_early r ≡ true → IsLeft s r reply t → P step reply t
  by_left step r is left = subst (λ x. P step x t) (sym left.replied) (subst (λ x. P step (Err r) x) (sym left.same) (early step r is))

  by_only : (e : Event) → is_whole e ≡ true → IsScript s (only e) reply t → P (step_of e) reply t
  by_only e whole is = done e reply t whole (only_goes s e reply t is)

  by_slot : (k : ℕ) (e : SlotEvent) → is_whole (OnSlot k e) ≡ true → IsScript s (on_slot (length s.slots) k e) reply t → P (slot_step k e) reply t
  by_slot k e whole is =
      ⊎_elim (λ left. by_left (slot_step k e) NoSuchSlot refl left) (λ it. done (OnSlot k e) reply t whole it) (slot_goes s (length s.slots) k e reply t is)

  by_task : (step : Step) (k task : ℕ) (e : ℕ → SlotEvent) → ((home : ℕ) → is_whole (OnSlot k (e home)) ≡ true) → ((home : ℕ) → slot_step k (e home) ≡ step)
      → IsScript s (finding task (λ home. on_slot (length s.slots) k (e home))) reply t → P step reply t
  by_task step k task e whole same is =
      ⊎_elim (λ left. by_left step NoSuchTask refl left) (λ found. subst (λ x. P x reply t) (same found.0) (by_slot k (e found.0) (whole found.0) found.1))
      (finding_goes s task (λ home. on_slot (length s.slots) k (e home)) reply t is)

  pub by_script : (step : Step) → IsScripted s step reply t → P step reply t
  by_script (Connect task home) is = by_only (Tasks (table.Add task home)) refl is
  by_script (Attach task) is = by_only (Tasks (table.Find task)) refl is
  by_script (Fork parent child) is = forks parent child reply t is
  by_script (Exit task) is = exits task reply t is
  by_script (Mount k options) is = by_slot k (slot.Mount options) refl is
  by_script (Remount k options) is = by_slot k (slot.Remount options) refl is
  by_script (Umount k) is = by_slot k slot.Umount refl is
  by_script (Create k name) is = by_slot k (slot.Create name) refl is
  by_script (Unlink k name) is = by_slot k (slot.Unlink name) refl is
  by_script (Truncate k name pages) is = by_slot k (slot.Truncate name pages) refl is
  by_script (Punch k name a b) is = by_slot k (slot.Punch name a b) refl is
  by_script (Preallocate k name a b) is = by_slot k (slot.Preallocate name a b) refl is
  by_script (Read k name i offset count) is = by_slot k (slot.Read name i offset count) refl is
  by_script (Ls k) is = by_slot k slot.Ls refl is
  by_script (Stat k name) is = by_slot k (slot.Stat name) refl is
  by_script (Map task k name a pages sharing reserving) is =
      by_task (Map task k name a pages sharing reserving) k task (λ home. slot.Map task home name a pages sharing reserving) (λ home. refl) (λ home. refl) is
  by_script (Anon task pages sharing reserving) is =
      by_task (Anon task pages sharing reserving) 0 task (λ home. slot.Anon task home pages sharing reserving) (λ home. refl) (λ home. refl) is
  by_script (Unmap task k number a b) is = by_task (Unmap task k number a b) k task (λ home. slot.Unmap task number a b) (λ home. refl) (λ home. refl) is
  by_script (Fault task k number i intent) is =
      by_task (Fault task k number i intent) k task (λ home. slot.Fault task home number i intent) (λ home. refl) (λ home. refl) is
  by_script (Load task k number i offset count) is =
      by_task (Load task k number i offset count) k task (λ home. slot.Load task home number i offset count) (λ home. refl) (λ home. refl) is
  by_script (Store task k number i offset bytes) is =
      by_task (Store task k number i offset bytes) k task (λ home. slot.Store task home number i offset bytes) (λ home. refl) (λ home. refl) is
  by_script (Nr pages) is = by_only (OnPool (pool.Nr pages)) refl is
  by_script (Overcommit pages) is = by_only (OnPool (pool.Overcommit pages)) refl is
  by_script Meminfo is = by_only (OnPool pool.Meminfo) refl is
  by_script Nodes is = by_only (OnPool pool.Nodes) refl is
  by_script (Df k) is = by_slot k slot.Df refl is

  pub by_event : (step : Step) → IsStep s step reply t → P step reply t
  unfolding IsStep
  by_event step is = by_script step is
