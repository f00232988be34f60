-- Faults of one session that follow one another, on a slot and in its seats.
use Rattle.std.proofs.Common.{◌≡◌, ℕ, suc, false, None, Some, Ok, Option, is_some, List, [], ◌∷◌, ◌++◌, length, refl, sym, ap, ◌∙◌, subst}
use Rattle.hp_laws.proofs.Variants.{Asked, Done, SlotEntry, SlotEvent}
use Rattle.hp_model.specs.declared.event.SlotEvent.TheVariants.{Fault}
use Rattle.hp_model.specs.declared.step.Intent.TheVariants.{Read}
use Rattle.hp_model.proofs.Words.{IsLocalRun, Reply, Slot}
use Rattle.hp_history.specs.Sections.{entry_with}
use Rattle.hp_events.specs.Answered.{Went}
use Rattle.hp_mount.specs.Running.{AreFaulted, reserved_at}
use Rattle.hp_model.specs.declared.service.Access.{Access}
use Rattle.hp_model.specs.declared.step.Intent.{Intent}
use Rattle.hp_shared.specs.Runs.{AreEntered, AreFaultsDone, Faults, HasEntered, SeatedMount, RunView, Seats, fault_entered, fault_in_run, faults_of}
use Rattle.hp_shared.specs.Slots.{IsLockedSlot, slot_start}
use Rattle.hp_shared.proofs.SlotsKept.{mount_event, slot_push, unnoted_stays, went_acted}

module _ (size : ℕ) (f : Faults) where
  event : ℕ → ℕ → SlotEvent
  event home i = fault_in_run f home i

  -- the slot's steps and what its seats have, step by step
  pub runs : (i : ℕ) (nodes : List ℕ) (m n : Slot) (s t : Seats) → AreFaulted size f.slot f.task f.map i nodes m n → AreEntered f i nodes s t
      → AreFaultsDone size f i (length nodes) (record { mount = m; seats = s }) (record { mount = n; seats = t })
  runs i [] m n s t went same = λ j. record { mount = went j; seats = same j }
  runs i (node ∷ nodes) m n s t (u, faulted, rest) (home, place, more) = (
    record { mount = u; seats = fault_entered f home place node i s },
    record { home = home; place = place; node = node; went = faulted home place f.intent; seats = refl },
    runs (suc i) nodes u n (fault_entered f home place node i s) t rest more,
  )

  -- the trail goes on by them
  pub run_on : (start : Slot) (i : ℕ) (nodes : List ℕ) (m n : Slot) (s t : Seats) → AreFaulted size f.slot f.task f.map i nodes m n → AreEntered f i nodes s t
      → IsLocalRun size f.slot start s.run m → IsLocalRun size f.slot start t.run n
  run_on start i [] m n s t went same is =
      subst (λ (x : Slot). IsLocalRun size f.slot start t.run x) (sym went) (subst (λ (x : Seats). IsLocalRun size f.slot start x.run m) (sym same) is)
  run_on start i (node ∷ nodes) m n s t (u, faulted, rest) (home, place, more) is =
      let goes : Went size f.slot m (fault_in_run f home i) (Ok Done) (Some (reserved_at home place node)) u = faulted home place f.intent in
      run_on start (suc i) nodes u n (fault_entered f home place node i s) t rest more
      (slot_push size f.slot start s.run m (entry_with (fault_in_run f home i) (Ok Done) (Some (reserved_at home place node))) u is
      (mount_event m (fault_in_run f home i) refl, goes.0, goes.1, goes.2))

-- where no entries are kept, the slot keeps its rule
pub locked_on : (size k task map i : ℕ) (o : Option (List SlotEntry)) (left : Option ℕ) (extra : ℕ) → is_some o ≡ false → (nodes : List ℕ) (m n : Slot)
    → AreFaulted size k task map i nodes m n → IsLockedSlot size k o left extra m → IsLockedSlot size k o left extra n
locked_on size k task map i o left extra none [] m n went is = subst (IsLockedSlot size k o left extra) (sym went) is
locked_on size k task map i o left extra none (node ∷ nodes) m n (u, faulted, rest) is =
    let e : SlotEvent = Fault task 0 map i Read in
    let asked : Option Asked = Some (reserved_at 0 0 node) in
    locked_on size k task map (suc i) o left extra none nodes u n rest
    (unnoted_stays ⊥ size k o left extra m e (Ok Done) asked u (went_acted ⊥ size k m e (Ok Done) asked u refl (faulted 0 0 Read)) none (mount_event m e refl) is)

-- ---- by what a door did

module _ (size k : ℕ) (a : Access) (intent : Intent) (nodes : List ℕ) (m n : Slot) (d e : RunView) (faults : d.faults ≡ faults_of k a intent) (index : d.index ≡ a.index)
    (went : AreFaulted size k a.task a.map a.index nodes m n) (taken : HasEntered d nodes e) where
  abbrev f : Faults
  f = faults_of k a intent

  there : AreEntered f a.index nodes d.seats e.seats
  there = subst (λ (g : Faults). AreEntered g a.index nodes d.seats e.seats) faults (subst (λ i. AreEntered d.faults i nodes d.seats e.seats) index taken.entered)

  pub door_runs : AreFaultsDone size f a.index (length nodes) (record { mount = m; seats = d.seats }) (record { mount = n; seats = e.seats })
  door_runs = runs size f a.index nodes m n d.seats e.seats went there

  pub door_run_on : (start : Slot) → IsLocalRun size k start d.seats.run m → IsLocalRun size k start e.seats.run n
  door_run_on start is = run_on size f start a.index nodes m n d.seats e.seats went there is
