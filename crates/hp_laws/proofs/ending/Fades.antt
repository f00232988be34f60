-- What a script keeps whose events on slots only end maps of one task: a fork's, or an exit's.
use Rattle.std.proofs.Common.{◌≡◌, subst, ℕ, Ok, Err, List, [], ◌∷◌, ◌++◌, refl, sym, arith}
use Rattle.std.specs.List.{range_with_len}
use Rattle.hp_laws.proofs.Variants.{Done, Event, Exit, Fork, Refusal, Slot as OnSlot, Tasks}
use Rattle.hp_model.specs.declared.event.SlotEvent.TheVariants as slot
use Rattle.hp_model.proofs.Words.{Answer_with, Do, IsEvent, IsScript, IsScripted, Reply, Script, State}
use Rattle.hp_model.proofs.Words.{Where_mapped, exit_slots, fork_slots, has_maps_of, or_undone, script, slot_at}
use Rattle.hp_model.proofs.Words.{undone, when_done, mapped}
use Rattle.hp_laws.proofs.steps.Outcomes.{either_way}

-- the event is of the task table, or ends maps of the task
abbrev pub IsOf : ℕ → Event → Type 0
IsOf gone (Tasks e) = Unit {0}
IsOf gone (OnSlot k (slot.ExitMaps task)) = task ≡ gone
IsOf gone (OnSlot k (slot.ForkMaps parent child)) = child ≡ gone
IsOf gone e = ⊥

module _ (gone : ℕ) where
  -- ---- scripts

  abbrev pub AllOf : Script → Type 0
  AllOf (Answer_with r) = Unit {0}
  AllOf (Do e next) = IsOf gone e × ((r : Reply) → AllOf (next r))
  AllOf (Where_mapped k task mapped other) = AllOf mapped × AllOf other

  -- what holds of each such event, and of one after another, holds of the script
  pub script_keeps : (R : State → State → Type 0) → ((s : State) → R s s) → ((s m t : State) → R s m → R m t → R s t)
      → ((s : State) (e : Event) (reply : Reply) (t : State) → IsOf gone e → IsEvent s e reply t → R s t)
      → (c : Script) → AllOf c → (s : State) (reply : Reply) (t : State) → IsScript s c reply t → R s t
  script_keeps R same then each (Answer_with r) all s reply t is = subst (λ x. R s x) (sym is.1) (same s)
  script_keeps R same then each (Do e next) all s reply t is =
      then s is.1 t (each s e is.0 is.1 all.0 is.2) (script_keeps R same then each (next is.0) (all.1 is.0) is.1 reply t is.3)
  script_keeps R same then each (Where_mapped k task mapped other) all s reply t is =
      either_way (has_maps_of task (slot_at s k)) (λ it. script_keeps R same then each mapped all.0 s reply t it) (λ it. script_keeps R same then each other all.1 s reply t it) is

  exits_of : (ks : List ℕ) (next : Script) → AllOf next → AllOf (exit_slots ks gone next)
  exits_of [] next all = all
  exits_of (k ∷ ks) next all = ((refl, λ r. exits_of ks next all), exits_of ks next all)

  undone_of : (done : List ℕ) (r : Refusal) → AllOf (undone done gone r)
  undone_of done r = exits_of done _ (tt, λ reply. tt)

  or_of : (done : List ℕ) (r : Reply) (next : Script) → AllOf next → AllOf (or_undone done gone r next)
  or_of done r next all = grind (arith, undone_of)

  forks_of : (ks done : List ℕ) (parent : ℕ) → AllOf (fork_slots ks done parent gone)
  forks_of [] done parent = tt
  forks_of (k ∷ ks) done parent = ((refl, λ r. or_of done r (fork_slots ks (done ++ k ∷ []) parent gone) (forks_of ks (done ++ k ∷ []) parent)), forks_of ks done parent)

  when_of : (r : Reply) (next : Script) → AllOf next → AllOf (when_done r next)
  when_of r next all = grind arith

-- ---- fork and exit

pub fork_of : (n parent child : ℕ) → AllOf child (script n (Fork parent child))
fork_of n parent child = (tt, λ r. when_of child r (fork_slots (range_with_len 0 n) [] parent child) (forks_of child (range_with_len 0 n) [] parent))

pub exit_of : (n task : ℕ) → AllOf task (script n (Exit task))
exit_of n task = (tt, λ r. when_of task r (exit_slots (range_with_len 0 n) task (Answer_with (Ok Done))) (exits_of task (range_with_len 0 n) (Answer_with (Ok Done)) tt))

pub exits_done : (task : ℕ) (r : Refusal) (t : State) (ks : List ℕ) (s : State) → IsScript s (exit_slots ks task (Answer_with (Ok Done))) (Err r) t → ⊥
exits_done task r t [] s is = (let never : Err r ≡ Ok Done = is.0 in cc)
exits_done task r t (k ∷ ks) s is = either_way (has_maps_of task (slot_at s k)) (λ it. exits_done task r t ks it.1 it.3) (λ it. exits_done task r t ks s it) is

-- what a refused exit left is as it was
pub exit_refused : (s : State) (task : ℕ) (r : Refusal) (t : State) → IsScripted s (Exit task) (Err r) t → t ≡ s
exit_refused s task r t is = grind (arith, exits_done)
