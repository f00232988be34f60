-- An event of a slot that tells nothing answers that it is done, and so do a fork and an exit.
use Rattle.std.proofs.Common.{arith, ◌≡◌, ℕ, Bool, true, false, None, Some, Ok, Err, List, [], ◌∷◌, ◌++◌, length, refl}
use Rattle.std.specs.List.{range_with_len}
use Rattle.hp_laws.proofs.Variants.{Answer, Done, Intent, MountFull, OutOfMemory, Refusal, SlotEvent, Write}
use Rattle.hp_model.specs.declared.event.SlotEvent.TheVariants as slot
use Rattle.hp_model.specs.declared.step.Step.TheVariants as step
use Rattle.hp_model.proofs.Words.{Answer_with, Answered, Choice, IsScript, IsScripted, Mount, Outcome, Plan, Refused, Reply, Slot, Spot, State, access, byte_access, byte_tests, continued, edited}
use Rattle.hp_model.proofs.Words.{exit_slots, fork_slots, has_maps_of, is_full}
use Rattle.hp_model.proofs.Words.{lacking, or_undone, range_filled, rise, rising_nodes, forked, punched, slot_at, slot_event, truncated, unentered, unlinked, unmapped_from, when_done}
use Rattle.hp_model.proofs.Words.{without_task, with_file, written}
use Rattle.hp_laws.proofs.accesses.EndsDone.{fault_done}
use Rattle.hp_laws.proofs.accesses.SlotShows.{always_fill, always_gives, always_mount, always_remounting, always_unless}
use Rattle.hp_laws.proofs.keeping.SettingsKept.{undone_refused}
use Rattle.hp_laws.proofs.steps.Outcomes.{Always, always_then, either_way}
use Rattle.hp_laws.proofs.steps.Walk.{Walks, walk_all, tells_all}

-- ---- events of a slot

-- it answers a number, names or bytes
abbrev pub tells : SlotEvent → Bool
tells slot.Df = true
tells slot.Ls = true
tells (slot.Stat name) = true
tells (slot.Read name i offset count) = true
tells (slot.Map task home name a n sharing reserving) = true
tells (slot.Anon task home n sharing reserving) = true
tells (slot.Load task home number i offset count) = true
tells other = false

abbrev pub SaysDone : SlotEvent → Outcome → Type 0
SaysDone e (Refused r) = Unit {0}
SaysDone e (Answered a new) = tells e ≡ false → a ≡ Done

always_any : (P : Outcome → Type 0) → ((o : Outcome) → P o) → (p : Plan) → Always P p
always_any P h p = grind arith

told : (e : SlotEvent) → tells e ≡ true → (o : Outcome) → SaysDone e o
told e is (Refused r) = tt
told e is (Answered a new) = λ not_told. (let never : true ≡ false = cc in cc)

all_tell : (e : SlotEvent) → tells_all e ≡ true → tells e ≡ true
all_tell e is = grind arith

module _ (size k : ℕ) (c : Choice) (m : Mount) where
  access_done : (Q : Outcome → Type 0) → ((r : Refusal) → Q (Refused r)) → ((n : Mount) → Q (Answered Done (Some n))) → (s : Spot) (home i : ℕ) (intent : Intent)
      → Always Q (access c size m s home i intent)
  access_done Q stops done s home i intent = grind arith

  bytes_done : (Q : Outcome → Type 0) → ((r : Refusal) → Q (Refused r)) → ((n : Mount) → Q (Answered Done (Some n))) → (s : Spot) (home i offset count : ℕ) (intent : Intent)
      → Always Q (byte_access c size m home i offset count intent s)
  bytes_done Q stops done s home i offset count intent =
      always_unless Q stops (byte_tests size i offset count s) (access c size m s home i intent) (access_done Q stops done s home i intent)

  walks : Walks size k c m (λ e p. Always (SaysDone e) p)
  walks = record {
    refuses = λ e r. tt;
    whole = λ name a b q named no. refl;
    tells = λ e a is. told e (all_tell e is) (Answered a (Some m));
    reads = λ name i offset count bytes few. (λ no. cc);
    creates = λ name none no. refl;
    unlinks = λ name q named. always_gives (SaysDone (slot.Unlink name)) Done (Some m) (edited m q.0 (unlinked q.1)) (λ no. refl);
    truncates = λ name n q named. always_gives (SaysDone (slot.Truncate name n)) Done (Some m) (edited m q.0 (truncated n q.1)) (λ no. refl);
    punches = λ name a b q named. always_gives (SaysDone (slot.Punch name a b)) Done (Some m) (edited m q.0 (punched a b q.1)) (λ no. refl);
    fills = λ name a b q named. always_fill (SaysDone (slot.Preallocate name a b)) (λ r. tt) ((is_full m (unentered a b q.1), MountFull) ∷ (c.refused, OutOfMemory) ∷ [])
        (rise m (unentered a b q.1)) (lacking a b q.1) (λ pages. Answered Done (Some (with_file m q.0 (range_filled size a b (rising_nodes (lacking a b q.1) pages) q.1)))) (λ pages no. refl);
    maps = λ task home name a n sharing reserving q named few. always_any (SaysDone (slot.Map task home name a n sharing reserving)) (told (slot.Map task home name a n sharing reserving) refl) _;
    anons = λ task home n sharing reserving few. always_any (SaysDone (slot.Anon task home n sharing reserving)) (told (slot.Anon task home n sharing reserving) refl) _;
    unmaps = λ task number a b. always_gives (SaysDone (slot.Unmap task number a b)) Done (Some m) (Some (unmapped_from task number a b m)) (λ no. refl);
    forks = λ parent child few. always_gives (SaysDone (slot.ForkMaps parent child)) Done (Some m) (Some (forked parent child m)) (λ no. refl);
    exits = λ task. always_gives (SaysDone (slot.ExitMaps task)) Done (Some m) (Some (without_task task m)) (λ no. refl);
    faults = λ task number s found home i intent. fault_done (SaysDone (slot.Fault task home number i intent)) (λ r. tt) (λ n no. refl) c size m s home i intent;
    loads = λ task number s found home i offset count. always_any (SaysDone (slot.Load task home number i offset count)) (told (slot.Load task home number i offset count) refl) _;
    stores = λ task number s found home i offset bytes.
        (let e : SlotEvent = slot.Store task home number i offset bytes in
        let writes : Mount → Outcome = λ n. Answered Done (Some (written n s i offset bytes)) in
        always_then (λ o. SaysDone e (continued writes o)) (SaysDone e) writes (λ o h. h) (byte_access c size m home i offset (length bytes) Write s)
        (bytes_done (λ o. SaysDone e (continued writes o)) (λ r. tt) (λ n no. refl) s home i offset (length bytes) Write));
  }

pub slot_says : (size k : ℕ) (c : Choice) (old : Slot) (e : SlotEvent) → Always (SaysDone e) (slot_event size k c old e)
slot_says size k c None (slot.Mount options) = always_mount (SaysDone (slot.Mount options)) (λ r. tt) (λ l no. refl) c size options
slot_says size k c None e = tt
slot_says size k c (Some m) e =
    walk_all size k c m (λ e p. Always (SaysDone e) p) (walks size k c m)
    (λ options. always_remounting (SaysDone (slot.Remount options)) (λ r. tt) m (λ l no. refl) size options)
    (always_gives (SaysDone slot.Umount) Done (Some m) None (λ no. refl)) e

-- ---- a fork and an exit

abbrev pub IsDone : Reply → Type 0
IsDone (Ok a) = a ≡ Done
IsDone (Err r) = Unit {0}

exits_say : (task : ℕ) (a : Answer) (t : State) (ks : List ℕ) (s : State) → IsScript s (exit_slots ks task (Answer_with (Ok Done))) (Ok a) t → a ≡ Done
exits_say task a t [] s is = (let same : Ok a ≡ Ok Done = is.0 in cc)
exits_say task a t (k ∷ ks) s is = either_way (has_maps_of task (slot_at s k)) (λ it. exits_say task a t ks it.1 it.3) (λ it. exits_say task a t ks s it) is

pub exit_says : (s : State) (task : ℕ) (reply : Reply) (t : State) → IsScripted s (step.Exit task) reply t → IsDone reply
exit_says s task (Err r) t is = tt
exit_says s task (Ok a) t is = by_reply is.0 is.3
  where
    by_reply : (r : Reply) → IsScript is.1 (when_done r (exit_slots (range_with_len 0 (length s.slots)) task (Answer_with (Ok Done)))) (Ok a) t → a ≡ Done
    by_reply (Err r) it = (let never : Ok a ≡ Err r = it.0 in cc)
    by_reply (Ok b) it = exits_say task a t (range_with_len 0 (length s.slots)) is.1 it

forks_say : (parent child : ℕ) (a : Answer) (t : State) (ks done : List ℕ) (s : State) → IsScript s (fork_slots ks done parent child) (Ok a) t → a ≡ Done
forks_say parent child a t [] done s is = (let same : Ok a ≡ Ok Done = is.0 in cc)
forks_say parent child a t (k ∷ ks) done s is =
    either_way (has_maps_of parent (slot_at s k)) (λ it. goes it.0 it.1 it.3 (λ go. forks_say parent child a t ks (done ++ k ∷ []) it.1 go)) (λ it. forks_say parent child a t ks done s it) is
  where
    goes : (q : Reply) (v : State) → IsScript v (or_undone done child q (fork_slots ks (done ++ k ∷ []) parent child)) (Ok a) t
        → (IsScript v (fork_slots ks (done ++ k ∷ []) parent child) (Ok a) t → a ≡ Done) → a ≡ Done
    goes (Err r) v it rest = absurd (undone_refused done child r a v t it)
    goes (Ok b) v it rest = rest it

pub fork_says : (s : State) (parent child : ℕ) (reply : Reply) (t : State) → IsScripted s (step.Fork parent child) reply t → IsDone reply
fork_says s parent child (Err r) t is = tt
fork_says s parent child (Ok a) t is = by_reply is.0 is.3
  where
    by_reply : (r : Reply) → IsScript is.1 (when_done r (fork_slots (range_with_len 0 (length s.slots)) [] parent child)) (Ok a) t → a ≡ Done
    by_reply (Err r) it = (let never : Ok a ≡ Err r = it.0 in cc)
    by_reply (Ok b) it = forks_say parent child a t (range_with_len 0 (length s.slots)) [] is.1 it
