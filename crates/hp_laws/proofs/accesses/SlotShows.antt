-- What a slot's files show after a file or a map is made, a load and a store, and what a load answers.
use Rattle.std.proofs.Common.{arith, ◌≡◌, ℕ, ◌<◌, Bool, true, not, Option, None, Some, Result as ResultOf, Ok, Err, List, [], length, refl}
use Rattle.std.proofs.Common.{if◌then◌else◌}
use Rattle.hp_laws.proofs.Variants.{Answer, Done, FillPages, Intent, Limits, NoPages, NoSuchMap, OutOfMemory, Read, Refusal}
use Rattle.hp_model.specs.declared.event.SlotEvent.TheVariants as slot
use Rattle.hp_model.proofs.Words.{Answered, Ask, Choice, Mount, Outcome, Plan, Refused, Slot, Spot, access, again, byte_access, bytes_answer}
use Rattle.hp_model.proofs.Words.{continued, gives, grant, granted, is_map, limits, load}
use Rattle.hp_model.proofs.Words.{mount_on, mount_outcome, remount, remount_outcome, remount_tests}
use Rattle.hp_model.proofs.Words.{slot_event, spot, spot_on, unless, value, wanted_of, when_granted, with_value}
use Rattle.hp_model.specs.machine.Footprint.{There}
use Rattle.hp_laws.proofs.counts.MountMoves.{IsSpot, spot_is}
use Rattle.hp_laws.proofs.steps.Outcomes.{Always, always_then, outcome_if}
use Rattle.hp_laws.proofs.accesses.Shown.{On, Same, read_same}
use Rattle.hp_laws.proofs.steps.Walk.{plan_unless, plan_value, remounting}

-- ---- outcomes that may be a refusal

pub always_unless : (P : Outcome → Type 0) → ((r : Refusal) → P (Refused r)) → (ts : List (Bool × Refusal)) (p : Plan) → Always P p → Always P (unless ts p)
always_unless P stops ts p h = plan_unless (Always P) stops ts p h

pub always_value : {X : Type 0} (P : Outcome → Type 0) → ((r : Refusal) → P (Refused r)) → (o : Option X) (r : Refusal) (f : X → Plan) →
    ((x : X) → o ≡ Some x → Always P (f x)) → Always P (with_value o r f)
always_value P stops o r f h = plan_value (Always P) stops o r f h

granted_or : (P : Outcome → Type 0) → ((r : Refusal) → P (Refused r)) → (b : Bool) (o : Outcome) → P o → P (if b then o else Refused NoPages)
granted_or P stops b o h = grind arith

pub always_grant : (P : Outcome → Type 0) → ((r : Refusal) → P (Refused r)) → (c : Choice) (m : Mount) (home k : ℕ) (o : Outcome) → P o → Always P (grant c m home k o)
always_grant P stops c m home k o h = grind arith

-- pages of a range, whose nodes the pool answers
pub always_fill : (P : Outcome → Type 0) → ((r : Refusal) → P (Refused r)) → (ts : List (Bool × Refusal)) (d n : ℕ) (o : List ℕ → Outcome) → ((pages : List ℕ) → P (o pages))
    → Always P (unless ts (Ask (λ nr. FillPages d n) (λ a. when_granted (o a.pages) a)))
always_fill P stops ts d n o h = grind (arith, always_unless, granted_or)

pub always_gives : (P : Outcome → Type 0) (a : Answer) (old new : Slot) → P (Answered a new) → Always P (gives a old new)
always_gives P a old new h = grind arith

pub always_mount : (P : Outcome → Type 0) → ((r : Refusal) → P (Refused r)) → ((l : Limits) → P (Answered Done (Some (record { limits = l; files = [] }))))
    → (c : Choice) (size : ℕ) (options : List ℕ) → Always P (mount_on c size options)
always_mount P stops h c size options a = by_limits (limits a.nr size (wanted_of options))
  where
    by_tests : (refused granted late : Bool) (o : Outcome) → P o → P (if refused then Refused OutOfMemory else if not granted then Refused NoPages else if late then Refused OutOfMemory else o)
    by_tests true granted late o g = stops OutOfMemory
    by_tests refused granted late o g = grind arith

    by_limits : (r : ResultOf Limits Refusal) → P (mount_outcome c a r)
    by_limits (Err e) = stops e
    by_limits (Ok l) = by_tests c.refused a.granted c.after_grant (Answered Done (Some (record { limits = l; files = [] }))) (h l)

pub always_remounting : (P : Outcome → Type 0) → ((r : Refusal) → P (Refused r)) → (m : Mount) → ((l : Limits) → P (Answered Done (Some (record m { limits = l }))))
    → (size : ℕ) (options : List ℕ) → Always P (remounting size m options)
always_remounting P stops m h size options a = by_limits (limits a.nr size (wanted_of options))
  where
    by_limits : (r : ResultOf Limits Refusal) → P (remount_outcome m a r)
    by_limits (Err e) = stops e
    by_limits (Ok l) = outcome_if P a.granted (Answered Done (Some (record m { limits = l }))) (Refused NoPages) (h l) (stops NoPages)

pub always_remount : (P : Outcome → Type 0) → ((r : Refusal) → P (Refused r)) → (m : Mount) → ((l : Limits) → P (Answered Done (Some (record m { limits = l }))))
    → (size k : ℕ) (options : List ℕ) → Always P (remount size k m options)
always_remount P stops m h size k options = always_unless P stops (remount_tests k) (remounting size m options) (always_remounting P stops m h size options)

-- ---- accesses

module _ (size : ℕ) (c : Choice) (m : Mount) (home i : ℕ) where
  pub bytes_on : (Q : Mount → Type 0) (offset count : ℕ) (intent : Intent) (s : Spot) →
      (i < length s.file.cells → Always (On Q) (access c size m s home i intent)) → Always (On Q) (byte_access c size m home i offset count intent s)
  bytes_on Q offset count intent s h = grind arith

-- an outcome that answers so
abbrev pub Says : (Answer → Type 0) → Outcome → Type 0
Says P (Refused r) = Unit {0}
Says P (Answered a new) = P a

-- what the map shows
abbrev pub Loads : (size : ℕ) → Option Spot → (i offset count : ℕ) → Outcome → Type 0
Loads size o i offset count = Says (λ a. There o (λ s. a ≡ bytes_answer offset count (value size s.file s.map i)))

load_ends : (size : ℕ) (m : Mount) (s : Spot) (at : IsSpot m s) (i offset count : ℕ) (o : Outcome) → On (Same size m s at i) o
    → Loads size (Some s) i offset count (continued (λ n. Answered (bytes_answer offset count (value size (again n s).file (again n s).map i)) (Some n)) o)
load_ends size m s at i offset count o on = grind arith

pub load_at : (size : ℕ) (c : Choice) (m : Mount) (s : Spot) → IsSpot m s → (home i offset count : ℕ)
    → Always (Loads size (Some s) i offset count) (load c size m home i offset count s)
load_at size c m s at home i offset count =
    always_then (On (Same size m s at i)) (Loads size (Some s) i offset count) (λ n. Answered (bytes_answer offset count (value size (again n s).file (again n s).map i)) (Some n))
    (load_ends size m s at i offset count) (byte_access c size m home i offset count Read s)
    (bytes_on size c m home i (Same size m s at i) offset count Read s (read_same size m s at i c home))

pub load_loads : (size k : ℕ) (c : Choice) (old : Slot) (task home number i offset count : ℕ)
    → Always (Loads size (spot_on old task number) i offset count) (slot_event size k c old (slot.Load task home number i offset count))
load_loads size k c None task home number i offset count = tt
load_loads size k c (Some m) task home number i offset count = by_spot (spot m (is_map task number)) (λ s e. spot_is m (is_map task number) s e)
  where
    by_spot : (o : Option Spot) → ((s : Spot) → o ≡ Some s → IsSpot m s) → Always (Loads size o i offset count) (with_value o NoSuchMap (load c size m home i offset count))
    by_spot None is = tt
    by_spot (Some s) is = load_at size c m s (is s refl) home i offset count
