-- An access whose page is kept for it is never refused for want of a huge page.
use Rattle.std.proofs.Common.{arith, ◌≡◌, ℕ, true, Option, None, Some, List, length}
use Rattle.hp_laws.proofs.Variants.{Done, Intent, NoSuchMap, Read, Write}
use Rattle.hp_model.specs.declared.event.SlotEvent.TheVariants as slot
use Rattle.hp_model.proofs.Words.{Answered, Choice, Mount, Outcome, Slot, Spot, access, again, byte_access, bytes_answer, continued, is_backed, is_map, load, slot_event, spot}
use Rattle.hp_model.proofs.Words.{spot_on, store, value, with_value, written}
use Rattle.hp_laws.specs.Laws.{KeepsGoing}
use Rattle.hp_laws.proofs.steps.Outcomes.{Always, always_test, always_then}

module _ (c : Choice) (size : ℕ) (m : Mount) (s : Spot) (home i : ℕ) where
  access_goes : (intent : Intent) → is_backed intent (Some s) i ≡ true → Always KeepsGoing (access c size m s home i intent)
  access_goes intent e = grind arith

  bytes_go : (offset count : ℕ) (intent : Intent) → is_backed intent (Some s) i ≡ true → Always KeepsGoing (byte_access c size m home i offset count intent s)
  bytes_go offset count intent e = grind arith

  goes_on : (f : Mount → Outcome) → ((n : Mount) → KeepsGoing (f n)) → (o : Outcome) → KeepsGoing o → KeepsGoing (continued f o)
  goes_on f h o keeps = grind arith

module _ (size k : ℕ) (c : Choice) (task home number i offset : ℕ) where
  pub load_goes : (old : Slot) (count : ℕ) → is_backed Read (spot_on old task number) i ≡ true → Always KeepsGoing (slot_event size k c old (slot.Load task home number i offset count))
  load_goes None count e = cc
  load_goes (Some m) count e = by_spot (spot m (is_map task number)) e
    where
      by_spot : (o : Option Spot) → is_backed Read o i ≡ true → Always KeepsGoing (with_value o NoSuchMap (load c size m home i offset count))
      by_spot None e = cc
      by_spot (Some s) e =
          let f : Mount → Outcome = λ n. Answered (bytes_answer offset count (value size (again n s).file (again n s).map i)) (Some n) in
          always_then KeepsGoing KeepsGoing f (goes_on c size m s home i f (λ n. tt)) (byte_access c size m home i offset count Read s) (bytes_go c size m s home i offset count Read e)

  pub store_goes : (old : Slot) (bytes : List ℕ) → is_backed Write (spot_on old task number) i ≡ true → Always KeepsGoing (slot_event size k c old (slot.Store task home number i offset bytes))
  store_goes None bytes e = cc
  store_goes (Some m) bytes e = by_spot (spot m (is_map task number)) e
    where
      by_spot : (o : Option Spot) → is_backed Write o i ≡ true → Always KeepsGoing (with_value o NoSuchMap (store c size m home i offset bytes))
      by_spot None e = cc
      by_spot (Some s) e =
          let f : Mount → Outcome = λ n. Answered Done (Some (written n s i offset bytes)) in
          always_then KeepsGoing KeepsGoing f (goes_on c size m s home i f (λ n. tt)) (byte_access c size m home i offset (length bytes) Write s)
          (bytes_go c size m s home i offset (length bytes) Write e)

pub fault_goes : (size k : ℕ) (c : Choice) (task home number i : ℕ) (intent : Intent) (old : Slot) → is_backed intent (spot_on old task number) i ≡ true
    → Always KeepsGoing (slot_event size k c old (slot.Fault task home number i intent))
fault_goes size k c task home number i intent old e = grind (arith, Always, always_test, access_goes)
