-- What a load, a store and a fault are answered.
use Rattle.std.proofs.Common.{◌≡◌, ℕ, Bool, List, None, Some, Ok, Err, refl, sym, subst, length, IfOk, Result}
use Rattle.hp_laws.proofs.Variants.{Answer, Done, Intent, NoSuchMap, Read, Receipt, Refusal, Slot as OnSlot, SlotEvent, Told, Write}
use Rattle.hp_model.specs.declared.event.SlotEvent.TheVariants as slot
use Rattle.hp_model.proofs.Words.{Answered, Choice, Gives, Mount, Outcome, Refused, Reply, Slot, Spot, again, byte_access, bytes_answer, continued, fault, is_map, load, slot_event, spot, store}
use Rattle.hp_model.proofs.Words.{told_answer, told_reply, value, written}
use Rattle.hp_laws.specs.Balance.{Always}
use Rattle.hp_laws.proofs.names.Accessed.{bytes_on}
use Rattle.hp_laws.proofs.counts.MountMoves.{spot_is}
use Rattle.hp_laws.proofs.steps.Outcomes.{always_then}
use Rattle.hp_laws.proofs.accesses.EndsDone.{fault_done}
use Rattle.hp_laws.proofs.accesses.Shown.{On}
use Rattle.hp_laws.proofs.accesses.SlotShows.{always_value}
use Rattle.hp_events.specs.Answered.{CanAnswer, IsHanded}
use Rattle.hp_events.proofs.Came.{always_came}
use Rattle.hp_events.specs.Fitting.{HasAnswerOf, IsBytes}

-- ---- what a load, a store and a fault are answered

-- no mount goes by an access
abbrev Any : Mount → Type 0
Any n = Unit {0}

module _ (size k : ℕ) (c : Choice) (task home number i offset : ℕ) where
  abbrev IsLoaded : Outcome → Type 0
  IsLoaded (Refused r) = Unit {0}
  IsLoaded (Answered a s) = IsBytes a

  abbrev EndsDone : Outcome → Type 0
  EndsDone (Refused r) = Unit {0}
  EndsDone (Answered a s) = a ≡ Done

  loads : (count : ℕ) (old : Slot) → Always IsLoaded (slot_event size k c old (slot.Load task home number i offset count))
  loads count None = tt
  loads count (Some x) =
      always_value IsLoaded (λ r. tt) (spot x (is_map task number)) NoSuchMap (load c size x home i offset count)
      (λ s e. always_then (On Any) IsLoaded (λ n. Answered (bytes_answer offset count (value size (again n s).file (again n s).map i)) (Some n)) (ends_in s)
      (byte_access c size x home i offset count Read s) (bytes_on c x Any tt s (spot_is x (is_map task number) s e) (λ f same. tt) size home i offset count Read))
    where
      ends_in : (s : Spot) (o : Outcome) → On Any o → IsLoaded (continued (λ n. Answered (bytes_answer offset count (value size (again n s).file (again n s).map i)) (Some n)) o)
      ends_in s (Refused r) on = tt
      ends_in s (Answered a None) on = absurd on
      ends_in s (Answered a (Some n)) on = tt

  stores : (bytes : List ℕ) (old : Slot) → Always EndsDone (slot_event size k c old (slot.Store task home number i offset bytes))
  stores bytes None = tt
  stores bytes (Some x) =
      always_value EndsDone (λ r. tt) (spot x (is_map task number)) NoSuchMap (store c size x home i offset bytes)
      (λ s e. always_then (On Any) EndsDone (λ n. Answered Done (Some (written n s i offset bytes))) (ends_in s)
      (byte_access c size x home i offset (length bytes) Write s) (bytes_on c x Any tt s (spot_is x (is_map task number) s e) (λ f same. tt) size home i offset (length bytes) Write))
    where
      ends_in : (s : Spot) (o : Outcome) → On Any o → EndsDone (continued (λ n. Answered Done (Some (written n s i offset bytes))) o)
      ends_in s (Refused r) on = tt
      ends_in s (Answered a None) on = absurd on
      ends_in s (Answered a (Some n)) on = refl

  faults : (intent : Intent) (old : Slot) → Always EndsDone (slot_event size k c old (slot.Fault task home number i intent))
  faults intent None = tt
  faults intent (Some x) =
      always_value EndsDone (λ r. tt) (spot x (is_map task number)) NoSuchMap (fault c size x home i intent) (λ s e. fault_done EndsDone (λ r. tt) (λ n. refl) c size x s home i intent)

  loaded : (o : Outcome) (old new : Slot) (a : Answer) → IsLoaded o → Gives o old (Ok a) new → IsBytes a
  loaded (Refused r) old new a h g = absurd (let same = g.0 in cc)
  loaded (Answered b s) old new a h g = subst (λ (x : Reply). OfOk x) (sym g.0) h
    where
      OfOk : Reply → Type 0
      OfOk (Ok x) = IsBytes x
      OfOk (Err e) = Unit {0}

  ended : (o : Outcome) (old new : Slot) (a : Answer) → EndsDone o → Gives o old (Ok a) new → a ≡ Done
  ended (Refused r) old new a h g = absurd (let same = g.0 in cc)
  ended (Answered b s) old new a h g = (let same = g.0 in cc)

pub fits : (size k : ℕ) (e : SlotEvent) (a : Answer) → CanAnswer size (OnSlot k e) (Ok a) → HasAnswerOf e a
fits size k (slot.Load task home number i offset count) a (old, asked, new, went) =
    let came = always_came (IsLoaded size k went.0 task home number i offset) (slot_event size k went.0 old (slot.Load task home number i offset count)) asked old (Ok a) new
    (loads size k went.0 task home number i offset count old) went.2 in
    loaded size k went.0 task home number i offset came.0 old new a came.1 came.2
fits size k (slot.Store task home number i offset bytes) a (old, asked, new, went) =
    let came = always_came (EndsDone size k went.0 task home number i offset) (slot_event size k went.0 old (slot.Store task home number i offset bytes)) asked old (Ok a) new
    (stores size k went.0 task home number i offset bytes old) went.2 in
    ended size k went.0 task home number i offset came.0 old new a came.1 came.2
fits size k (slot.Fault task home number i intent) a (old, asked, new, went) =
    let came = always_came (EndsDone size k went.0 task home number i 0) (slot_event size k went.0 old (slot.Fault task home number i intent)) asked old (Ok a) new
    (faults size k went.0 task home number i 0 intent old) went.2 in
    ended size k went.0 task home number i 0 came.0 old new a came.1 came.2
fits size k other a can = tt

-- what was handed back fits
pub handed_fits : (kept : Bool) (size k : ℕ) (e : SlotEvent) (a : Answer) (was now : List Receipt) → IsHanded kept size (OnSlot k e) (Ok a) was now → HasAnswerOf e a
handed_fits kept size k e a was now handed = fits size k e a handed.0

pub fits_result : (kept : Bool) (size k : ℕ) (e : SlotEvent) (r : Result Told Refusal) (was now : List Receipt) → IsHanded kept size (OnSlot k e) (told_reply r) was now →
    IfOk r (λ t. HasAnswerOf e (told_answer t))
fits_result kept size k e (Ok t) was now h = handed_fits kept size k e (told_answer t) was now h
fits_result kept size k e (Err x) was now h = tt
