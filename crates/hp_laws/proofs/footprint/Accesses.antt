-- What a fault, a load and a store change.
use Rattle.std.proofs.Common.{◌≡◌, ⊎_elim, subst, ℕ, Bool, None, Some, Ok, Err, List, length, refl, MatchBool}
use Rattle.std.proofs.lemmas.Bool.{ltb-true}
use Rattle.hp_laws.proofs.Variants.{Answer, Done, Intent, NoSuchMap, Read, Refusal, Slot as OnSlot, SlotEvent, Write}
use Rattle.hp_model.specs.declared.event.SlotEvent.TheVariants as slot
use Rattle.hp_model.specs.declared.step.Step.TheVariants as step
use Rattle.hp_model.proofs.Words.{Answered, Choice, IsEvent, IsFresh, IsSettledState, IsSound, IsSoundFile, IsSoundMount, Mount, Outcome, Plan, Refused, Slot, Spot, State, access, again}
use Rattle.hp_model.proofs.Words.{byte_access}
use Rattle.hp_model.proofs.Words.{byte_tests, bytes_answer, copy_of, fault, fault_tests, is_map, is_shared, load, place_at}
use Rattle.hp_model.proofs.Words.{slot_at, slot_event, spot, store, unless, value, with_value, with_slot, written}
use Rattle.hp_laws.specs.Balance.{left_by}
use Rattle.hp_laws.proofs.counts.MountMoves.{IsSpot, spot_is}
use Rattle.hp_laws.proofs.sections.PoolTied.{left_sound}
use Rattle.hp_laws.proofs.steps.Outcomes.{reply_of}
use Rattle.hp_model.specs.machine.Footprint.{Changes, IsAccess, IsButNodes, IsCopyAccess, IsSharedAccess, There, over}
use Rattle.hp_laws.proofs.footprint.Landings.{Either, Exact, Lands, either_then, either_unless, either_value, either_weaker, event_either, there_at, there_weaker}
use Rattle.hp_laws.proofs.footprint.Shares.{Ends, Takes, access_goes, as_it_was, ends_so, takes_so}
use Rattle.hp_laws.proofs.footprint.Stores.{store_ends, store_takes, told, told_new}

-- ---- steps

module _ (s : State) (st : IsSettledState s) (k task number i : ℕ) where
  -- of the map that is named
  abbrev Named : (Mount → Spot → Outcome → Type 0) → Slot → Outcome → Type 0
  Named P old (Refused r) = Unit {0}
  Named P old (Answered a new) = There old (λ m. There (spot m (is_map task number)) (λ p. P m p (Answered a new)))

  abbrev EndsAt : Intent → (List ℕ → List ℕ) → Mount → Spot → Outcome → Type 0
  EndsAt intent w m p o = Ends s k m p i (is_shared p.map.sharing) intent w o

  abbrev TakesAt : Intent → (List ℕ → List ℕ) → Mount → Spot → Outcome → Type 0
  TakesAt intent w m p o = Takes s k m p i (is_shared p.map.sharing) intent w o

  named_at : (P : Mount → Spot → Outcome → Type 0) (m : Mount) (p : Spot) → spot m (is_map task number) ≡ Some p → (o : Outcome) → P m p o → Named P (Some m) o
  named_at P m p found (Refused r) h = tt
  named_at P m p found (Answered a new) h = there_at (λ q. P m q (Answered a new)) (spot m (is_map task number)) p found h

  sound_file : (m : Mount) → IsSoundMount m → (p : Spot) → IsSpot m p → IsSoundFile p.file
  sound_file m sound p at = subst IsSoundFile (at.file.is p.file) (sound.files p.file_no p.file at.file.within)

  module _ (intent : Intent) (w : List ℕ → List ℕ) where
    abbrev Goes : Slot → Plan → Type 0
    Goes old x = Either s (Named (EndsAt intent w) old) (Named (TakesAt intent w) old) x

    goes_named : (m : Mount) (f : Spot → Plan) → ((p : Spot) → spot m (is_map task number) ≡ Some p → Either s (EndsAt intent w m p) (TakesAt intent w m p) (f p))
        → Goes (Some m) (with_value (spot m (is_map task number)) NoSuchMap f)
    goes_named m f h =
        either_value s (Named (EndsAt intent w) (Some m)) (Named (TakesAt intent w) (Some m)) (λ r. tt) (λ r. tt) (spot m (is_map task number)) NoSuchMap f
        (λ p found. either_weaker s (EndsAt intent w m p) (TakesAt intent w m p) (Named (EndsAt intent w) (Some m)) (Named (TakesAt intent w) (Some m))
        (named_at (EndsAt intent w) m p found) (named_at (TakesAt intent w) m p found) (f p) (h p found))

    -- what is answered
    from_exact : (a : Answer) (t : State) (o : Outcome) → Named (EndsAt intent w) (slot_at s k) o → Ok a ≡ reply_of o → t ≡ with_slot s k (left_by (slot_at s k) o)
        → IsAccess s k task number i intent w t
    from_exact a t (Refused r) h e left = (let never : Ok a ≡ Err r = e in cc)
    from_exact a t (Answered b new) h e left =
        there_weaker (λ m. There (spot m (is_map task number)) (λ p. EndsAt intent w m p (Answered b new)))
        (λ m. There (spot m (is_map task number)) (λ p. MatchBool (is_shared p.map.sharing) (IsSharedAccess s k m p i w t) (IsCopyAccess s k m p i intent w (copy_of (place_at p.map i)) t)))
        (slot_at s k)
        (λ m there x. there_weaker (λ p. EndsAt intent w m p (Answered b new))
        (λ p. MatchBool (is_shared p.map.sharing) (IsSharedAccess s k m p i w t) (IsCopyAccess s k m p i intent w (copy_of (place_at p.map i)) t)) (spot m (is_map task number))
        (λ p found y. ends_so s k m p i there intent w t b new y left) x) h

    from_new : (a : Answer) (t : State) (o : Outcome) → Named (TakesAt intent w) (slot_at s k) o → Ok a ≡ reply_of o → IsButNodes (with_slot s k (left_by (slot_at s k) o)) t
        → IsAccess s k task number i intent w t
    from_new a t (Refused r) h e left = (let never : Ok a ≡ Err r = e in cc)
    from_new a t (Answered b new) h e left =
        there_weaker (λ m. There (spot m (is_map task number)) (λ p. TakesAt intent w m p (Answered b new)))
        (λ m. There (spot m (is_map task number)) (λ p. MatchBool (is_shared p.map.sharing) (IsSharedAccess s k m p i w t) (IsCopyAccess s k m p i intent w (copy_of (place_at p.map i)) t)))
        (slot_at s k)
        (λ m there x. there_weaker (λ p. TakesAt intent w m p (Answered b new))
        (λ p. MatchBool (is_shared p.map.sharing) (IsSharedAccess s k m p i w t) (IsCopyAccess s k m p i intent w (copy_of (place_at p.map i)) t)) (spot m (is_map task number))
        (λ p found y. takes_so s k m p i there intent w t b new y left) x) h

    event_accesses : (e : SlotEvent) (a : Answer) (t : State) → ((c : Choice) → IsFresh c (slot_at s k) → IsSound (slot_at s k) → Goes (slot_at s k) (slot_event s.page_size k c (slot_at s k) e))
        → IsEvent s (OnSlot k e) (Ok a) t → IsAccess s k task number i intent w t
    event_accesses e a t all is =
        let sound = left_sound s k (ltb-true k (length s.slots) is.1.0) st in
        ⊎_elim (λ (x : Exact (Named (EndsAt intent w) (slot_at s k)) s k (Ok a) t). from_exact a t x.outcome x.holds x.replied x.left)
        (λ (x : Lands (Named (TakesAt intent w) (slot_at s k)) s k (Ok a) t). from_new a t x.outcome x.holds x.replied x.left)
        (event_either (Named (EndsAt intent w) (slot_at s k)) (Named (TakesAt intent w) (slot_at s k)) s k e (Ok a) t (λ c fresh. all c fresh sound) is)

  abbrev none : (m : Mount) (p : Spot) (intent : Intent) → Plan → Type 0
  none m p intent x = Either s (EndsAt intent as_it_was m p) (TakesAt intent as_it_was m p) x

  touches : (c : Choice) (home : ℕ) (intent : Intent) (m : Mount) → IsFresh c (Some m) → IsSoundMount m → (p : Spot) → spot m (is_map task number) ≡ Some p
      → (ts : List (Bool × Refusal)) → none m p intent (unless ts (access c s.page_size m p home i intent))
  touches c home intent m fresh sound p found ts =
      let at = spot_is m (is_map task number) p found in
      either_unless s (EndsAt intent as_it_was m p) (TakesAt intent as_it_was m p) (λ r. tt) (λ r. tt) ts (access c s.page_size m p home i intent)
      (access_goes s k m p i at c home (sound_file m sound p at) fresh intent)

  pub fault_changes : (home : ℕ) (intent : Intent) (a : Answer) (t : State) → IsEvent s (OnSlot k (slot.Fault task home number i intent)) (Ok a) t → Changes s (step.Fault task k number i intent) a t
  fault_changes home intent a t is = event_accesses intent as_it_was (slot.Fault task home number i intent) a t (λ c. all c (slot_at s k)) is
    where
      all : (c : Choice) (old : Slot) → IsFresh c old → IsSound old → Goes intent as_it_was old (slot_event s.page_size k c old (slot.Fault task home number i intent))
      all c None fresh sound = tt
      all c (Some m) fresh sound = goes_named intent as_it_was m (fault c s.page_size m home i intent) (λ p found. touches c home intent m fresh sound p found (fault_tests i p))

  pub load_changes : (home offset count : ℕ) (a : Answer) (t : State) → IsEvent s (OnSlot k (slot.Load task home number i offset count)) (Ok a) t
      → Changes s (step.Load task k number i offset count) a t
  load_changes home offset count a t is = event_accesses Read as_it_was (slot.Load task home number i offset count) a t (λ c. all c (slot_at s k)) is
    where
      all : (c : Choice) (old : Slot) → IsFresh c old → IsSound old → Goes Read as_it_was old (slot_event s.page_size k c old (slot.Load task home number i offset count))
      all c None fresh sound = tt
      all c (Some m) fresh sound =
          goes_named Read as_it_was m (load c s.page_size m home i offset count)
          (λ p found. (let answer : Mount → Answer = λ n. bytes_answer offset count (value s.page_size (again n p).file (again n p).map i) in
          either_then s (EndsAt Read as_it_was m p) (TakesAt Read as_it_was m p) (EndsAt Read as_it_was m p) (TakesAt Read as_it_was m p) (λ n. Answered (answer n) (Some n))
          (told s k m p i (is_shared p.map.sharing) answer) (told_new s k m p i (is_shared p.map.sharing) answer) (byte_access c s.page_size m home i offset count Read p)
          (touches c home Read m fresh sound p found (byte_tests s.page_size i offset count p))))

  pub store_changes : (home offset : ℕ) (bytes : List ℕ) (a : Answer) (t : State) → IsEvent s (OnSlot k (slot.Store task home number i offset bytes)) (Ok a) t
      → Changes s (step.Store task k number i offset bytes) a t
  store_changes home offset bytes a t is = event_accesses Write (over offset bytes) (slot.Store task home number i offset bytes) a t (λ c. all c (slot_at s k)) is
    where
      all : (c : Choice) (old : Slot) → IsFresh c old → IsSound old → Goes Write (over offset bytes) old (slot_event s.page_size k c old (slot.Store task home number i offset bytes))
      all c None fresh sound = tt
      all c (Some m) fresh sound =
          goes_named Write (over offset bytes) m (store c s.page_size m home i offset bytes)
          (λ p found. either_then s (EndsAt Write as_it_was m p) (TakesAt Write as_it_was m p) (EndsAt Write (over offset bytes) m p) (TakesAt Write (over offset bytes) m p)
          (λ n. Answered Done (Some (written n p i offset bytes)))
          (store_ends s k m p i offset bytes (is_shared p.map.sharing) refl) (store_takes s k m p i offset bytes (is_shared p.map.sharing) refl)
          (byte_access c s.page_size m home i offset (length bytes) Write p)
          (touches c home Write m fresh sound p found (byte_tests s.page_size i offset (length bytes) p)))
