-- A step that is refused for want of pages lacks what it asks for: past its mount's limit, or more than the pool can commit.
use Rattle.std.proofs.Common.{arith, ◌≡◌, subst, ℕ, ◌-◌, ◌&&◌, ◌==◌, Bool, true, false, not, Option, None, Some, Result, Ok, Err, List, [], ◌∷◌, ◌++◌, length, refl, sym, ap, ◌∙◌, if◌then◌else◌}
use Rattle.std.proofs.lemmas.Bool.{and_parts, cond_both, eqb-true}
use Rattle.std.specs.List.{range_with_len}
use Rattle.hp_laws.proofs.Variants.{Cell, Done, Event, FillPages, Intent, Limits, Live, NoPages, NoSuchFile, NoSuchMap, Place, Pool as OnPool, PoolAnswer, PoolEvent, Read, Refusal}
use Rattle.hp_laws.proofs.Variants.{Reserving, Sharing, Slot as OnSlot, SlotEvent, SlotTaken, Step, TableEvent, Tasks, Write}
use Rattle.hp_model.specs.declared.event.PoolEvent.TheVariants as pool
use Rattle.hp_model.specs.declared.event.SlotEvent.TheVariants as slot
use Rattle.hp_model.specs.declared.event.TableEvent.TheVariants as table
use Rattle.hp_model.specs.declared.step.Step.TheVariants as step
use Rattle.hp_model.proofs.Words.{Answer_with, Answered, Ask, Choice, Copy, File, Finish, IsEvent, IsMountShort, IsRemountShortOn, IsScript, IsScripted, IsShort, IsShortOn, IsStep, MeetsShortage}
use Rattle.hp_model.proofs.Words.{Mount, Outcome, Page, Plan, Pool, Refused, Reply, Script, Slot, Spot, State, Table, Wanted, access, again, and_then, asked, asked_of, asks, byte_access, byte_tests}
use Rattle.hp_model.proofs.Words.{bytes_answer, can_grant, cell_at, committed_of, committed_with, continued, copy_write, exit_slots, fault, fault_tests, file_named, fill, fork_slots, gives, grant}
use Rattle.hp_model.proofs.Words.{has_maps_of, has_own, is_for_pages, is_full, is_map, is_shared, lacking, limits, load, map_file, map_tests, mount_outcome, mount_pages, mount_section, new_copy}
use Rattle.hp_model.proofs.Words.{or_undone, page_for, place_at, planned, pool_event, pool_of, preallocate, preallocate_tests, private_access, refuse, remount_outcome, rise, section, shared_access}
use Rattle.hp_model.proofs.Words.{slot_at, slot_event, spot, store, table_event, uncopied_access, undone, unentered, unless, value, wanted_of, when_done, when_granted, with_value, written}
use Rattle.hp_laws.specs.Laws.{KeepsGoing}
use Rattle.hp_laws.proofs.making.Remounts.{remount_ends, remount_told, told_granted}
use Rattle.hp_laws.proofs.accesses.SlotShows.{always_gives}
use Rattle.hp_laws.proofs.steps.Outcomes.{Always, either_way, reply_of}
use Rattle.hp_laws.proofs.steps.Whole.{by_event, early_pages, is_early, is_whole, slot_step, step_of}

-- ---- limits

limits_plain : (nr size : ℕ) (w : Option Wanted) (r : Refusal) → limits nr size w ≡ Err r → is_for_pages r ≡ false
limits_plain nr size w r e = grind arith

-- ---- outcomes at the state's pool

module _ (s : State) where
  -- P holds of the outcome by what the pool answers
  abbrev pub At : (Outcome → Type 0) → Plan → Type 0
  At P (Finish o) = P o
  At P (Ask sec f) = P (f (section (pool_of s) (sec s.nr)).0)

  pub at_any : (P : Outcome → Type 0) (p : Plan) → Always P p → At P p
  at_any P p all = grind arith

  pub at_if : (P : Outcome → Type 0) (b : Bool) (p q : Plan) → (b ≡ true → At P p) → (b ≡ false → At P q) → At P (if b then p else q)
  at_if P b p q h k = cond_both b p q (At P) h k

  pub at_test : (P : Outcome → Type 0) (b : Bool) (r : Refusal) (p : Plan) → P (Refused r) → At P p → At P (if b then refuse r else p)
  at_test P b r p stops h = cond_both b (refuse r) p (At P) (λ e. stops) (λ e. h)

  pub at_then : (P : Outcome → Type 0) (f : Mount → Outcome) → ((o : Outcome) → P o → P (continued f o)) → (p : Plan) → At P p → At P (and_then f p)
  at_then P f h p at = grind arith

  planned_at : (P : Outcome → Type 0) (k : ℕ) (p : Plan) → At P p → (o : Outcome) × P o × ((planned s k p).0 ≡ reply_of o)
  planned_at P k p at = grind arith

  event_at : (P : Outcome → Type 0) (k : ℕ) (e : SlotEvent) (reply : Reply) (t : State) → ((c : Choice) → At P (slot_event s.page_size k c (slot_at s k) e)) → IsEvent s (OnSlot k e) reply t
      → (o : Outcome) × P o × (reply ≡ reply_of o)
  event_at P k e reply t h is =
      let it = planned_at P k (slot_event s.page_size k is.0 (slot_at s k) e) (h is.0) in
      (it.0, it.1, sym (ap (λ (q : Reply × State). q.0) is.2) ∙ it.2)

  -- ---- grants

  abbrev Lacks : (m : Mount) (pages : ℕ) → Outcome → Type 0
  Lacks m pages (Refused r) = IsShort (pool_of s) m pages r
  Lacks m pages (Answered a new) = Unit {0}

  granted_lacks : (m : Mount) (pages : ℕ) (b : Bool) (o : Outcome) → is_full m pages ≡ false → can_grant (rise m pages) (pool_of s) ≡ b → Lacks m pages o → (a : PoolAnswer)
      → a.granted ≡ b → Lacks m pages (when_granted o a)
  granted_lacks m pages b o room can h a e = grind arith

  fill_granted : (d n : ℕ) → (section (pool_of s) (FillPages d n)).0.granted ≡ can_grant d (pool_of s)
  fill_granted d n = cond_both (can_grant d (pool_of s)) _ _ (λ (x : PoolAnswer × Pool). x.0.granted ≡ can_grant d (pool_of s)) (λ e. sym e) (λ e. sym e)

  fill_lacks : (c : Choice) (size : ℕ) (m : Mount) (a b : ℕ) (f : ℕ × File) → At (Lacks m (unentered a b f.1)) (fill c size m a b f)
  fill_lacks c size m a b f = grind (arith, at_if, at_test, granted_lacks, fill_granted)

  grant_lacks : (c : Choice) (m : Mount) (home pages : ℕ) (o : Outcome) → Lacks m pages o → At (Lacks m pages) (grant c m home pages o)
  grant_lacks c m home pages o h = grind arith

  -- ---- accesses

  module _ (c : Choice) (size : ℕ) (m : Mount) (p : Spot) (home i : ℕ) where
    abbrev pages : Intent → ℕ
    pages intent = page_for intent (Some p) i

    abbrev Wants : Intent → Outcome → Type 0
    Wants intent o = Lacks m (page_for intent (Some p) i) o

    shared_lacks : (t : Intent) (cell : Cell Page) → is_shared p.map.sharing ≡ true → cell_at p.file i ≡ cell → At (Wants t) (shared_access c size m p home i cell)
    shared_lacks t cell shared is = grind arith

    module _ (apart : is_shared p.map.sharing ≡ false) where
      new_lacks : (t : Intent) (consumed : Bool) → place_at p.map i ≡ Live consumed None → has_own t p i ≡ false → At (Wants t) (new_copy c size m p home i consumed)
      new_lacks t consumed is none = grind arith

      uncopied_lacks : (t : Intent) (consumed : Bool) → place_at p.map i ≡ Live consumed None → At (Wants t) (uncopied_access c size m p home i consumed t)
      uncopied_lacks Write consumed is = grind (arith, new_lacks)
      uncopied_lacks Read consumed is = grind (arith, at_if, new_lacks)

      write_lacks : (consumed : Bool) (copy : Copy) → place_at p.map i ≡ Live consumed (Some copy) → At (Wants Write) (copy_write c m p home i consumed copy)
      write_lacks consumed copy is = grind arith

      private_lacks : (t : Intent) (q : Place Copy) → place_at p.map i ≡ q → At (Wants t) (private_access c size m p home i q t)
      private_lacks t q is = grind (arith, write_lacks, at_test, uncopied_lacks)

    access_lacks : (t : Intent) → At (Wants t) (access c size m p home i t)
    access_lacks t = at_if (Wants t) (is_shared p.map.sharing) _ _ (λ e. shared_lacks t (cell_at p.file i) e refl) (λ e. private_lacks e t (place_at p.map i) refl)

  -- ---- tests

  -- none is for pages
  abbrev plain : List (Bool × Refusal) → Bool
  plain [] = true
  plain (x ∷ xs) = not (is_for_pages x.1) && plain xs

  at_tests : (P : Outcome → Type 0) → ((r : Refusal) → is_for_pages r ≡ false → P (Refused r)) → (ts : List (Bool × Refusal)) → plain ts ≡ true → (p : Plan) → At P p → At P (unless ts p)
  at_tests P h [] e p at = at
  at_tests P h (x ∷ xs) e p at =
      let both = and_parts (not (is_for_pages x.1)) (plain xs) e in
      at_test P x.0 x.1 (unless xs p) (h x.1 (no_not (is_for_pages x.1) both.0)) (at_tests P h xs both.1 p at)
    where
      no_not : (b : Bool) → not b ≡ true → b ≡ false
      no_not b e = grind arith

  plain_short : (m : Mount) (pages : ℕ) (r : Refusal) → is_for_pages r ≡ false → IsShort (pool_of s) m pages r
  plain_short m pages r e = grind arith

  -- ---- events that ask for pages

  abbrev ShortOn : Slot → Step → Outcome → Type 0
  ShortOn old x (Refused r) = IsShortOn (pool_of s) old x r
  ShortOn old x (Answered a new) = Unit {0}

  after_lacks : (m : Mount) (pages : ℕ) (f : Mount → Outcome) → ((n : Mount) → Lacks m pages (f n)) → (o : Outcome) → Lacks m pages o → Lacks m pages (continued f o)
  after_lacks m pages f h o lacks = grind arith

  -- the outcomes of a mount, by the pages that its step asks for
  module _ (m : Mount) (x : Step) where
    at_short : (p : Plan) → At (Lacks m (asks m x)) p → At (ShortOn (Some m) x) p
    at_short p at = grind arith

  module _ (c : Choice) (size k : ℕ) where
    of_map : (old : Slot) (task home : ℕ) (name : List ℕ) (a n : ℕ) (sharing : Sharing) (reserving : Reserving)
        → At (ShortOn old (step.Map task k name a n sharing reserving)) (slot_event size k c old (slot.Map task home name a n sharing reserving))
    of_map None task home name a n sharing reserving = refl
    of_map (Some m) task home name a n sharing reserving =
        at_short m (step.Map task k name a n sharing reserving) (with_value (file_named m name) NoSuchFile (map_file c m task home a n sharing reserving)) (by_file (file_named m name))
      where
        by_file : (o : Option (ℕ × File)) → At (Lacks m (asked_of o (asked sharing reserving a n))) (with_value o NoSuchFile (map_file c m task home a n sharing reserving))
        by_file None = tt
        by_file (Some f) =
            let pages = asked sharing reserving a n f.1 in
            at_tests (Lacks m pages) (plain_short m pages) (map_tests m task a n) refl _ (grant_lacks c m home pages _ tt)

    of_preallocate : (old : Slot) (name : List ℕ) (a b : ℕ) → At (ShortOn old (step.Preallocate k name a b)) (slot_event size k c old (slot.Preallocate name a b))
    of_preallocate None name a b = refl
    of_preallocate (Some m) name a b =
        at_short m (step.Preallocate k name a b) (with_value (file_named m name) NoSuchFile (preallocate c size m a b)) (by_file (file_named m name))
      where
        by_file : (o : Option (ℕ × File)) → At (Lacks m (asked_of o (unentered a b))) (with_value o NoSuchFile (preallocate c size m a b))
        by_file None = tt
        by_file (Some f) =
            let pages = unentered a b f.1 in
            at_tests (Lacks m pages) (plain_short m pages) (preallocate_tests a b) refl _
            (at_if (Lacks m pages) (lacking a b f.1 == 0) (Finish (Answered Done (Some m))) (fill c size m a b f) (λ e. tt) (λ e. fill_lacks c size m a b f))

    of_anon : (old : Slot) (task home n : ℕ) (sharing : Sharing) (reserving : Reserving)
        → At (ShortOn old (step.Anon task n sharing reserving)) (slot_event size k c old (slot.Anon task home n sharing reserving))
    of_anon None task home n sharing reserving = refl
    of_anon (Some m) task home n sharing reserving = grind (arith, at_short, at_tests, plain_short, grant_lacks)

    of_fault : (old : Slot) (task home number i : ℕ) (t : Intent) → At (ShortOn old (step.Fault task k number i t)) (slot_event size k c old (slot.Fault task home number i t))
    of_fault None task home number i t = refl
    of_fault (Some m) task home number i t =
        at_short m (step.Fault task k number i t) (with_value (spot m (is_map task number)) NoSuchMap (fault c size m home i t)) (by_spot (spot m (is_map task number)))
      where
        by_spot : (o : Option Spot) → At (Lacks m (page_for t o i)) (with_value o NoSuchMap (fault c size m home i t))
        by_spot None = tt
        by_spot (Some p) =
            let pages = page_for t (Some p) i in at_tests (Lacks m pages) (plain_short m pages) (fault_tests i p) refl (access c size m p home i t) (access_lacks c size m p home i t)

    bytes_lack : (m : Mount) (home i offset count : ℕ) (t : Intent) (p : Spot) → At (Lacks m (page_for t (Some p) i)) (byte_access c size m home i offset count t p)
    bytes_lack m home i offset count t p =
        let pages = page_for t (Some p) i in
        at_tests (Lacks m pages) (plain_short m pages) (byte_tests size i offset count p) refl (access c size m p home i t) (access_lacks c size m p home i t)

    of_load : (old : Slot) (task home number i offset count : ℕ) → At (ShortOn old (step.Load task k number i offset count)) (slot_event size k c old (slot.Load task home number i offset count))
    of_load None task home number i offset count = refl
    of_load (Some m) task home number i offset count =
        at_short m (step.Load task k number i offset count) (with_value (spot m (is_map task number)) NoSuchMap (load c size m home i offset count)) (by_spot (spot m (is_map task number)))
      where
        by_spot : (o : Option Spot) → At (Lacks m (page_for Read o i)) (with_value o NoSuchMap (load c size m home i offset count))
        by_spot None = tt
        by_spot (Some p) =
            let pages = page_for Read (Some p) i in
            let f : Mount → Outcome = λ n. Answered (bytes_answer offset count (value size (again n p).file (again n p).map i)) (Some n) in
            at_then (Lacks m pages) f (after_lacks m pages f (λ n. tt)) (byte_access c size m home i offset count Read p) (bytes_lack m home i offset count Read p)

    of_store : (old : Slot) (task home number i offset : ℕ) (bytes : List ℕ)
        → At (ShortOn old (step.Store task k number i offset bytes)) (slot_event size k c old (slot.Store task home number i offset bytes))
    of_store None task home number i offset bytes = refl
    of_store (Some m) task home number i offset bytes =
        at_short m (step.Store task k number i offset bytes) (with_value (spot m (is_map task number)) NoSuchMap (store c size m home i offset bytes)) (by_spot (spot m (is_map task number)))
      where
        by_spot : (o : Option Spot) → At (Lacks m (page_for Write o i)) (with_value o NoSuchMap (store c size m home i offset bytes))
        by_spot None = tt
        by_spot (Some p) =
            let pages = page_for Write (Some p) i in
            let f : Mount → Outcome = λ n. Answered Done (Some (written n p i offset bytes)) in
            at_then (Lacks m pages) f (after_lacks m pages f (λ n. tt)) (byte_access c size m home i offset (length bytes) Write p) (bytes_lack m home i offset (length bytes) Write p)

    -- ---- a mount

    abbrev MountShort : List ℕ → Outcome → Type 0
    MountShort options (Refused r) = IsMountShort (pool_of s) (limits s.nr size (wanted_of options)) r
    MountShort options (Answered a new) = Unit {0}

    section_told : (d : ℕ) → (a : PoolAnswer) → a ≡ (section (pool_of s) (mount_section c d)).0 → (a.nr ≡ s.nr) × (a.granted ≡ can_grant d (pool_of s))
    section_told d a is = grind arith

    -- what the answer leads to, by the limits
    mount_leads : (options : List ℕ) (x : Result Limits Refusal) → limits s.nr size (wanted_of options) ≡ x → (a : PoolAnswer) → a.granted ≡ can_grant (mount_pages c x) (pool_of s)
        → MountShort options (mount_outcome c a x)
    mount_leads options x is a told = grind (arith, limits_plain)

    taken_short : (p : Pool) (x : Result Limits Refusal) → IsMountShort p x SlotTaken
    taken_short p x = grind arith

    of_mount : (old : Slot) (options : List ℕ) → At (MountShort options) (slot_event size k c old (slot.Mount options))
    of_mount (Some m) options = taken_short (pool_of s) (limits s.nr size (wanted_of options))
    of_mount None options =
        let d = mount_pages c (limits s.nr size (wanted_of options)) in
        let a : PoolAnswer = (section (pool_of s) (mount_section c d)).0 in
        let told = section_told d a refl in
        subst (λ n. MountShort options (mount_outcome c a (limits n size (wanted_of options)))) (sym told.0) (mount_leads options (limits s.nr size (wanted_of options)) refl a told.1)

    -- ---- events that ask for none

    goes_tests : (ts : List (Bool × Refusal)) → plain ts ≡ true → (p : Plan) → At KeepsGoing p → At KeepsGoing (unless ts p)
    goes_tests ts e p at = at_tests KeepsGoing (λ r plain. plain) ts e p at

    given : (old new : Slot) → At KeepsGoing (gives Done old new)
    given old new = at_any KeepsGoing (gives Done old new) (always_gives KeepsGoing Done old new tt)

    of_unmap : (old : Slot) (task number a b : ℕ) → At KeepsGoing (slot_event size k c old (slot.Unmap task number a b))
    of_unmap old task number a b = grind arith

    of_fork : (old : Slot) (parent child : ℕ) → At KeepsGoing (slot_event size k c old (slot.ForkMaps parent child))
    of_fork old parent child = grind arith

    abbrev is_plain : SlotEvent → Bool
    is_plain (slot.Mount options) = false
    is_plain (slot.Remount options) = false
    is_plain (slot.Preallocate name a b) = false
    is_plain (slot.Map task home name a n sharing reserving) = false
    is_plain (slot.Anon task home n sharing reserving) = false
    is_plain (slot.Fault task home number i t) = false
    is_plain (slot.Load task home number i offset count) = false
    is_plain (slot.Store task home number i offset bytes) = false
    is_plain e = true

    goes_event : (old : Slot) (e : SlotEvent) → is_plain e ≡ true → At KeepsGoing (slot_event size k c old e)
    goes_event None e plain = grind arith
    goes_event (Some m) slot.Df plain = tt
    goes_event (Some m) e plain = grind (arith, goes_tests, given, of_unmap, of_fork)

  -- ---- steps of one event

  -- what is told apart, of the pool and the limits at once
  abbrev is_remount : SlotEvent → Bool
  is_remount (slot.Remount options) = true
  is_remount e = false

  at_weaker : (P Q : Outcome → Type 0) → ((o : Outcome) → P o → Q o) → (p : Plan) → At P p → At Q p
  at_weaker P Q h p at = grind arith

  abbrev Meets : ℕ → SlotEvent → Outcome → Type 0
  Meets k e o = MeetsShortage s (slot_step k e) (reply_of o)

  module _ (c : Choice) (k : ℕ) where
    plain_meets : (e : SlotEvent) → is_plain c s.page_size k e ≡ true → (o : Outcome) → KeepsGoing o → Meets k e o
    plain_meets e plain o h = grind arith

    turn : (e : SlotEvent) (P : Outcome → Type 0) → ((o : Outcome) → P o → Meets k e o) → At P (slot_event s.page_size k c (slot_at s k) e)
        → At (Meets k e) (slot_event s.page_size k c (slot_at s k) e)
    turn e P h at = at_weaker P (Meets k e) h (slot_event s.page_size k c (slot_at s k) e) at

    of_plain : (e : SlotEvent) → is_plain c s.page_size k e ≡ true → At (Meets k e) (slot_event s.page_size k c (slot_at s k) e)
    of_plain e plain = turn e KeepsGoing (plain_meets e plain) (goes_event c s.page_size k (slot_at s k) e plain)

    mount_meets : (options : List ℕ) (o : Outcome) → MountShort c s.page_size k options o → Meets k (slot.Mount options) o
    mount_meets options o h = grind arith

    map_meets : (task home : ℕ) (name : List ℕ) (a n : ℕ) (sharing : Sharing) (reserving : Reserving) (o : Outcome)
        → ShortOn (slot_at s k) (step.Map task k name a n sharing reserving) o → Meets k (slot.Map task home name a n sharing reserving) o
    map_meets task home name a n sharing reserving o h = grind arith

    fill_meets : (name : List ℕ) (a b : ℕ) (o : Outcome) → ShortOn (slot_at s k) (step.Preallocate k name a b) o → Meets k (slot.Preallocate name a b) o
    fill_meets name a b o h = grind arith

    anon_meets : k ≡ 0 → (task home n : ℕ) (sharing : Sharing) (reserving : Reserving) (o : Outcome)
        → ShortOn (slot_at s k) (step.Anon task n sharing reserving) o → Meets k (slot.Anon task home n sharing reserving) o
    anon_meets here task home n sharing reserving o h = grind arith

    fault_meets : (task home number i : ℕ) (t : Intent) (o : Outcome) → ShortOn (slot_at s k) (step.Fault task k number i t) o → Meets k (slot.Fault task home number i t) o
    fault_meets task home number i t o h = grind arith

    load_meets : (task home number i offset count : ℕ) (o : Outcome) → ShortOn (slot_at s k) (step.Load task k number i offset count) o → Meets k (slot.Load task home number i offset count) o
    load_meets task home number i offset count o h = grind arith

    store_meets : (task home number i offset : ℕ) (bytes : List ℕ) (o : Outcome)
        → ShortOn (slot_at s k) (step.Store task k number i offset bytes) o → Meets k (slot.Store task home number i offset bytes) o
    store_meets task home number i offset bytes o h = grind arith

    meets : (e : SlotEvent) → is_remount e ≡ false → is_whole (OnSlot k e) ≡ true → At (Meets k e) (slot_event s.page_size k c (slot_at s k) e)
    meets (slot.Map task home name a n sharing reserving) other whole = grind (arith, turn, map_meets, of_map)
    meets (slot.Preallocate name a b) other whole = grind (arith, turn, fill_meets, of_preallocate)
    meets (slot.Anon task home n sharing reserving) other whole = grind (arith, turn, anon_meets, eqb-true, of_anon)
    meets (slot.Fault task home number i t) other whole = grind (arith, turn, fault_meets, of_fault)
    meets (slot.Load task home number i offset count) other whole = grind (arith, turn, load_meets, of_load)
    meets (slot.Store task home number i offset bytes) other whole = grind (arith, turn, store_meets, of_store)
    meets e other whole = grind (arith, turn, mount_meets, of_mount, of_plain)

-- ---- the table and the pool

-- it is no refusal for pages
abbrev Plain : Reply → Type 0
Plain (Ok a) = Unit {0}
Plain (Err r) = is_for_pages r ≡ false

table_plain : (s : State) (nodes : ℕ) (old : Table) (e : TableEvent) → Plain (table_event nodes old e).0
table_plain s nodes old e = grind arith

pool_plain : (p : Pool) (e : PoolEvent) → Plain (pool_event p e).0
pool_plain p e = grind arith

-- ---- a fork and an exit

reply_plain : (o : Outcome) → KeepsGoing o → Plain (reply_of o)
reply_plain o h = grind arith

module _ (reply : Reply) (t : State) where
  -- what all ends of the rest lead to
  pub exits_lead : (P : Type 0) (task : ℕ) (ks : List ℕ) (next : Script) → ((u : State) → IsScript u next reply t → P) → (u : State) → IsScript u (exit_slots ks task next) reply t → P
  exits_lead P task [] next h u is = h u is
  exits_lead P task (k ∷ ks) next h u is =
      either_way (has_maps_of task (slot_at u k)) (λ it. exits_lead P task ks next h it.1 it.3) (λ it. exits_lead P task ks next h u it) is

  undone_plain : (done : List ℕ) (child : ℕ) (r : Refusal) → Plain (Err r) → (u : State) → IsScript u (undone done child r) reply t → Plain reply
  undone_plain done child r h u is = exits_lead (Plain reply) child done _ (λ v it. subst Plain (sym it.3.0) h) u is

  forks_plain : (parent child : ℕ) (ks done : List ℕ) (u : State) → IsScript u (fork_slots ks done parent child) reply t → Plain reply
  forks_plain parent child [] done u is = subst Plain (sym is.0) tt
  forks_plain parent child (k ∷ ks) done u is =
      either_way (has_maps_of parent (slot_at u k))
      (λ it. (let o = event_at u KeepsGoing k (slot.ForkMaps parent child) it.0 it.1 (λ c. of_fork u c u.page_size k (slot_at u k) parent child) it.2 in
      by_reply it.0 it.1 (subst Plain (sym o.2) (reply_plain o.0 o.1)) (λ next. forks_plain parent child ks (done ++ k ∷ []) it.1 next) it.3))
      (λ it. forks_plain parent child ks done u it) is
    where
      by_reply : (r : Reply) (mid : State) → Plain r → (IsScript mid (fork_slots ks (done ++ k ∷ []) parent child) reply t → Plain reply)
          → IsScript mid (or_undone done child r (fork_slots ks (done ++ k ∷ []) parent child)) reply t → Plain reply
      by_reply (Err r) mid h next it = undone_plain done child r h mid it
      by_reply (Ok a) mid h next it = next it

  when_plain : (r : Reply) (mid : State) (next : Script) → Plain r → ((u : State) → IsScript u next reply t → Plain reply) → IsScript mid (when_done r next) reply t → Plain reply
  when_plain r mid next h go is = grind arith

  module _ (s : State) where
    table_reply : (e : TableEvent) (r : Reply) (mid : State) → IsEvent s (Tasks e) r mid → Plain r
    table_reply e r mid is = subst Plain (ap (λ (q : Reply × State). q.0) is.2) (table_plain s (length s.nodes) s.table e)

    fork_plain : (parent child : ℕ) → IsScripted s (step.Fork parent child) reply t → Plain reply
    fork_plain parent child is = grind (arith, when_plain, table_reply, forks_plain)

    exit_plain : (task : ℕ) → IsScripted s (step.Exit task) reply t → Plain reply
    exit_plain task is =
        when_plain is.0 is.1 (exit_slots (range_with_len 0 (length s.slots)) task (Answer_with (Ok Done))) (table_reply (table.Remove task) is.0 is.1 is.2)
        (λ u it. exits_lead (Plain reply) task (range_with_len 0 (length s.slots)) (Answer_with (Ok Done)) (λ v end. subst Plain (sym end.0) tt) u it) is.3

-- ---- each step

module _ (s : State) where
  abbrev none_asked : Step → Bool
  none_asked (step.Mount k options) = false
  none_asked (step.Remount k options) = false
  none_asked (step.Preallocate k name a b) = false
  none_asked (step.Map task k name a n sharing reserving) = false
  none_asked (step.Anon task n sharing reserving) = false
  none_asked (step.Fault task k number i t) = false
  none_asked (step.Load task k number i offset count) = false
  none_asked (step.Store task k number i offset bytes) = false
  none_asked x = true

  by_plain : (x : Step) → none_asked x ≡ true → (reply : Reply) → Plain reply → MeetsShortage s x reply
  by_plain x none reply h = grind arith

  plain_on : (old : Slot) (x : Step) (r : Refusal) → is_for_pages r ≡ false → IsShortOn (pool_of s) old x r
  plain_on old x r e = grind arith

  plain_mount : (l : Result Limits Refusal) (r : Refusal) → is_for_pages r ≡ false → IsMountShort (pool_of s) l r
  plain_mount l r e = grind arith

  plain_remount : (old : Slot) (l : Result Limits Refusal) (r : Refusal) → is_for_pages r ≡ false → IsRemountShortOn (pool_of s) old l r
  plain_remount old l r e = grind arith

  -- what a remount of an open slot lacks
  remount_short : (k : ℕ) (options : List ℕ) (m : Mount) (reply : Reply) (t : State) → slot_at s k ≡ Some m → IsEvent s (OnSlot k (slot.Remount options)) reply t
      → MeetsShortage s (step.Remount k options) reply
  remount_short k options m reply t there is =
      subst (λ r. MeetsShortage s (step.Remount k options) r) (sym (remount_ends s k options m there reply t is).replied)
      (by_limits (k == 0) (limits s.nr s.page_size (wanted_of options)) refl (remount_told s k options m) (told_granted s k options m))
    where
      plainly : (r : Refusal) → is_for_pages r ≡ false → MeetsShortage s (step.Remount k options) (Err r)
      plainly r e = plain_remount (slot_at s k) (limits s.nr s.page_size (wanted_of options)) r e

      by_granted : (l : Limits) → limits s.nr s.page_size (wanted_of options) ≡ Ok l → (b : Bool)
          → (b ≡ false → can_grant (committed_with m l.min - committed_of m) (pool_of s) ≡ false)
          → MeetsShortage s (step.Remount k options) (reply_of (if b then Answered Done (Some (record m { limits = l })) else Refused NoPages))
      by_granted l wanted b lacks = grind arith

      by_limits : (first : Bool) (x : Result Limits Refusal) → limits s.nr s.page_size (wanted_of options) ≡ x → (a : PoolAnswer)
          → ((l : Limits) → limits s.nr s.page_size (wanted_of options) ≡ Ok l → a.granted ≡ false → can_grant (committed_with m l.min - committed_of m) (pool_of s) ≡ false)
          → MeetsShortage s (step.Remount k options) (reply_of (if first then Refused SlotTaken else remount_outcome m a x))
      by_limits true x wanted a lacks = plainly SlotTaken refl
      by_limits false (Err r) wanted a lacks = plainly r (limits_plain s.nr s.page_size (wanted_of options) r wanted)
      by_limits false (Ok l) wanted a lacks = by_granted l wanted a.granted (lacks l wanted)

  event_remount : (k : ℕ) (options : List ℕ) (old : Slot) → slot_at s k ≡ old → (reply : Reply) (t : State) → IsEvent s (OnSlot k (slot.Remount options)) reply t
      → MeetsShortage s (step.Remount k options) reply
  event_remount k options (Some m) there reply t is = remount_short k options m reply t there is
  event_remount k options None there reply t is = grind (arith, plain_remount)

  event_other : (k : ℕ) (e : SlotEvent) (reply : Reply) (t : State) → is_remount s e ≡ false → is_whole (OnSlot k e) ≡ true → IsEvent s (OnSlot k e) reply t
      → MeetsShortage s (slot_step k e) reply
  event_other k e reply t other whole is =
      let it = event_at s (Meets s k e) k e reply t (λ c. meets s c k e other whole) is in subst (λ r. MeetsShortage s (slot_step k e) r) (sym it.2) it.1

  early_short : (x : Step) (r : Refusal) → is_early r ≡ true → MeetsShortage s x (Err r)
  early_short (step.Mount k options) r early = plain_mount (limits s.nr s.page_size (wanted_of options)) r (early_pages r early)
  early_short x r early = grind (arith, plain_remount, early_pages, plain_on)

  event_short : (e : Event) (reply : Reply) (t : State) → is_whole e ≡ true → IsEvent s e reply t → MeetsShortage s (step_of e) reply
  event_short (OnSlot k (slot.Remount options)) reply t whole is = event_remount k options (slot_at s k) refl reply t is
  event_short (OnSlot k e) reply t whole is = event_other k e reply t refl whole is
  event_short (Tasks (table.FindAndAdd parent child)) reply t whole is = cc
  event_short (Tasks e) reply t whole is = grind (arith, by_plain, table_reply)
  event_short (OnPool (pool.Overcommit n)) reply t whole is = grind (arith, by_plain, pool_plain)
  event_short (OnPool e) reply t whole is = grind (arith, by_plain, pool_plain)

  pub step_short : (reply : Reply) (t : State) (x : Step) → IsStep s x reply t → MeetsShortage s x reply
  step_short reply t x is =
      by_event s (λ x reply t. MeetsShortage s x reply) early_short event_short
      (λ parent child reply t it. by_plain (step.Fork parent child) refl reply (fork_plain reply t s parent child it))
      (λ task reply t it. by_plain (step.Exit task) refl reply (exit_plain reply t s task it)) reply t x is
