-- A step is refused by the first of its tests that fails; one that fails none is done, where there are pages and memory.
use Rattle.std.proofs.Common.{arith, ◌≡◌, ◌⊎◌, inl, subst, ℕ, ◌+◌, ◌&&◌, ◌||◌, ◌==◌, Bool, true, false, not, None, Option, Some, is_some, Result as ResultOf, Ok, Err, List, [], ◌∷◌, ◌++◌, length}
use Rattle.std.proofs.Common.{refl, sym, ap, ◌∙◌, if◌then◌else◌, nat_lt}
use Rattle.std.proofs.lemmas.Grind.{common_steps}
use Rattle.std.specs.List.{range_with_len}
use Rattle.std.proofs.lemmas.Bool.{ltb-false}
use Rattle.std.proofs.lemmas.List.{get_or_past}
use Rattle.hp_laws.proofs.Variants.{BeyondEnd, CrossesPage, Done, Intent, Limits, NoPages, NoSuchFile, NoSuchMap, NoSuchSlot, NoSuchTask, OutOfRange, Pool as OnPool, PoolAnswer, PoolEvent, Read}
use Rattle.hp_laws.proofs.Variants.{Refusal, Reserving, Sharing, Slot as OnSlot, SlotEvent, SlotTaken, Step, TakenByOwner, Tasks, TooMany}
use Rattle.hp_model.specs.declared.event.PoolEvent.TheVariants as pool
use Rattle.hp_model.specs.declared.event.SlotEvent.TheVariants as slot
use Rattle.hp_model.specs.declared.event.TableEvent.TheVariants as table
use Rattle.hp_model.specs.declared.step.Step.TheVariants as step
use Rattle.hp_model.proofs.Words.{Answer_with, Answered, Choice, IsEvent, IsForkRefusedBy, IsRefusedBy, IsScript, IsScripted, IsStep, MeetsTests, Mount, Outcome, Plan, Pool, Refused, Reply, Script}
use Rattle.hp_model.proofs.Words.{Slot, Spot, State, Table, access, again, anon_tests, asked, byte_access, byte_tests, bytes_answer, cell_at, continued, copy_of, cut_off_test, failed, failed_at}
use Rattle.hp_model.proofs.Words.{failed_by, failed_mount, failed_on, failed_remount, fault, fault_tests, file_named, finding, first_failed, fork_slots, gives, grant, has_maps_of, home_of, if_there}
use Rattle.hp_model.proofs.Words.{is_beyond, is_map, is_shared, is_short, is_unmapped, limits, load, map_file, map_tests, most_bytes, mount_outcome, mount_pages, mount_section, new_file, on_slot}
use Rattle.hp_model.proofs.Words.{only, or_refused, or_undone, place_at, planned, pool_event, pool_of, private_access, refuse, refused_limits, remount_outcome, section, shared_access, slot_at}
use Rattle.hp_model.proofs.Words.{slot_event, spot, store, undone, unless, value, wanted_of, with_outcome, with_pool, with_value}
use Rattle.hp_laws.proofs.ending.Fades.{exits_done}
use Rattle.hp_laws.proofs.ending.RefusedForks.{either_with}
use Rattle.hp_laws.proofs.promises.Shortage.{exits_lead}
use Rattle.hp_laws.proofs.steps.SlotsBalanced.{tells_nr}
use Rattle.hp_laws.proofs.steps.Outcomes.{Always, always_if, always_then, event_ends, only_goes, reply_of}
use Rattle.hp_laws.proofs.making.Remounts.{remount_ends, remount_told}
use Rattle.hp_laws.proofs.accesses.SlotShows.{always_gives}

-- ---- outcomes

abbrev Fits : Option Refusal → Outcome → Type 0
Fits x o = IsRefusedBy x (reply_of o)

-- done, or refused for want of pages or memory
abbrev Short : Outcome → Type 0
Short o = Fits None o

fits_test : (b : Bool) (r : Refusal) (ts : List (Bool × Refusal)) (p : Plan) → (b ≡ false → Always (Fits (first_failed ts)) p)
    → Always (Fits (if b then Some r else first_failed ts)) (if b then refuse r else p)
fits_test b r ts p h = grind arith

fits_tests : (ts us : List (Bool × Refusal)) (p : Plan) → Always (Fits (first_failed us)) p → Always (Fits (first_failed (ts ++ us))) (unless ts p)
fits_tests [] us p h = h
fits_tests (t ∷ ts) us p h = fits_test t.0 t.1 (ts ++ us) (unless ts p) (λ e. fits_tests ts us p h)

fits_there : {X : Type 0} (o : Option X) (r : Refusal) (g : X → Option Refusal) (f : X → Plan) → ((x : X) → Always (Fits (g x)) (f x))
    → Always (Fits (if_there o r g)) (with_value o r f)
fits_there o r g f h = grind arith

short_test : (b : Bool) (r : Refusal) (p : Plan) → Short (Refused r) → Always Short p → Always Short (if b then refuse r else p)
short_test b r p e h = grind arith

granted_short : (b : Bool) (o : Outcome) → Short o → Short (if b then o else Refused NoPages)
granted_short b o h = grind arith

grant_short : (c : Choice) (m : Mount) (home k : ℕ) (o : Outcome) → Short o → Always Short (grant c m home k o)
grant_short c m home k o h = grind arith

gives_short : (old new : Slot) → Always Short (gives Done old new)
gives_short old new = always_gives Short Done old new refl

-- ---- accesses

module _ (c : Choice) (size : ℕ) (m : Mount) (s : Spot) (home i : ℕ) where
  kind_fits : (kind : Sharing) (intent : Intent) → is_unmapped s i ≡ false
      → Always (Fits (first_failed ((not (is_shared kind) && (s.map.unmapped && not (is_some (copy_of (place_at s.map i)))), TakenByOwner) ∷ [])))
      (if is_shared kind then shared_access c size m s home i (cell_at s.file i) else private_access c size m s home i (place_at s.map i) intent)
  kind_fits kind intent live = grind arith

  access_fits : (intent : Intent) → is_unmapped s i ≡ false → Always (Fits (first_failed (cut_off_test i s))) (access c size m s home i intent)
  access_fits intent live = kind_fits s.map.sharing intent live

  fault_fits : (intent : Intent) → Always (Fits (first_failed (fault_tests i s ++ cut_off_test i s))) (fault c size m home i intent s)
  fault_fits intent = grind (arith, common_steps)

  or_not : (a b : Bool) → (a || b) ≡ false → a ≡ false
  or_not a b e = grind arith

  bytes_fit : (offset count : ℕ) (intent : Intent) → Always (Fits (first_failed (byte_tests size i offset count s ++ cut_off_test i s))) (byte_access c size m home i offset count intent s)
  bytes_fit offset count intent =
      let rest : List (Bool × Refusal) = (nat_lt size (offset + count), CrossesPage) ∷ (nat_lt most_bytes count, TooMany) ∷ (is_beyond s i, BeyondEnd) ∷ [] in
      fits_test (is_unmapped s i || (count == 0)) OutOfRange (rest ++ cut_off_test i s) _
      (λ e. fits_tests rest (cut_off_test i s) (access c size m s home i intent) (access_fits intent (or_not (is_unmapped s i) (count == 0) e)))

  -- what is done after an answer
  after_fits : (x : Option Refusal) (f : Mount → Outcome) → ((n : Mount) → Short (f n)) → ((n : Mount) (r : Refusal) → reply_of (f n) ≡ Err r → ⊥) → (o : Outcome) → Fits x o → Fits x (continued f o)
  after_fits x f h done o fits = grind arith

  load_fits : (offset count : ℕ) → Always (Fits (first_failed (byte_tests size i offset count s ++ cut_off_test i s))) (load c size m home i offset count s)
  load_fits offset count =
      let x = first_failed (byte_tests size i offset count s ++ cut_off_test i s) in
      let f : Mount → Outcome = λ n. Answered (bytes_answer offset count (value size (again n s).file (again n s).map i)) (Some n) in
      always_then (Fits x) (Fits x) f (after_fits x f (λ n. refl) (λ n r e. cc)) (byte_access c size m home i offset count Read s) (bytes_fit offset count Read)

  store_fits : (offset : ℕ) (bytes : List ℕ) → Always (Fits (first_failed (byte_tests size i offset (length bytes) s ++ cut_off_test i s))) (store c size m home i offset bytes s)
  store_fits offset bytes = grind arith

-- ---- events

module _ (size k : ℕ) (c : Choice) where
  abbrev Decides : Slot → Step → SlotEvent → Type 0
  Decides old x e = Always (Fits (if_there old NoSuchSlot (λ m. failed_on size m x))) (slot_event size k c old e)

  fits_tested : (ts : List (Bool × Refusal)) (p : Plan) → Always Short p → Always (Fits (first_failed (ts ++ []))) (unless ts p)
  fits_tested ts p h = fits_tests ts [] p h

  of_umount : (old : Slot) → Decides old (step.Umount k) slot.Umount
  of_umount old = grind (arith, common_steps)

  of_create : (old : Slot) (name : List ℕ) → Decides old (step.Create k name) (slot.Create name)
  of_create None name = refl
  of_create (Some m) name = grind (arith, fits_tests, short_test)

  of_unlink : (old : Slot) (name : List ℕ) → Decides old (step.Unlink k name) (slot.Unlink name)
  of_unlink old name = grind arith

  of_truncate : (old : Slot) (name : List ℕ) (n : ℕ) → Decides old (step.Truncate k name n) (slot.Truncate name n)
  of_truncate old name n = grind arith

  of_punch : (old : Slot) (name : List ℕ) (a b : ℕ) → Decides old (step.Punch k name a b) (slot.Punch name a b)
  of_punch None name a b = refl
  of_punch (Some m) name a b = grind (arith, fits_there, fits_tested, gives_short)

  of_preallocate : (old : Slot) (name : List ℕ) (a b : ℕ) → Decides old (step.Preallocate k name a b) (slot.Preallocate name a b)
  of_preallocate None name a b = refl
  of_preallocate (Some m) name a b = grind (arith, fits_there, fits_tested, always_if, short_test, granted_short)

  of_read : (old : Slot) (name : List ℕ) (i offset count : ℕ) → Decides old (step.Read k name i offset count) (slot.Read name i offset count)
  of_read old name i offset count = grind (arith, common_steps)

  of_ls : (old : Slot) → Decides old (step.Ls k) slot.Ls
  of_ls old = grind arith

  of_stat : (old : Slot) (name : List ℕ) → Decides old (step.Stat k name) (slot.Stat name)
  of_stat old name = grind arith

  of_df : (old : Slot) → Decides old (step.Df k) slot.Df
  of_df old = grind arith

  of_map : (old : Slot) (task home : ℕ) (name : List ℕ) (a n : ℕ) (sharing : Sharing) (reserving : Reserving)
      → Decides old (step.Map task k name a n sharing reserving) (slot.Map task home name a n sharing reserving)
  of_map None task home name a n sharing reserving = refl
  of_map (Some m) task home name a n sharing reserving =
      fits_there (file_named m name) NoSuchFile (λ f. first_failed (map_tests m task a n)) (map_file c m task home a n sharing reserving)
      (λ f. fits_tested (map_tests m task a n) _ (grant_short c m home (asked sharing reserving a n f.1) _ refl))

  of_anon : (old : Slot) (task home n : ℕ) (sharing : Sharing) (reserving : Reserving) → Decides old (step.Anon task n sharing reserving) (slot.Anon task home n sharing reserving)
  of_anon None task home n sharing reserving = refl
  of_anon (Some m) task home n sharing reserving = fits_tested (anon_tests m task n) _ (grant_short c m home (asked sharing reserving 0 n (new_file None)) _ refl)

  of_unmap : (old : Slot) (task number a b : ℕ) → Decides old (step.Unmap task k number a b) (slot.Unmap task number a b)
  of_unmap None task number a b = refl
  of_unmap (Some m) task number a b = grind (arith, fits_there, fits_tested, gives_short)

  of_fault : (old : Slot) (task home number i : ℕ) (intent : Intent) → Decides old (step.Fault task k number i intent) (slot.Fault task home number i intent)
  of_fault None task home number i intent = refl
  of_fault (Some m) task home number i intent =
      fits_there (spot m (is_map task number)) NoSuchMap (λ s. first_failed (fault_tests i s ++ cut_off_test i s)) (fault c size m home i intent)
      (λ s. fault_fits c size m s home i intent)

  of_load : (old : Slot) (task home number i offset count : ℕ) → Decides old (step.Load task k number i offset count) (slot.Load task home number i offset count)
  of_load None task home number i offset count = refl
  of_load (Some m) task home number i offset count =
      fits_there (spot m (is_map task number)) NoSuchMap (λ s. first_failed (byte_tests size i offset count s ++ cut_off_test i s)) (load c size m home i offset count)
      (λ s. load_fits c size m s home i offset count)

  of_store : (old : Slot) (task home number i offset : ℕ) (bytes : List ℕ) → Decides old (step.Store task k number i offset bytes) (slot.Store task home number i offset bytes)
  of_store None task home number i offset bytes = refl
  of_store (Some m) task home number i offset bytes =
      fits_there (spot m (is_map task number)) NoSuchMap (λ s. first_failed (byte_tests size i offset (length bytes) s ++ cut_off_test i s)) (store c size m home i offset bytes)
      (λ s. store_fits c size m s home i offset bytes)

-- ---- steps

-- the table's tests
table_meets : (ts : List (Bool × Refusal)) (old after : Table) → IsRefusedBy (first_failed ts) (or_refused ts old (Ok Done, after)).0
table_meets [] old after = refl
table_meets (x ∷ ts) old after = by_test x.0 (table_meets ts old after)
  where
    by_test : (b : Bool) → IsRefusedBy (first_failed ts) (or_refused ts old (Ok Done, after)).0
        → IsRefusedBy (if b then Some x.1 else first_failed ts) (if◌then◌else◌ {A = Reply × Table} b (Err x.1, old) (or_refused ts old (Ok Done, after))).0
    by_test b rest = grind arith

module _ (s : State) (reply : Reply) (t : State) where
  slot_meets : (k : ℕ) (x : Step) (e : SlotEvent) → ((c : Choice) → Decides s.page_size k c (slot_at s k) x e) → IsScript s (on_slot (length s.slots) k e) reply t → IsRefusedBy (failed_at s k x) reply
  slot_meets k x e all is = by_test (nat_lt k (length s.slots)) refl is
    where
      by_test : (b : Bool) → nat_lt k (length s.slots) ≡ b → IsScript s (if b then only (OnSlot k e) else Answer_with (Err NoSuchSlot)) reply t → IsRefusedBy (failed_at s k x) reply
      by_test true there it =
          let ends = event_ends (Fits (failed_at s k x)) s k e reply t all (only_goes s (OnSlot k e) reply t it) in
          subst (λ r. IsRefusedBy (failed_at s k x) r) (sym ends.replied) ends.holds
      by_test false none it =
          subst (λ (o : Slot). IsRefusedBy (if_there o NoSuchSlot (λ m. failed_on s.page_size m x)) reply) (sym (get_or_past s.slots k None (ltb-false k (length s.slots) none))) it.0

  task_meets : (task : ℕ) (x : Option Refusal) (next : ℕ → Script) → ((home : ℕ) → IsScript s (next home) reply t → IsRefusedBy x reply) → IsScript s (finding task next) reply t
      → IsRefusedBy (if_there (home_of s.table task) NoSuchTask (λ home. x)) reply
  task_meets task x next h is = grind arith

  access_meets : (task k : ℕ) (x : Step) (e : ℕ → SlotEvent) → ((home : ℕ) (c : Choice) → Decides s.page_size k c (slot_at s k) x (e home))
      → IsScript s (finding task (λ home. on_slot (length s.slots) k (e home))) reply t → IsRefusedBy (failed_by s task k x) reply
  access_meets task k x e all is = task_meets task (failed_at s k x) (λ home. on_slot (length s.slots) k (e home)) (λ home it. slot_meets k x (e home) (all home) it) is

  attach_meets : (task : ℕ) → IsEvent s (Tasks (table.Find task)) reply t → IsRefusedBy (failed s (step.Attach task)) reply
  attach_meets task is = grind arith

  abbrev ks : List ℕ
  ks = range_with_len 0 (length s.slots)

  exit_meets : (task : ℕ) → IsScripted s (step.Exit task) reply t → IsRefusedBy (failed s (step.Exit task)) reply
  exit_meets task is = grind (arith, exits_done)

  pool_meets : (e : PoolEvent) (r : Reply) → (pool_event (pool_of s) e).0 ≡ r → IsEvent s (OnPool e) reply t → reply ≡ r
  pool_meets e r same is = sym (ap (λ (q : Reply × State). q.0) is.2) ∙ same

  overcommit_meets : (n : ℕ) (b : Bool) (p q : Pool) → IsRefusedBy (if not b then Some OutOfRange else None) (if◌then◌else◌ {A = Reply × Pool} b (Ok Done, p) (Err OutOfRange, q)).0
  overcommit_meets n b p q = grind arith

  remount_meets : (k : ℕ) (options : List ℕ) → IsScripted s (step.Remount k options) reply t → IsRefusedBy (failed s (step.Remount k options)) reply
  remount_meets k options is = by_test (nat_lt k (length s.slots)) refl is
    where
      by_limits : (m : Mount) (first : Bool) (a : PoolAnswer) (l : ResultOf Limits Refusal)
          → IsRefusedBy (if first then Some SlotTaken else refused_limits l) (reply_of (if first then Refused SlotTaken else remount_outcome m a l))
      by_limits m first a l = grind arith

      by_slot : (old : Slot) → slot_at s k ≡ old → IsEvent s (OnSlot k (slot.Remount options)) reply t
          → IsRefusedBy (if_there old NoSuchSlot (λ m. failed_remount k (limits s.nr s.page_size (wanted_of options)))) reply
      by_slot None there it =
          let e = subst (λ (x : Slot). planned s k (slot_event s.page_size k it.0 x (slot.Remount options)) ≡ (reply, t)) there it.2 in sym (ap (λ (q : Reply × State). q.0) e)
      by_slot (Some m) there it =
          subst (λ r. IsRefusedBy (failed_remount k (limits s.nr s.page_size (wanted_of options))) r) (sym (remount_ends s k options m there reply t it).replied)
          (by_limits m (k == 0) (remount_told s k options m) (limits s.nr s.page_size (wanted_of options)))

      by_test : (b : Bool) → nat_lt k (length s.slots) ≡ b → IsScript s (if b then only (OnSlot k (slot.Remount options)) else Answer_with (Err NoSuchSlot)) reply t
          → IsRefusedBy (failed s (step.Remount k options)) reply
      by_test true there it = by_slot (slot_at s k) refl (only_goes s (OnSlot k (slot.Remount options)) reply t it)
      by_test false none it =
          subst (λ (o : Slot). IsRefusedBy (if_there o NoSuchSlot (λ m. failed_remount k (limits s.nr s.page_size (wanted_of options)))) reply)
          (sym (get_or_past s.slots k None (ltb-false k (length s.slots) none))) it.0

  -- ---- a mount

  mount_meets : (k : ℕ) (options : List ℕ) → IsScripted s (step.Mount k options) reply t → IsRefusedBy (failed s (step.Mount k options)) reply
  mount_meets k options is = by_test (nat_lt k (length s.slots)) is
    where
      by_limits : (c : Choice) (a : PoolAnswer) (l : ResultOf Limits Refusal) → IsRefusedBy (refused_limits l) (reply_of (mount_outcome c a l))
      by_limits c a l = grind arith

      settled_reply : (u : State) (o : Outcome) → (with_outcome u k o).0 ≡ reply_of o
      settled_reply u o = grind arith

      by_slot : (c : Choice) (old : Slot) → planned s k (slot_event s.page_size k c old (slot.Mount options)) ≡ (reply, t)
          → IsRefusedBy (failed_mount old (limits s.nr s.page_size (wanted_of options))) reply
      by_slot c (Some m) e = sym (ap (λ (q : Reply × State). q.0) e)
      by_slot c None e =
          let l = limits s.nr s.page_size (wanted_of options) in
          let d : ℕ = mount_pages c l in
          let q : PoolAnswer × Pool = section (pool_of s) (mount_section c d) in
          let at : with_outcome (with_pool s q.1) k (mount_outcome c q.0 l) ≡ (reply, t) =
          subst (λ nr. with_outcome (with_pool s q.1) k (mount_outcome c q.0 (limits nr s.page_size (wanted_of options))) ≡ (reply, t)) (tells_nr (pool_of s) c.after_grant d) e in
          subst (λ r. IsRefusedBy (refused_limits l) r) (sym (settled_reply (with_pool s q.1) (mount_outcome c q.0 l)) ∙ ap (λ (x : Reply × State). x.0) at) (by_limits c q.0 l)

      by_test : (b : Bool) → IsScript s (if b then only (OnSlot k (slot.Mount options)) else Answer_with (Err NoSuchSlot)) reply t
          → IsRefusedBy (if b then failed_mount (slot_at s k) (limits s.nr s.page_size (wanted_of options)) else Some NoSuchSlot) reply
      by_test true it = (let e = only_goes s (OnSlot k (slot.Mount options)) reply t it in by_slot e.0 (slot_at s k) e.2)
      by_test false it = it.0

  -- ---- a fork

  -- what a fork's slots lead to
  abbrev Forked : Reply → Type 0
  Forked r = (is_short r ≡ true) ⊎ (r ≡ Err TooMany)

  undone_meets : (done : List ℕ) (child : ℕ) (r : Refusal) → Forked (Err r) → (u : State) → IsScript u (undone done child r) reply t → Forked reply
  undone_meets done child r h u is = exits_lead reply t (Forked reply) child done _ (λ v it. subst Forked (sym it.3.0) h) u is

  slots_meet : (parent child : ℕ) (ks done : List ℕ) (u : State) → IsScript u (fork_slots ks done parent child) reply t → Forked reply
  slots_meet parent child [] done u is = inl (ap is_short is.0)
  slots_meet parent child (k ∷ ks) done u is =
      either_with (has_maps_of parent (slot_at u k))
      (λ has it. by_reply it.0 it.1 (by_slot (slot_at u k) refl has it.0 it.1 it.2) (λ next. slots_meet parent child ks (done ++ k ∷ []) it.1 next) it.3)
      (λ none it. slots_meet parent child ks done u it) is
    where
      by_slot : (old : Slot) → slot_at u k ≡ old → has_maps_of parent old ≡ true → (r : Reply) (v : State) → IsEvent u (OnSlot k (slot.ForkMaps parent child)) r v → Forked r
      by_slot old there has r v is = grind (arith, common_steps)

      by_reply : (r : Reply) (mid : State) → Forked r → (IsScript mid (fork_slots ks (done ++ k ∷ []) parent child) reply t → Forked reply)
          → IsScript mid (or_undone done child r (fork_slots ks (done ++ k ∷ []) parent child)) reply t → Forked reply
      by_reply (Err r) mid h next it = undone_meets done child r h mid it
      by_reply (Ok a) mid h next it = next it

  fork_meets : (parent child : ℕ) → IsScripted s (step.Fork parent child) reply t → IsForkRefusedBy (failed s (step.Fork parent child)) reply
  fork_meets parent child is = grind (arith, slots_meet)

  scripted_meets : (x : Step) → IsScripted s x reply t → MeetsTests s x reply
  scripted_meets (step.Connect task home) is = grind (arith, only_goes, table_meets)
  scripted_meets (step.Attach task) is = attach_meets task (only_goes s (Tasks (table.Find task)) reply t is)
  scripted_meets (step.Fork parent child) is = fork_meets parent child is
  scripted_meets (step.Exit task) is = exit_meets task is
  scripted_meets (step.Mount k options) is = mount_meets k options is
  scripted_meets (step.Remount k options) is = remount_meets k options is
  scripted_meets (step.Umount k) is = slot_meets k (step.Umount k) slot.Umount (λ c. of_umount s.page_size k c (slot_at s k)) is
  scripted_meets (step.Create k name) is = slot_meets k (step.Create k name) (slot.Create name) (λ c. of_create s.page_size k c (slot_at s k) name) is
  scripted_meets (step.Unlink k name) is = slot_meets k (step.Unlink k name) (slot.Unlink name) (λ c. of_unlink s.page_size k c (slot_at s k) name) is
  scripted_meets (step.Truncate k name n) is = slot_meets k (step.Truncate k name n) (slot.Truncate name n) (λ c. of_truncate s.page_size k c (slot_at s k) name n) is
  scripted_meets (step.Punch k name a b) is = slot_meets k (step.Punch k name a b) (slot.Punch name a b) (λ c. of_punch s.page_size k c (slot_at s k) name a b) is
  scripted_meets (step.Preallocate k name a b) is = grind (arith, slot_meets, of_preallocate)
  scripted_meets (step.Read k name i offset count) is = grind (arith, slot_meets, of_read)
  scripted_meets (step.Ls k) is = slot_meets k (step.Ls k) slot.Ls (λ c. of_ls s.page_size k c (slot_at s k)) is
  scripted_meets (step.Stat k name) is = slot_meets k (step.Stat k name) (slot.Stat name) (λ c. of_stat s.page_size k c (slot_at s k) name) is
  scripted_meets (step.Df k) is = slot_meets k (step.Df k) slot.Df (λ c. of_df s.page_size k c (slot_at s k)) is
  scripted_meets (step.Map task k name a n sharing reserving) is =
      access_meets task k (step.Map task k name a n sharing reserving) (λ home. slot.Map task home name a n sharing reserving)
      (λ home c. of_map s.page_size k c (slot_at s k) task home name a n sharing reserving) is
  scripted_meets (step.Anon task n sharing reserving) is = grind (arith, common_steps, access_meets, of_anon)
  scripted_meets (step.Unmap task k number a b) is = grind (arith, common_steps, access_meets, of_unmap)
  scripted_meets (step.Fault task k number i intent) is =
      access_meets task k (step.Fault task k number i intent) (λ home. slot.Fault task home number i intent) (λ home c. of_fault s.page_size k c (slot_at s k) task home number i intent) is
  scripted_meets (step.Load task k number i offset count) is =
      access_meets task k (step.Load task k number i offset count) (λ home. slot.Load task home number i offset count)
      (λ home c. of_load s.page_size k c (slot_at s k) task home number i offset count) is
  scripted_meets (step.Store task k number i offset bytes) is =
      access_meets task k (step.Store task k number i offset bytes) (λ home. slot.Store task home number i offset bytes)
      (λ home c. of_store s.page_size k c (slot_at s k) task home number i offset bytes) is
  scripted_meets (step.Nr n) is = ap is_short (pool_meets (pool.Nr n) _ refl (only_goes s (OnPool (pool.Nr n)) reply t is))
  scripted_meets (step.Overcommit n) is = grind (arith, only_goes, overcommit_meets)
  scripted_meets step.Meminfo is = ap is_short (pool_meets pool.Meminfo _ refl (only_goes s (OnPool pool.Meminfo) reply t is))
  scripted_meets step.Nodes is = ap is_short (pool_meets pool.Nodes _ refl (only_goes s (OnPool pool.Nodes) reply t is))

pub step_meets : (s : State) (reply : Reply) (t : State) (step : Step) → IsStep s step reply t → MeetsTests s step reply
unfolding IsStep
step_meets s reply t step is = scripted_meets s reply t step is
