-- What each step of a settled machine answers is within the limits of a reply's text.
use Rattle.std.proofs.lemmas.Grind.{common_steps}
use Rattle.std.proofs.Common.{◌≡◌, subst, ℕ, suc, ◌+◌, ◌^◌, ◌<◌, ◌≤◌, ◌∙◌, Bool, true, false, not, None, Some, Ok, List, [], ◌∷◌, ◌++◌, length, refl, sym, ap, arith, cond, filter}
use Rattle.std.specs.List.{position_or_len, range_with_len}
use Rattle.std.proofs.lemmas.Bool.{cond_both, leb-false, ltb-false, or_parts}
use Rattle.std.proofs.lemmas.List.{length-map}
use Rattle.std.proofs.lemmas.List.FromFn.{length-range_with_len}
use Rattle.hp_laws.proofs.Variants.{Answer, Bytes, Done, Event, Exit, Fork, MapNo, MountFull, OutOfMemory, Pool as OnPool, PoolEvent, Slot as OnSlot, SlotEvent, Step, TableEvent, Tasks}
use Rattle.hp_model.specs.declared.event.PoolEvent.TheVariants as pool
use Rattle.hp_model.specs.declared.event.SlotEvent.TheVariants as slot
use Rattle.hp_model.specs.declared.event.TableEvent.TheVariants as table
use Rattle.hp_model.proofs.Words.{Answer_with, Answered, Choice, Do, IsEvent, IsScript, IsSettledState, IsStep, IsWithinLimits, Mount, Node, Outcome, Plan, Refused, Reply, Script, Slot, Spot, State}
use Rattle.hp_model.proofs.Words.{Table, Where_mapped, asked, edited, exit_slots, fork_slots, forked, gives, has_maps_of, is_full, is_map, is_usage, lacking, load, mapped, maps_of, most_bytes}
use Rattle.hp_model.proofs.Words.{new_file, next_number, or_undone, pool_event, pool_of, punched, range_filled, rise, rising_nodes, rows_of, script, slot_at, slot_event, store, table_event, truncated}
use Rattle.hp_model.proofs.Words.{unentered, unlinked, unmapped_from, when_done, with_file, with_new, without_task}
use Rattle.hp_laws.proofs.counts.MountMoves.{IsSpot, spot_is}
use Rattle.hp_laws.proofs.steps.Outcomes.{either_way, Always, always_weaker, event_ends, reply_of}
use Rattle.hp_laws.proofs.steps.Whole.{by_event, is_whole, step_of}
use Rattle.hp_laws.proofs.accesses.EndsDone.{fault_done}
use Rattle.hp_laws.proofs.accesses.SlotShows.{always_fill, always_gives, always_grant, always_mount, always_remounting}
use Rattle.hp_laws.proofs.steps.Walk.{AreFewMaps, Walks, tells_all, walk_all}
use Rattle.hp_laws.proofs.promises.SmallPool.{meminfo_small, most_frames_in, nodes_small}

abbrev pub Small : Outcome → Type 0
Small o = IsWithinLimits (reply_of o)

-- ---- numbers

count_le : {X : Type 0} (p : X → Bool) (xs : List X) → position_or_len p xs ≤ length xs
count_le p [] = omega arith
count_le p (x ∷ xs) = cond_both (not (p x)) (1 + position_or_len p xs) 0 (λ n. n ≤ suc (length xs)) (λ e. (let rest = count_le p xs in omega (arith, rest))) (λ e. omega arith)

filter_head : {X : Type 0} (b : Bool) (x : X) (ys : List X) (n : ℕ) → length ys ≤ n → length (cond b (x ∷ ys) ys) ≤ suc n
filter_head b x ys n le = grind arith

filter_le : {X : Type 0} (p : X → Bool) (xs : List X) → length (filter p xs) ≤ length xs
filter_le p [] = omega arith
filter_le p (x ∷ xs) = filter_head (p x) x (filter p xs) (length xs) (filter_le p xs)

-- a map's number is at most two above the number of maps
number_le : (task : ℕ) (m : Mount) → next_number task m ≤ length (maps_of m) + 2
number_le task m = grind (arith, count_le, length-range_with_len, filter_le, length-map)

pub rows_many : (s : State) (a : ℕ) (xs : List Node) → length (rows_of s a xs) ≡ length xs
rows_many s a [] = refl
rows_many s a (x ∷ xs) = ap suc (rows_many s (a + 1) xs)

module _ (s : State) (st : IsSettledState s) where
  few_rows : length (pool_of s).nodes.rows ≤ 4
  few_rows = omega (arith, rows_many s 0 s.nodes, st.nodes)

  pool_small : (e : PoolEvent) → IsWithinLimits (pool_event (pool_of s) e).0
  pool_small (pool.Nr n) = omega (arith, most_frames_in (pool_of s) st.pool few_rows)
  pool_small (pool.Overcommit n) = grind (arith, cond_both)
  pool_small pool.Meminfo = meminfo_small (pool_of s) st.pool few_rows
  pool_small pool.Nodes = nodes_small (pool_of s) st.pool few_rows

-- ---- events on a slot

-- done, or a map's number or bytes within their limits
abbrev IsPlain : Answer → Type 0
IsPlain Done = Unit {0}
IsPlain (MapNo n) = n < 2 ^ 64
IsPlain (Bytes count bytes) = count ≤ most_bytes
IsPlain other = ⊥

abbrev pub Plain : Outcome → Type 0
Plain (Refused r) = Unit {0}
Plain (Answered a slot) = IsPlain a

mount_plain : (size k : ℕ) (c : Choice) (options : List ℕ) → Always Plain (slot_event size k c None (slot.Mount options))
mount_plain size k c options = always_mount Plain (λ r. tt) (λ l. tt) c size options

few_maps : (m : Mount) (task n : ℕ) → AreFewMaps m task n → next_number task m < 2 ^ 64
few_maps m task n e = grind (arith, or_parts, leb-false, number_le)

abbrev PlainUnlessTold : SlotEvent → Plan → Type 0
PlainUnlessTold e p = tells_all e ≡ false → Always Plain p

module _ (size k : ℕ) (c : Choice) (m : Mount) where
  done_plain : (new : Slot) → Always Plain (gives Done (Some m) new)
  done_plain new = always_gives Plain Done (Some m) new tt

  load_plain : (s : Spot) → IsSpot m s → (home i offset count : ℕ) → Always Plain (load c size m home i offset count s)
  load_plain s at home i offset count = grind (arith, common_steps)

  store_plain : (s : Spot) → IsSpot m s → (home i offset : ℕ) (bytes : List ℕ) → Always Plain (store c size m home i offset bytes s)
  store_plain s at home i offset bytes = grind arith

  plain_walks : Walks size k c m PlainUnlessTold
  plain_walks = record {
    refuses = λ e r apart. tt;
    whole = λ name a b q is apart. tt;
    tells = λ e a yes apart. cc;
    reads = λ name i offset count bytes few apart. ltb-false most_bytes count few;
    creates = λ name new apart. tt;
    unlinks = λ name q is apart. done_plain (edited m q.0 (unlinked q.1));
    truncates = λ name n q is apart. done_plain (edited m q.0 (truncated n q.1));
    punches = λ name a b q is apart. done_plain (edited m q.0 (punched a b q.1));
    fills = λ name a b q is apart.
        always_fill Plain (λ r. tt) ((is_full m (unentered a b q.1), MountFull) ∷ (c.refused, OutOfMemory) ∷ []) (rise m (unentered a b q.1)) (lacking a b q.1)
        (λ pages. Answered Done (Some (with_file m q.0 (range_filled size a b (rising_nodes (lacking a b q.1) pages) q.1)))) (λ pages. tt);
    maps = λ task home name a n sharing reserving q is few apart.
        always_grant Plain (λ r. tt) c m home (asked sharing reserving a n q.1)
        (Answered (MapNo (next_number task m)) (Some (with_file m q.0 (mapped task (next_number task m) a n sharing reserving q.1)))) (few_maps m task n few);
    anons = λ task home n sharing reserving few apart.
        always_grant Plain (λ r. tt) c m home (asked sharing reserving 0 n (new_file None))
        (Answered (MapNo (next_number task m)) (Some (with_new m (mapped task (next_number task m) 0 n sharing reserving (new_file None))))) (few_maps m task n few);
    unmaps = λ task number a b apart. done_plain (Some (unmapped_from task number a b m));
    forks = λ parent child few apart. done_plain (Some (forked parent child m));
    exits = λ task apart. done_plain (Some (without_task task m));
    faults = λ task number s is home i intent apart. fault_done Plain (λ r. tt) (λ n. tt) c size m s home i intent;
    loads = λ task number s is home i offset count apart. load_plain s (spot_is m (is_map task number) s is) home i offset count;
    stores = λ task number s is home i offset bytes apart. store_plain s (spot_is m (is_map task number) s is) home i offset bytes;
  }

pub slot_plain : (size k : ℕ) (c : Choice) (old : Slot) (e : SlotEvent) → tells_all e ≡ false → Always Plain (slot_event size k c old e)
slot_plain size k c None (slot.Mount options) apart = mount_plain size k c options
slot_plain size k c None other apart = tt
slot_plain size k c (Some m) e apart =
    walk_all size k c m PlainUnlessTold (plain_walks size k c m) (λ options refl. always_remounting Plain (λ r. tt) m (λ l. tt) size options) (λ refl. done_plain size k c m None) e apart

plain_small : (o : Outcome) → Plain o → Small o
plain_small o h = grind arith

pub slot_small : (size k : ℕ) (c : Choice) (old : Slot) (e : SlotEvent) → tells_all e ≡ false → Always Small (slot_event size k c old e)
slot_small size k c old e apart = always_weaker Plain Small plain_small (slot_event size k c old e) (slot_plain size k c old e apart)

-- ---- each event

-- the event answers what stands in the machine's tables, which is as large as it was made
abbrev pub is_told : Event → Bool
is_told (Tasks (table.Find task)) = true
is_told (OnSlot k e) = tells_all e
is_told other = false

table_small : (n : ℕ) (x : Table) (e : TableEvent) → is_told (Tasks e) ≡ false → IsWithinLimits (table_event n x e).0
table_small n x e e' = grind arith

module _ (s : State) (st : IsSettledState s) where
  pub event_small : (e : Event) (reply : Reply) (t : State) → IsEvent s e reply t → is_told e ≡ false → IsWithinLimits reply
  event_small (Tasks e) reply t is apart = subst IsWithinLimits (ap (λ (q : Reply × State). q.0) is.2) (table_small (length s.nodes) s.table e apart)
  event_small (OnPool e) reply t is apart = subst IsWithinLimits (ap (λ (q : Reply × State). q.0) is.2) (pool_small s st e)
  event_small (OnSlot k e) reply t is apart =
      let ends = event_ends Small s k e reply t (λ c. slot_small s.page_size k c (slot_at s k) e apart) is in subst IsWithinLimits (sym ends.replied) ends.holds

-- ---- scripts

-- all that it replies with is so
abbrev Replies : Script → Type 0
Replies (Answer_with r) = IsWithinLimits r
Replies (Do e next) = (r : Reply) → Replies (next r)
Replies (Where_mapped k task mapped other) = Replies mapped × Replies other

script_small : (c : Script) → Replies c → (s : State) (reply : Reply) (t : State) → IsScript s c reply t → IsWithinLimits reply
script_small (Answer_with r) all s reply t is = subst IsWithinLimits (sym is.0) all
script_small (Do e next) all s reply t is = script_small (next is.0) (all is.0) is.1 reply t is.3
script_small (Where_mapped k task mapped other) all s reply t is =
    either_way (has_maps_of task (slot_at s k)) (λ it. script_small mapped all.0 s reply t it) (λ it. script_small other all.1 s reply t it) is

when_small : (r : Reply) (next : Script) → Replies next → Replies (when_done r next)
when_small r next all = grind arith

exits_small : (ks : List ℕ) (task : ℕ) (next : Script) → Replies next → Replies (exit_slots ks task next)
exits_small [] task next all = all
exits_small (k ∷ ks) task next all = ((λ r. exits_small ks task next all), exits_small ks task next all)

or_undone_small : (done : List ℕ) (child : ℕ) (r : Reply) (next : Script) → Replies next → Replies (or_undone done child r next)
or_undone_small done child r next all = grind (arith, exits_small)

forks_small : (ks done : List ℕ) (parent child : ℕ) → Replies (fork_slots ks done parent child)
forks_small [] done parent child = tt
forks_small (k ∷ ks) done parent child =
    ((λ r. or_undone_small done child r (fork_slots ks (done ++ k ∷ []) parent child) (forks_small ks (done ++ k ∷ []) parent child)), forks_small ks done parent child)

-- ---- each step

told_same : (e : Event) → is_whole e ≡ true → is_usage (step_of e) ≡ is_told e
told_same e whole = grind arith

module _ (s : State) (st : IsSettledState s) where
  abbrev SmallUnlessTold : Step → Reply → State → Type 0
  SmallUnlessTold step reply t = is_usage step ≡ false → IsWithinLimits reply

  pub step_small : (reply : Reply) (t : State) (step : Step) → IsStep s step reply t → is_usage step ≡ false → IsWithinLimits reply
  step_small reply t step is =
      by_event s SmallUnlessTold (λ step r early apart. tt) (λ e reply t whole it apart. event_small s st e reply t it (sym (told_same e whole) ∙ apart))
      (λ parent child reply t it apart. script_small (script (length s.slots) (Fork parent child))
      (λ r. when_small r (fork_slots (range_with_len 0 (length s.slots)) [] parent child)
      (forks_small (range_with_len 0 (length s.slots)) [] parent child)) s reply t it)
      (λ task reply t it apart. script_small (script (length s.slots) (Exit task))
      (λ r. when_small r (exit_slots (range_with_len 0 (length s.slots)) task (Answer_with (Ok Done)))
      (exits_small (range_with_len 0 (length s.slots)) task (Answer_with (Ok Done)) tt)) s reply t it) reply t step is

pub within_limits : (s : State) (step : Step) (reply : Reply) (t : State) → IsSettledState s → IsStep s step reply t → (is_usage step ≡ true → IsWithinLimits reply) → IsWithinLimits reply
within_limits s step reply t st is usage = grind (arith, step_small)
