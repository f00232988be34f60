-- The law of joined runs: an induction on the list, in which the pool's numbers stay the sums over the slots.
use Rattle.std.proofs.lemmas.Grind.{common_steps}
use Rattle.std.proofs.Common.{◌≡◌, ℕ, ◌+◌, ◌<◌, ◌==◌, Bool, false, cond, Option, None, Some, List, [], ◌∷◌, length, map, refl, sym, ap, ◌∙◌, subst, arith, All, slice_index_or, slice_set}
use Rattle.std.proofs.lemmas.Bool.{eq-eqb}
use Rattle.std.proofs.lemmas.Bool.Decides.{nat_tests}
use Rattle.std.proofs.lemmas.List.{length-set}
use Rattle.std.proofs.lemmas.List.Elements.{All-head, All-tail}
use Rattle.hp_laws.proofs.Variants.{Asked, OfPool, Pool as OnPool, PoolAnswer, PoolEntry, PoolEvent, Slot as OnSlot, SlotEntry, TableEntry}
use Rattle.hp_model.proofs.Words.{Ask, CanHappen, Choice, Entry, Finish, Gives, Goes, HasParts, InPool, InSlot, InTasks, IsEvent, IsEventRun, IsLocalRun, IsPoolRun, IsSettledState, IsTableRun}
use Rattle.hp_model.proofs.Words.{IsThere, Item, Outcome, Plan, Pool, Reply, Slot, State, Table, after, asked_pool, event_of, keep, numbered, option_cons, placed, planned, pool_entry, pool_of}
use Rattle.hp_model.proofs.Words.{pool_part, section, section_entry, slot_at, slot_entry, slot_event, slot_part, slot_trail, task_entry, task_part, with_outcome, with_pool, with_pool_reply, with_slot}
use Rattle.hp_model.proofs.Words.{with_table}
use Rattle.hp_laws.specs.Laws.{JoinedLaw}
use Rattle.hp_laws.specs.Laws.{pool_after}
use Rattle.hp_laws.proofs.sections.Lengths.{long_section, long_event, long_with_pool}
use Rattle.hp_laws.proofs.settled.StaysSettled.{pool_is_tied, event_settled}
use Rattle.hp_laws.proofs.steps.Tells.{Tells, slot_event_tells}
use Rattle.hp_laws.proofs.sections.PoolTied.{pool_back}

-- ---- a plan carried out by the whole machine

-- what the pool's trail has next for this section
abbrev PoolGoes : Pool → Option Asked → Pool → Type 0
PoolGoes p None q = p ≡ q
PoolGoes p (Some a) q = section p a.section ≡ (a.answer, q)

settles : (s : State) (k : ℕ) (o : Outcome) (old new : Slot) (r : Reply) → slot_at s k ≡ old → Gives o old r new → with_outcome s k o ≡ (r, with_slot s k new)
settles s k o old new r is h = grind (arith, common_steps)

goes : (s : State) (k : ℕ) (p : Plan) (asked : Option Asked) (new : Slot) (r : Reply) (q : Pool) → Tells p → Goes p asked (slot_at s k) r new → PoolGoes (pool_of s) asked q
    → planned s k p ≡ (r, with_slot (with_pool s q) k new)
goes s k (Finish o) (Some a) new r q tells h pool = absurd h
goes s k (Ask sec f) (Some a) new r q tells h pool =
    let by : section (pool_of s) (sec a.answer.nr) ≡ (a.answer, q) = ap (λ x. section (pool_of s) x) h.0 ∙ pool in
    let is : section (pool_of s) (sec s.nr) ≡ (a.answer, q) = ap (λ x. section (pool_of s) x) (tells (pool_of s) a.answer q by) ∙ by in
    ap (λ x. asked_pool s k x f) is ∙ settles (with_pool s q) k (f a.answer) (slot_at s k) new r refl h.1
goes s k p None new r q tells h pool = grind (arith, common_steps, settles, pool_back)

leaves : (s : State) (p : Plan) (asked : Option Asked) (q : Pool) (new : Slot) (r : Reply) → Tells p → (old : Slot) → Goes p asked old r new → PoolGoes (pool_of s) asked q → pool_after s p ≡ q
leaves s (Finish o) None q new r tells old h pool = pool
leaves s (Finish o) (Some a) q new r tells old h pool = absurd h
leaves s (Ask sec f) None q new r tells old h pool = absurd h
leaves s (Ask sec f) (Some a) q new r tells old h pool =
    let by : section (pool_of s) (sec a.answer.nr) ≡ (a.answer, q) = ap (λ x. section (pool_of s) x) h.0 ∙ pool in
    ap (λ x. (section (pool_of s) x).1) (tells (pool_of s) a.answer q by) ∙ ap (λ (x : PoolAnswer × Pool). x.1) by

long_goes : (s : State) (asked : Option Asked) (q : Pool) → PoolGoes (pool_of s) asked q → length q.nodes.rows ≡ length (pool_of s).nodes.rows
long_goes s None q pool = ap (λ (x : Pool). length x.nodes.rows) (sym pool)
long_goes s (Some a) q pool = ap (λ (x : PoolAnswer × Pool). length x.1.nodes.rows) (sym pool) ∙ long_section (pool_of s) a.section

-- ---- the trails taken apart

abbrev second : {X : Type 0} → Option (ℕ × X) → Option X
second None = None
second (Some x) = Some x.1

abbrev of_tasks : List Item → List TableEntry
of_tasks items = keep (λ i. task_entry i.entry) items

abbrev of_slot : ℕ → List Item → List SlotEntry
of_slot k items = keep (λ i. slot_entry k i.entry) items

abbrev of_pool : List Item → List PoolEntry
of_pool items = keep (λ i. second (pool_part i)) items

module _ (table : Table) (ends : ℕ → Slot) (numbers : Pool) where
  record Apart (s : State) (items : List Item) : Type 0 where
    pub tasks : IsTableRun (length s.nodes) s.table (of_tasks items) table
    pub slots : (k : ℕ) → k < length s.slots → IsLocalRun s.page_size k (slot_at s k) (of_slot k items) (ends k)
    pub pool : IsPoolRun (pool_of s) (of_pool items) numbers
    pub there : All (λ i. IsThere (length s.slots) i.entry) items

  -- one event of the machine, and what is then left apart
  record Steps (s : State) (entry : Entry) (items : List Item) (next : State) : Type 0 where
    pub event : IsEvent s (event_of entry).0 (event_of entry).1 next
    pub apart : Apart next items
    pub count : length next.slots ≡ length s.slots

  -- from the event itself: the pool's numbers after it are those that its section left
  others_stay : (s : State) (k : ℕ) (q : Pool) (new : Slot) (e : SlotEntry) (items : List Item) (n : ℕ) → k < length s.slots
      → IsLocalRun s.page_size n (slot_at s n) (option_cons (cond (k == n) (Some e) None) (of_slot n items)) (ends n)
      → IsLocalRun s.page_size k new (of_slot k items) (ends k)
      → IsLocalRun s.page_size n (slice_index_or (slice_set s.slots k new) n None) (of_slot n items) (ends n)
  others_stay s k q new e items n there whole rest = grind (arith, common_steps)

  slot_steps : (s : State) (k : ℕ) (e : SlotEntry) (items : List Item) → IsSettledState s → k < length s.slots
      → IsTableRun (length s.nodes) s.table (of_tasks items) table
      → ((n : ℕ) → n < length s.slots → IsLocalRun s.page_size n (slot_at s n) (option_cons (cond (k == n) (Some e) None) (of_slot n items)) (ends n))
      → (q : Pool) → PoolGoes (pool_of s) e.asked q → IsPoolRun q (of_pool items) numbers
      → All (λ i. IsThere (length s.slots) i.entry) items
      → (next : State) × Steps s (InSlot k e) items next
  slot_steps s k e items st there tasks slots q pool_goes pool fits =
      let here : IsLocalRun s.page_size k (slot_at s k) (e ∷ of_slot k items) (ends k) =
      subst (λ (b : Bool). IsLocalRun s.page_size k (slot_at s k) (option_cons (cond b (Some e) None) (of_slot k items)) (ends k)) (eq-eqb k k refl) (slots k there) in
      let new : Slot = here.0 in
      let c : Choice = here.1.1 in
      let next : State = with_slot (with_pool s q) k new in
      let can : CanHappen c s (OnSlot k e.event) = (grind (arith, there, nat_tests), here.1.0, here.1.2) in
      let does : after c s (OnSlot k e.event) ≡ (e.reply, next) =
      goes s k (slot_event s.page_size k c (slot_at s k) e.event) e.asked new e.reply q (slot_event_tells s.page_size k c (slot_at s k) e.event) here.1.3 pool_goes in
      let long : length next.slots ≡ length s.slots = length-set s.slots k new in
      let wide : length next.nodes ≡ length s.nodes = long_with_pool s q (long_goes s e.asked q pool_goes) in
      let tied : pool_of next ≡ q =
      sym (ap (λ (x : Reply × State). pool_of x.1) does) ∙ (pool_is_tied c s (OnSlot k e.event) can st).0
      ∙ leaves s (slot_event s.page_size k c (slot_at s k) e.event) e.asked q new e.reply (slot_event_tells s.page_size k c (slot_at s k) e.event) (slot_at s k) here.1.3 pool_goes in (
        next,
        record {
          event = (c, can, does);
          apart = record {
            tasks = subst (λ (n : ℕ). IsTableRun n s.table (of_tasks items) table) (sym wide) tasks;
            slots = λ n below. others_stay s k q new e items n there (slots n (subst (λ (x : ℕ). n < x) long below)) here.2;
            pool = subst (λ (p : Pool). IsPoolRun p (of_pool items) numbers) (sym tied) pool;
            there = subst (λ (n : ℕ). All (λ i. IsThere n i.entry) items) (sym long) fits;
          };
          count = long;
        },
      )

  any : Choice
  any = record { stamp = 0; refused = false; after_grant = false }

  task_steps : (s : State) (e : TableEntry) (items : List Item)
      → IsTableRun (length s.nodes) s.table (e ∷ of_tasks items) table
      → ((n : ℕ) → n < length s.slots → IsLocalRun s.page_size n (slot_at s n) (of_slot n items) (ends n))
      → IsPoolRun (pool_of s) (of_pool items) numbers
      → All (λ i. IsThere (length s.slots) i.entry) items
      → (next : State) × Steps s (InTasks e) items next
  task_steps s e items tasks slots pool fits = (
    record s { table = tasks.0 },
    record {
      event = (any, tt, ap (with_table s) tasks.1);
      apart = record { tasks = tasks.2; slots = slots; pool = pool; there = fits };
      count = refl;
    },
  )

  pool_steps : (s : State) (e : PoolEvent) (r : Reply) (items : List Item) → IsSettledState s
      → IsTableRun (length s.nodes) s.table (of_tasks items) table
      → ((n : ℕ) → n < length s.slots → IsLocalRun s.page_size n (slot_at s n) (of_slot n items) (ends n))
      → IsPoolRun (pool_of s) (OfPool e r ∷ of_pool items) numbers
      → All (λ i. IsThere (length s.slots) i.entry) items
      → (next : State) × Steps s (InPool e r) items next
  pool_steps s e r items st tasks slots pool fits =
      let q : Pool = pool.0 in
      let next : State = with_pool s q in
      let does : after any s (OnPool e) ≡ (r, next) = ap (with_pool_reply s) pool.1 in
      let wide : length next.nodes ≡ length s.nodes =
      long_with_pool s q (ap (λ (x : Reply × Pool). length x.1.nodes.rows) (sym pool.1) ∙ long_event (pool_of s) e) in
      let tied : pool_of next ≡ q =
      sym (ap (λ (x : Reply × State). pool_of x.1) does) ∙ (pool_is_tied any s (OnPool e) tt st).0 ∙ ap (λ (x : Reply × Pool). x.1) pool.1 in (
        next,
        record {
          event = (any, tt, does);
          apart = record {
            tasks = subst (λ (n : ℕ). IsTableRun n s.table (of_tasks items) table) (sym wide) tasks;
            slots = slots;
            pool = subst (λ (p : Pool). IsPoolRun p (of_pool items) numbers) (sym tied) pool.2;
            there = fits;
          };
          count = refl;
        },
      )

  pool_next : (p : Pool) (asked : Option Asked) (rest : List PoolEntry) → IsPoolRun p (option_cons (second (section_entry asked)) rest) numbers
      → (q : Pool) × PoolGoes p asked q × IsPoolRun q rest numbers
  pool_next p asked rest run = grind arith

  steps : (s : State) (place : ℕ) (entry : Entry) (items : List Item) → IsSettledState s
      → IsTableRun (length s.nodes) s.table (option_cons (task_entry entry) (of_tasks items)) table
      → ((n : ℕ) → n < length s.slots → IsLocalRun s.page_size n (slot_at s n) (option_cons (slot_entry n entry) (of_slot n items)) (ends n))
      → IsPoolRun (pool_of s) (option_cons (second (pool_entry place entry)) (of_pool items)) numbers
      → IsThere (length s.slots) entry
      → All (λ i. IsThere (length s.slots) i.entry) items
      → (next : State) × Steps s entry items next
  steps s place (InTasks e) items st tasks slots pool here fits = task_steps s e items tasks slots pool fits
  steps s place (InSlot k e) items st tasks slots pool here fits =
      let next = pool_next (pool_of s) e.asked (of_pool items) pool in slot_steps s k e items st here tasks slots next.0 next.1 next.2 fits
  steps s place (InPool e r) items st tasks slots pool here fits = pool_steps s e r items st tasks slots pool fits

  abbrev Ends : State → List Item → State → Type 0
  Ends s items end = IsEventRun s (map (λ i. event_of i.entry) items) end × IsSettledState end × HasParts end (length s.slots) table ends numbers

  law : (s : State) (items : List Item) → IsSettledState s → Apart s items → (end : State) × Ends s items end
  law s [] st a = (s, (refl, st, record { count = refl; table = a.tasks; slots = λ k below. a.slots k below; pool = a.pool }))
  law s (i ∷ is) st a =
      let n = steps s i.place i.entry is st a.tasks a.slots a.pool (All-head (λ i. IsThere (length s.slots) i.entry) i is a.there) (All-tail (λ i. IsThere (length s.slots) i.entry) i is a.there) in
      let settled = event_settled s (event_of i.entry).0 (event_of i.entry).1 n.0 st n.1.event in
      let rest = law n.0 is settled n.1.apart in (
        rest.0,
        ((n.0, n.1.event, rest.1.0), rest.1.1, subst (λ (x : ℕ). HasParts rest.0 x table ends numbers) n.1.count rest.1.2),
      )

-- ---- the places dropped

cons_second : {X : Type 0} (o : Option (ℕ × X)) (xs : List (ℕ × X)) → option_cons (second o) (map (λ x. x.1) xs) ≡ map (λ x. x.1) (option_cons o xs)
cons_second o xs = grind arith

keep_second : {X : Type 0} (f : Item → Option (ℕ × X)) (g : Item → Option X) → ((i : Item) → g i ≡ second (f i)) → (items : List Item) → keep g items ≡ map (λ x. x.1) (keep f items)
keep_second f g same [] = refl
keep_second f g same (i ∷ is) = (λ j. option_cons (same i j) (keep_second f g same is j)) ∙ cons_second (f i) (keep f is)

numbered_second : {X : Type 0} (k : ℕ) (xs : List X) → map (λ x. x.1) (numbered k xs) ≡ xs
numbered_second k [] = refl
numbered_second k (x ∷ xs) = ap (λ ys. x ∷ ys) (numbered_second (k + 1) xs)

placed_second : {X : Type 0} (place : ℕ) (o : Option X) → o ≡ second (placed place o)
placed_second place o = grind arith

dropped : {X : Type 0} (f : Item → Option (ℕ × X)) (g : Item → Option X) (items : List Item) (xs : List X) → ((i : Item) → g i ≡ second (f i)) → keep f items ≡ numbered 0 xs → keep g items ≡ xs
dropped f g items xs same is = keep_second f g same items ∙ ap (map (λ x. x.1)) is ∙ numbered_second 0 xs

pub joined_law : JoinedLaw
joined_law s t items table ends numbers st runs order =
    let of_table = dropped task_part (λ i. task_entry i.entry) items t.tasks (λ i. placed_second i.place (task_entry i.entry)) order.tasks in
    let of_pools = dropped pool_part (λ i. second (pool_part i)) items t.pool (λ i. refl) order.pool in
    let apart : Apart table ends numbers s items = record {
      tasks = subst (λ (es : List TableEntry). IsTableRun (length s.nodes) s.table es table) (sym of_table) runs.tasks;
      slots = λ k below.
          let at = dropped (slot_part k) (λ i. slot_entry k i.entry) items (slot_trail t k) (λ i. placed_second i.place (slot_entry k i.entry))
          (order.slots k (subst (λ (x : ℕ). k < x) (sym runs.count) below)) in
          subst (λ (es : List SlotEntry). IsLocalRun s.page_size k (slot_at s k) es (ends k)) (sym at) (runs.slots k below);
      pool = subst (λ (es : List PoolEntry). IsPoolRun (pool_of s) es numbers) (sym of_pools) runs.pool;
      there = subst (λ (x : ℕ). All (λ i. IsThere x i.entry) items) runs.count order.there;
    } in
    let end = law table ends numbers s items st apart in (end.0, (order, end.1.0), end.1.1, end.1.2)
