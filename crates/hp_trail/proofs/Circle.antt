-- Where the walk can't go on, some events go round in a circle.
use Rattle.std.proofs.lemmas.Grind.{common_steps}
use Rattle.std.proofs.Common.{◌≡◌, ◌≢◌, ◌⊎◌, inl, inr, ℕ, zero, suc, ◌<◌, ◌≤◌, Bool, true, Option, None, Some, List, [], ◌∷◌, refl, sym, ap, ◌∙◌, subst, arith, nat_le, slice_get, option_map}
use Rattle.std.proofs.Common.{option_and_then}
use Rattle.std.proofs.lemmas.Bool.{leb-true, le-leb}
use Rattle.hp_laws.proofs.Variants.{Asked, AtPool, AtSlot, OfPool, OfSlot, Part, PoolAnswer, PoolEntry, PoolEvent, Receipt, Section, SlotEntry, TableEntry}
use Rattle.hp_model.specs.declared.entry.Part.TheVariants.{Tasks}
use Rattle.hp_model.proofs.Words.{Asks, Entry, HasCircle, HasReceipt, InPool, InPoolAt, InSlot, InTasks, IsBefore, Reply, Trails, entry_at, of_pool, slot_trail}
use Rattle.hp_trail.specs.Walk.{Cursors, cursor, cursor_at, session}

-- a list that is as long has an element there
there_below : {X : Type 0} (xs : List X) (m n : ℕ) (x : X) → m < n → slice_get xs n ≡ Some x → (y : X) × (slice_get xs m ≡ Some y)
there_below [] m n x l e = cc
there_below (y ∷ ys) zero n x l e = (y, refl)
there_below (y ∷ ys) (suc m) zero x l e = absurd (omega (arith, l))
there_below (y ∷ ys) (suc m) (suc n) x l e = there_below ys m n x (omega (arith, l)) e

no_entry : (e : Entry) → Some e ≡ None → ⊥
no_entry e x = cc

module _ (t : Trails) (receipts : List (List Receipt)) (c : Cursors) where
  abbrev pub left : Part → ℕ → Bool
  left part place = nat_le (cursor c part) place

  -- what the tellers say of trails and receipts, and what holds of the walk where it can't go on
  pub record IsStuck : Type 0 where
    pub right : (s j : ℕ) (r : Receipt) → HasReceipt receipts s j r → entry_at t r.part r.place ≢ None
    -- each event that is left is told by a receipt that is left
    pub told : (part : Part) (place : ℕ) → entry_at t part place ≢ None → cursor c part ≤ place
        → (s : ℕ) × (j : ℕ) × (r : Receipt) × (cursor_at c.sessions s ≤ j) × HasReceipt receipts s j r × (r.part ≡ part) × (r.place ≡ place)
    -- and the other way round
    pub left : (s j : ℕ) (r : Receipt) → cursor_at c.sessions s ≤ j → HasReceipt receipts s j r → cursor c r.part ≤ r.place
    pub once : (s i j : ℕ) (r q : Receipt) → HasReceipt receipts s i r → HasReceipt receipts s j q → r.part ≡ q.part → r.place ≡ q.place → i ≡ j
    -- a section that is left is of an event that is left
    pub claimed : (section : Section) (answer : PoolAnswer) → slice_get t.pool c.pool ≡ Some (OfSlot section answer)
        → (k : ℕ) × (i : ℕ) × (asked : Asked) × Asks t k i asked × (asked.place ≡ c.pool) × (cursor_at c.slots k ≤ i)
    -- a session's next receipt, where its entry comes next in its trail, is of a slot's event whose section does not come next
    pub blocked : (s : ℕ) (r : Receipt) → HasReceipt receipts s (cursor_at c.sessions s) r → r.place ≡ cursor c r.part
        → (k : ℕ) × (asked : Asked) × (r.part ≡ AtSlot k) × Asks t k r.place asked × (c.pool < asked.place) × (slice_get t.pool asked.place ≢ None)

  module _ (h : IsStuck) where
    -- an event that is left, before the one at j of part b
    abbrev Earlier : Part → ℕ → Type 0
    Earlier b j = (a : Part) × (i : ℕ) × (left a i ≡ true) × (entry_at t a i ≢ None) × ((a ≡ b) × (i ≡ j) → ⊥) × IsBefore t receipts a i b j

    left_at : (part : Part) (place : ℕ) → cursor c part ≤ place → left part place ≡ true
    left_at part place l = le-leb (cursor c part) place l

    asks_there : (k i : ℕ) (asked : Asked) → Asks t k i asked → entry_at t (AtSlot k) i ≢ None
    asks_there k i asked asks none = (let is = ap (option_map (InSlot k)) asks.there in no_entry (InSlot k asks.entry) (sym is ∙ none))

    -- what stands at the pool's cursor comes before what stands in the pool later
    at_pool : (b : Part) (j n : ℕ) → InPoolAt t b j n → c.pool < n → slice_get t.pool n ≢ None → ((k i : ℕ) (asked : Asked) → Asks t k i asked → asked.place ≡ c.pool → (AtSlot k ≡ b) × (i ≡ j) → ⊥)
        → ((AtPool ≡ b) × (c.pool ≡ j) → ⊥) → Earlier b j
    at_pool b j n in_pool l there apart apart' = by_entry (slice_get t.pool c.pool) refl
      where
        past : (o : Option PoolEntry) → slice_get t.pool n ≡ o → slice_get t.pool c.pool ≡ None → ⊥
        past None e none = there e
        past (Some x) e none = (let y = there_below t.pool c.pool n x l e in some_none y.0 (sym y.1 ∙ none))
          where
            some_none : (e : PoolEntry) → Some e ≡ None → ⊥
            some_none e x = cc

        by_entry : (o : Option PoolEntry) → slice_get t.pool c.pool ≡ o → Earlier b j
        by_entry None e = absurd (past (slice_get t.pool n) refl e)
        by_entry (Some (OfPool v a)) e =
            (AtPool, c.pool, left_at AtPool c.pool (omega arith), (λ none. is_event v a (sym (ap (λ o. option_and_then of_pool o) e) ∙ none)), apart', inr (inl (c.pool, n, refl, in_pool, l)))
          where
            is_event : (v : PoolEvent) (a : Reply) → Some (InPool v a) ≡ None → ⊥
            is_event v a x = cc
        by_entry (Some (OfSlot section answer)) e =
            let k = h.claimed section answer e in
            (AtSlot k.0, k.1, left_at (AtSlot k.0) k.1 k.5, asks_there k.0 k.1 k.2 k.3, apart k.0 k.1 k.2 k.3 k.4, inr (inl (c.pool, n, (k.2, k.3, k.4), in_pool, l)))

    same_asked : (k i : ℕ) (a b : Asked) → Asks t k i a → Asks t k i b → a ≡ b
    same_asked k i a b x y = grind (arith, common_steps)

    slots_same : (j k : ℕ) → AtSlot j ≡ AtSlot k → j ≡ k
    slots_same j k e = cc

    not_pool : (k : ℕ) → AtPool ≡ AtSlot k → ⊥
    not_pool k e = cc

    -- a slot's event whose section waits
    waits : (k i : ℕ) (asked : Asked) → Asks t k i asked → c.pool < asked.place → slice_get t.pool asked.place ≢ None → Earlier (AtSlot k) i
    waits k i asked asks l there =
        at_pool (AtSlot k) i asked.place (asked, asks, refl) l there
        (λ k' i' asked' asks' is e.
        let moved : Asks t k i asked' = subst (λ (n : ℕ). Asks t n i asked') (slots_same k' k e.0) (subst (λ (n : ℕ). Asks t k' n asked') e.1 asks') in
        let same = ap (λ (x : Asked). x.place) (same_asked k i asked' asked moved asks) in
        absurd (omega (arith, is, l, same)))
        (λ e. not_pool k e.0)

    either : (m n : ℕ) → m ≤ n → (m < n) ⊎ (m ≡ n)
    either m n l = grind (arith, common_steps)

    -- an event at its part's cursor
    at_cursor : (b : Part) (j : ℕ) → entry_at t b j ≢ None → cursor c b ≡ j → Earlier b j
    at_cursor b j some is =
        let x = h.told b j some (omega (arith, is)) in
        by_index x.0 x.1 x.2 x.4 x.5 x.6 (either (cursor_at c.sessions x.0) x.1 x.3)
      where
        by_index : (s i : ℕ) (r : Receipt) → HasReceipt receipts s i r → r.part ≡ b → r.place ≡ j → (cursor_at c.sessions s < i) ⊎ (cursor_at c.sessions s ≡ i) → Earlier b j
        by_index s i r has part place (inl l) =
            let first = there_below (session receipts s) (cursor_at c.sessions s) i r l has in (
              first.0.part,
              first.0.place,
              left_at first.0.part first.0.place (h.left s (cursor_at c.sessions s) first.0 (omega arith) first.1),
              h.right s (cursor_at c.sessions s) first.0 first.1,
              (λ e. (let same = h.once s (cursor_at c.sessions s) i first.0 r first.1 has (e.0 ∙ sym part) (e.1 ∙ sym place) in omega (arith, same, l))),
              inr (inr (s, cursor_at c.sessions s, i, first.0, r, first.1, has, l, refl, refl, part, place)),
            )
        by_index s i r has part place (inr e) =
            let next : HasReceipt receipts s (cursor_at c.sessions s) r = subst (λ (n : ℕ). HasReceipt receipts s n r) (sym e) has in
            let k = h.blocked s r next (place ∙ sym is ∙ ap (cursor c) (sym part)) in
            let here = waits k.0 r.place k.1 k.3 k.4 k.5 in
            subst (λ (p : Part). Earlier p j) (sym k.2 ∙ part) (subst (λ (n : ℕ). Earlier (AtSlot k.0) n) place here)

    -- an event past its part's cursor
    past_cursor : (b : Part) (j : ℕ) → entry_at t b j ≢ None → cursor c b < j → Earlier b j
    past_cursor Tasks j some l = by_entry (slice_get t.tasks j) refl
      where
        by_entry : (o : Option TableEntry) → slice_get t.tasks j ≡ o → Earlier Tasks j
        by_entry None e = absurd (some (ap (option_map InTasks) e))
        by_entry (Some x) e =
            let y = there_below t.tasks c.tasks j x l e in
            (Tasks, c.tasks, left_at Tasks c.tasks (omega arith), (λ none. no_entry (InTasks y.0) (sym (ap (option_map InTasks) y.1) ∙ none)), (λ e. omega (arith, e.1, l)), inl (refl, l))
    past_cursor (AtSlot k) j some l = by_entry (slice_get (slot_trail t k) j) refl
      where
        by_entry : (o : Option SlotEntry) → slice_get (slot_trail t k) j ≡ o → Earlier (AtSlot k) j
        by_entry None e = absurd (some (ap (option_map (InSlot k)) e))
        by_entry (Some x) e =
            let y = there_below (slot_trail t k) (cursor_at c.slots k) j x l e in (
              AtSlot k,
              cursor_at c.slots k,
              left_at (AtSlot k) (cursor_at c.slots k) (omega arith),
              (λ none. no_entry (InSlot k y.0) (sym (ap (option_map (InSlot k)) y.1) ∙ none)),
              (λ e. omega (arith, e.1, l)),
              inl (refl, l),
            )
    past_cursor AtPool j some l =
        at_pool AtPool j j refl l (λ none. some (ap (λ o. option_and_then of_pool o) none)) (λ k i asked asks is e. not_pool k (sym e.0)) (λ e. omega (arith, e.1, l))

    pub circle : (part : Part) (place : ℕ) → cursor c part ≤ place → entry_at t part place ≢ None → HasCircle t receipts
    circle part place l some = record {
      set = left;
      part = part;
      place = place;
      some = (left_at part place l, some);
      each = λ b j in_set is. elim (either (cursor c b) j (leb-true (cursor c b) j in_set)) [
        | inl l ↦ past_cursor b j is l
        | inr e ↦ at_cursor b j is e
      ];
    }
