-- Where trails and receipts differ, no list joins them.
use Rattle.std.proofs.lemmas.Grind.{common_steps}
use Rattle.std.proofs.Common.{◌≡◌, ◌≢◌, inl, inr, ℕ, zero, suc, ◌+◌, ◌<◌, true, cond, Option, None, Some, List, [], ◌∷◌, length, refl, sym, ap, ◌∙◌, subst, arith, slice_get, slice_index_or}
use Rattle.std.proofs.Common.{option_map}
use Rattle.std.proofs.lemmas.Bool.{cases_lt, eq-eqb}
use Rattle.hp_laws.proofs.Variants.{Asked, AtPool, AtSlot, OfPool, OfSlot, Part, PoolEntry, Receipt}
use Rattle.hp_model.specs.declared.entry.Part.TheVariants.{Tasks}
use Rattle.hp_model.proofs.Words.{Asks, Differ, Entry, HasCircle, HasReceipt, InPool, InPoolAt, InSlot, InTasks, IsBefore, IsThere, Item, Joins, LostSection, SharedSection, ToldTwice, Trails, Untold}
use Rattle.hp_model.proofs.Words.{WrongReceipt, WrongSection, entry_at, event_of, keep, numbered, option_cons, part_of, placed, pool_entry, pool_part, receipt_of, section_entry, slot_entry, slot_part}
use Rattle.hp_model.proofs.Words.{slot_trail, task_part, told}
use Rattle.hp_trail.proofs.Indexing.{get_there, row_there, some_is}
use Rattle.hp_trail.proofs.Passing.{all_at, kept, kept_from, numbered_at, numbered_is, own_slot, pool_is, slot_is, task_is, told_is}
use Rattle.std.proofs.Math.Seq.{take-length}
use Rattle.hp_trail.proofs.Taking.{StandsAt, stands_at}

-- ---- lists with places

numbered_all : {X : Type 0} (a : ℕ) (xs : List X) (m : ℕ) (p : ℕ × X) → slice_get (numbered a xs) m ≡ Some p → (p.0 ≡ a + m) × (slice_get xs m ≡ Some p.1)
numbered_all a xs m p has =
    let r = numbered_is a (length xs) xs m p (ap (λ ys. slice_get (numbered a ys) m) (take-length xs) ∙ has) in (r.0, r.2)

all_numbered : {X : Type 0} (a : ℕ) (xs : List X) (m : ℕ) (x : X) → slice_get xs m ≡ Some x → slice_get (numbered a xs) m ≡ Some (a + m, x)
all_numbered a xs m x has = ap (λ ys. slice_get (numbered a ys) m) (sym (take-length xs)) ∙ numbered_at a (length xs) xs m x (get_there xs m x has) has

head_tail : {X : Type 0} (y : ℕ × X) (ys : List (ℕ × X)) (a : ℕ) (xs : List X) → y ∷ ys ≡ numbered a xs → (y.0 ≡ a) × ((vs : List X) × (ys ≡ numbered (a + 1) vs))
head_tail y ys a [] e = cc
head_tail y ys a (v ∷ vs) e = (let first : y ≡ (a, v) = cc in let rest : ys ≡ numbered (a + 1) vs = cc in (ap (λ (q : ℕ × _). q.0) first, (vs, rest)))

-- what is kept with places has them in rising order
rises : {X Y : Type 0} (f : X → Option (ℕ × Y)) (zs : List X) (a : ℕ) (xs : List Y) (m n : ℕ) (i k : X) (y z : ℕ × Y) → keep f zs ≡ numbered a xs → slice_get zs m ≡ Some i → slice_get zs n ≡ Some k
    → f i ≡ Some y → f k ≡ Some z → m < n → y.0 < z.0
rises f [] a xs m n i k y z all at at' is is' l = cc
rises f (w ∷ ws) a xs m zero i k y z all at at' is is' l = absurd (omega (arith, l))
rises f (w ∷ ws) a xs zero (suc n) i k y z all at at' is is' l =
    let head : f w ≡ Some y = ap f (some_is w i at) ∙ is in
    let parts = head_tail y (keep f ws) a xs (sym (ap (λ o. option_cons o (keep f ws)) head) ∙ all) in
    let r = kept f ws k z n at' is' in
    let later = numbered_all (a + 1) parts.1.0 r.0 z (sym (ap (λ ys. slice_get ys r.0) parts.1.1) ∙ r.1) in
    omega (arith, parts.0, later.0)
rises {X} {Y} f (w ∷ ws) a xs (suc m) (suc n) i k y z all at at' is is' l =
    by_head (f w) refl (λ a xs all. rises f ws a xs m n i k y z all at at' is is' (omega (arith, l)))
  where
    by_head : (o : Option (ℕ × Y)) → f w ≡ o → ((a : ℕ) (xs : List Y) → keep f ws ≡ numbered a xs → y.0 < z.0) → y.0 < z.0
    by_head None e rest = rest a xs (sym (ap (λ o. option_cons o (keep f ws)) e) ∙ all)
    by_head (Some v) e rest =
        let parts = head_tail v (keep f ws) a xs (sym (ap (λ o. option_cons o (keep f ws)) e) ∙ all) in rest (a + 1) parts.1.0 parts.1.1

-- two that are kept, one before the other, come from two in this order
record Pair {X Y : Type 0} (f : X → Option Y) (xs : List X) (y z : Y) : Type 0 where
  pub m : ℕ
  pub n : ℕ
  pub a : X
  pub b : X
  pub first : slice_get xs m ≡ Some a
  pub second : slice_get xs n ≡ Some b
  pub gives : f a ≡ Some y
  pub gives' : f b ≡ Some z
  pub before : m < n

from_pair : {X Y : Type 0} (f : X → Option Y) (xs : List X) (p q : ℕ) (y z : Y) → slice_get (keep f xs) p ≡ Some y → slice_get (keep f xs) q ≡ Some z → p < q → Pair f xs y z
from_pair f [] p q y z at at' l = cc
from_pair {X} {Y} f (w ∷ ws) p q y z at at' l = by_head (f w) refl p q at at' l (λ p q at at' l. from_pair f ws p q y z at at' l)
  where
    behind : Pair f ws y z → Pair f (w ∷ ws) y z
    behind x = (let l = x.before in record { m = suc x.m; n = suc x.n; a = x.a; b = x.b; first = x.first; second = x.second; gives = x.gives; gives' = x.gives'; before = omega (arith, l) })

    by_head : (o : Option Y) → f w ≡ o → (p q : ℕ) → slice_get (option_cons o (keep f ws)) p ≡ Some y → slice_get (option_cons o (keep f ws)) q ≡ Some z → p < q
        → ((p q : ℕ) → slice_get (keep f ws) p ≡ Some y → slice_get (keep f ws) q ≡ Some z → p < q → Pair f ws y z) → Pair f (w ∷ ws) y z
    by_head None e p q at at' l rest = behind (rest p q at at' l)
    by_head (Some v) e p zero at at' l rest = absurd (omega (arith, l))
    by_head (Some v) e zero (suc q) at at' l rest =
        let x = kept_from f ws z q at' in
        record { m = 0; n = suc x.0; a = w; b = x.1; first = refl; second = x.2; gives = e ∙ at; gives' = x.3; before = omega arith }
    by_head (Some v) e (suc p) (suc q) at at' l rest = behind (rest p q at at' (omega (arith, l)))

two_indices : (m n : ℕ) → (m < n → ⊥) → (n < m → ⊥) → m ≡ n
two_indices m n x y = elim (cases_lt m n) [ inl l ↦ absurd (x l) | inr l ↦ elim (cases_lt n m) [ inl l' ↦ absurd (y l') | inr l' ↦ omega (arith, l, l') ] ]

-- ---- a list that joins

module _ (t : Trails) (receipts : List (List Receipt)) (items : List Item) (j : Joins t receipts items) where
  -- the item at n is the event at this place of the part
  record Is (n : ℕ) (part : Part) (place : ℕ) : Type 0 where
    pub item : Item
    pub at : slice_get items n ≡ Some item
    pub part' : part_of item.entry ≡ part
    pub place' : item.place ≡ place

  there : (n : ℕ) (i : Item) → slice_get items n ≡ Some i → IsThere (length t.slots) i.entry
  there n i at = all_at (λ (x : Item). IsThere (length t.slots) x.entry) items n i at j.order.there

  -- it stands there in its trail
  stands : (n : ℕ) (i : Item) → slice_get items n ≡ Some i → StandsAt t i.entry i.place
  stands n i at = by_entry i.entry refl (there n i at)
    where
      by_entry : (e : Entry) → i.entry ≡ e → IsThere (length t.slots) e → StandsAt t e i.place
      by_entry (InTasks e) is within =
          let m = kept task_part items i (i.place, e) n at (ap (λ x. task_part (record i { entry = x })) is) in
          let r = numbered_all 0 t.tasks m.0 (i.place, e) (ap (λ xs. slice_get xs m.0) (sym j.order.tasks) ∙ m.1) in
          let same : m.0 ≡ i.place = omega (arith, r.0) in ap (slice_get t.tasks) (sym same) ∙ r.1
      by_entry (InSlot k e) is within =
          let m = kept (slot_part k) items i (i.place, e) n at (ap (λ x. slot_part k (record i { entry = x })) is ∙ own_slot k i.place e) in
          let r = numbered_all 0 (slot_trail t k) m.0 (i.place, e) (ap (λ xs. slice_get xs m.0) (sym (j.order.slots k within)) ∙ m.1) in
          let same : m.0 ≡ i.place = omega (arith, r.0) in ap (slice_get (slot_trail t k)) (sym same) ∙ r.1
      by_entry (InPool e a) is within =
          let m = kept pool_part items i (i.place, OfPool e a) n at (ap (λ x. pool_part (record i { entry = x })) is) in
          let r = numbered_all 0 t.pool m.0 (i.place, OfPool e a) (ap (λ xs. slice_get xs m.0) (sym j.order.pool) ∙ m.1) in
          let same : m.0 ≡ i.place = omega (arith, r.0) in ap (slice_get t.pool) (sym same) ∙ r.1

  entry_stands : (e : Entry) (place : ℕ) → StandsAt t e place → entry_at t (part_of e) place ≡ Some e
  entry_stands e place h = grind (arith, common_steps)

  -- two items of one part stand in the order of their places
  in_order : (m n : ℕ) (a b : Item) → slice_get items m ≡ Some a → slice_get items n ≡ Some b → part_of a.entry ≡ part_of b.entry → m < n → a.place < b.place
  in_order m n a b at at' same l = by_entry a.entry b.entry refl refl same (there m a at)
    where
      by_entry : (e f : Entry) → a.entry ≡ e → b.entry ≡ f → part_of a.entry ≡ part_of b.entry → IsThere (length t.slots) a.entry → a.place < b.place
      by_entry e f is is' same within = by_kinds e f is is' (sym (ap part_of is) ∙ same ∙ ap part_of is') (subst (λ (x : Entry). IsThere (length t.slots) x) is within)
        where
          by_kinds : (e f : Entry) → a.entry ≡ e → b.entry ≡ f → part_of e ≡ part_of f → IsThere (length t.slots) e → a.place < b.place
          by_kinds (InTasks e) (InTasks f) is is' same within =
              rises task_part items 0 t.tasks m n a b (a.place, e) (b.place, f) j.order.tasks at at' (ap (λ x. task_part (record a { entry = x })) is)
              (ap (λ x. task_part (record b { entry = x })) is') l
          by_kinds (InTasks e) (InSlot k f) is is' same within = cc
          by_kinds (InTasks e) (InPool v r) is is' same within = cc
          by_kinds (InSlot k e) (InTasks f) is is' same within = cc
          by_kinds (InSlot k e) (InSlot h f) is is' same within =
              let number : h ≡ k = cc in
              rises (slot_part k) items 0 (slot_trail t k) m n a b (a.place, e) (b.place, f) (j.order.slots k within) at at'
              (ap (λ x. slot_part k (record a { entry = x })) is ∙ own_slot k a.place e)
              (ap (λ x. slot_part k (record b { entry = x })) is' ∙ ap (λ q. placed b.place (slot_entry k (InSlot q f))) number ∙ own_slot k b.place f) l
          by_kinds (InSlot k e) (InPool v r) is is' same within = cc
          by_kinds (InPool v r) (InTasks f) is is' same within = cc
          by_kinds (InPool v r) (InSlot k f) is is' same within = cc
          by_kinds (InPool v r) (InPool u q) is is' same within =
              rises pool_part items 0 t.pool m n a b (a.place, OfPool v r) (b.place, OfPool u q) j.order.pool at at'
              (ap (λ x. pool_part (record a { entry = x })) is) (ap (λ x. pool_part (record b { entry = x })) is') l

  unique : (m n : ℕ) (part : Part) (place : ℕ) → Is m part place → Is n part place → m ≡ n
  unique m n part place x y = grind (arith, common_steps, two_indices, in_order)

  -- each event is one of them
  found : (part : Part) (place : ℕ) (e : Entry) → entry_at t part place ≡ Some e → (n : ℕ) × Is n part place
  found part place e at = by_entry e (stands_at t part place e at)
    where
      by_entry : (e : Entry) → (part_of e ≡ part) × StandsAt t e place → (n : ℕ) × Is n part place
      by_entry (InTasks e) h =
          let i = kept_from task_part items (0 + place, e) place (ap (λ xs. slice_get xs place) j.order.tasks ∙ all_numbered 0 t.tasks place e h.1) in
          let is = task_is i.1.entry i.1.place (0 + place, e) i.3 in
          (i.0, record { item = i.1; at = i.2; part' = is.0 ∙ h.0; place' = is.1 ∙ omega arith })
      by_entry (InSlot k e) h =
          let within = row_there t.slots k place (get_there (slot_trail t k) place e h.1) in
          let i = kept_from (slot_part k) items (0 + place, e) place (ap (λ xs. slice_get xs place) (j.order.slots k within) ∙ all_numbered 0 (slot_trail t k) place e h.1) in
          let is = slot_is k i.1.entry i.1.place (0 + place, e) i.3 in
          (i.0, record { item = i.1; at = i.2; part' = is.0 ∙ h.0; place' = is.1 ∙ omega arith })
      by_entry (InPool v a) h =
          let i = kept_from pool_part items (0 + place, OfPool v a) place (ap (λ xs. slice_get xs place) j.order.pool ∙ all_numbered 0 t.pool place (OfPool v a) h.1) in
          let is = pool_is i.1.entry i.1.place (0 + place) v a i.3 in
          (i.0, record { item = i.1; at = i.2; part' = is.0 ∙ h.0; place' = is.1 ∙ omega arith })

  -- a receipt is that of one of them
  of_receipt : (s i : ℕ) (r : Receipt) → HasReceipt receipts s i r → (n : ℕ) × (x : Is n r.part r.place) × (x.item.by ≡ s)
  of_receipt s i r has =
      let within = row_there receipts s i (get_there (slice_index_or receipts s []) i r has) in
      let x = kept_from (told s) items r i (ap (λ xs. slice_get xs i) (j.told.each s within) ∙ has) in
      let is = told_is s x.1 r x.3 in
      (x.0, record { item = x.1; at = x.2; part' = sym (ap (λ (y : Receipt). y.part) is.1); place' = sym (ap (λ (y : Receipt). y.place) is.1) }, is.0)

  -- the item of a slot's event with a section has that section
  asks_part : (n k place : ℕ) (a : Asked) → Asks t k place a → (x : Is n (AtSlot k) place) → pool_part x.item ≡ Some (a.place, OfSlot a.section a.answer)
  asks_part n k place a asks x =
      let at = ap (λ (m : ℕ). entry_at t (part_of x.item.entry) m) (sym x.place') ∙ entry_stands x.item.entry x.item.place (stands n x.item x.at) in
      let there : entry_at t (AtSlot k) place ≡ Some x.item.entry = ap (λ (p : Part). entry_at t p place) (sym x.part') ∙ at in
      let same : InSlot k asks.entry ≡ x.item.entry = some_is (InSlot k asks.entry) x.item.entry (sym (ap (option_map (InSlot k)) asks.there) ∙ there) in
      ap (λ e. pool_entry x.item.place e) (sym same) ∙ ap section_entry asks.asks

  -- of two items with places in the pool, the one with the lower place comes first
  pool_order : (m n : ℕ) (a b : Item) (y z : ℕ × PoolEntry) → slice_get items m ≡ Some a → slice_get items n ≡ Some b → pool_part a ≡ Some y → pool_part b ≡ Some z → y.0 < z.0 → m < n
  pool_order m n a b y z at at' is is' l =
      elim (cases_lt m n) [
        | inl less ↦ less
        | inr more ↦
            elim (cases_lt n m) [
              | inl less ↦ (let wrong = rises pool_part items 0 t.pool n m b a z y j.order.pool at' at is' is less in absurd (omega (arith, wrong, l)))
              | inr more' ↦
                  let same : m ≡ n = omega (arith, more, more') in
                  let one : a ≡ b = some_is a b (sym at ∙ ap (slice_get items) same ∙ at') in
                  let alike : y ≡ z = some_is y z (sym is ∙ ap pool_part one ∙ is') in
                  absurd (omega (arith, l, ap (λ (p : ℕ × PoolEntry). p.0) alike))
            ]
      ]

  -- where an event has its place in the pool, its item has it too
  in_pool : (n : ℕ) (a : Part) (i place : ℕ) → InPoolAt t a i place → entry_at t a i ≢ None → (x : Is n a i) → (y : ℕ × PoolEntry) × (pool_part x.item ≡ Some y) × (y.0 ≡ place)
  in_pool n Tasks i place h some x = absurd h
  in_pool n (AtSlot k) i place h some x = ((h.0.place, OfSlot h.0.section h.0.answer), asks_part n k i h.0 h.1 x, h.2)
  in_pool n AtPool i place h some x = by_entry x.item.entry refl x.part'
    where
      by_entry : (e : Entry) → x.item.entry ≡ e → part_of x.item.entry ≡ AtPool → (y : ℕ × PoolEntry) × (pool_part x.item ≡ Some y) × (y.0 ≡ place)
      by_entry (InTasks e) is part = (let other = ap part_of is in cc)
      by_entry (InSlot k e) is part = (let other = ap part_of is in cc)
      by_entry (InPool v r) is part = ((x.item.place, OfPool v r), ap (pool_entry x.item.place) is, x.place' ∙ h)

  -- an event that must come before another does
  comes_before : (a : Part) (i : ℕ) (b : Part) (k m n : ℕ) → IsBefore t receipts a i b k → entry_at t a i ≢ None → entry_at t b k ≢ None → Is m a i → Is n b k → m < n
  comes_before a i b k m n (inl h) some some' x y = grind (arith, common_steps, cases_lt, in_order, some_is)
  comes_before a i b k m n (inr (inl h)) some some' x y =
      let p = in_pool m a i h.0 h.2 some x in
      let q = in_pool n b k h.1 h.3 some' y in
      let l = h.4 in
      pool_order m n x.item y.item p.0 q.0 x.at y.at p.1 q.1 (omega (arith, l, p.2, q.2))
  comes_before a i b k m n (inr (inr h)) some some' x y =
      let s = h.0 in
      let within = row_there receipts s h.1 (get_there (slice_index_or receipts s []) h.1 h.3 h.5) in
      let pair =
      from_pair (told s) items h.1 h.2 h.3 h.4 (ap (λ xs. slice_get xs h.1) (j.told.each s within) ∙ h.5) (ap (λ xs. slice_get xs h.2) (j.told.each s within) ∙ h.6) h.7 in
      let first = told_is s pair.a h.3 pair.gives in
      let second = told_is s pair.b h.4 pair.gives' in
      let one : pair.m ≡ m =
      unique pair.m m a i record { item = pair.a; at = pair.first; part' = sym (ap (λ (z : Receipt). z.part) first.1) ∙ h.8; place' = sym (ap (λ (z : Receipt). z.place) first.1) ∙ h.9 } x in
      let two : pair.n ≡ n =
      unique pair.n n b k record { item = pair.b; at = pair.second; part' = sym (ap (λ (z : Receipt). z.part) second.1) ∙ h.10; place' = sym (ap (λ (z : Receipt). z.place) second.1) ∙ h.11 } y in
      let l = pair.before in
      omega (arith, l, one, two)

  some_entry : (part : Part) (place : ℕ) → entry_at t part place ≢ None → (e : Entry) × (entry_at t part place ≡ Some e)
  some_entry part place some = grind (arith, common_steps)

  -- none of the events of a circle is the first of them
  no_circle : HasCircle t receipts → ⊥
  no_circle h =
      let e = some_entry h.part h.place h.some.1 in
      let x = found h.part h.place e.0 e.1 in
      descend (suc x.0) h.part h.place x.0 h.some.0 h.some.1 x.1 (omega arith)
    where
      descend : (bound : ℕ) (b : Part) (k n : ℕ) → h.set b k ≡ true → entry_at t b k ≢ None → Is n b k → n < bound → ⊥
      descend zero b k n in_set some x l = absurd (omega (arith, l))
      descend (suc bound) b k n in_set some x l =
          let y = h.each b k in_set some in
          let e = some_entry y.0 y.1 y.3 in
          let m = found y.0 y.1 e.0 e.1 in
          let less = comes_before y.0 y.1 b k m.0 n y.5 y.3 some m.1 x in
          descend bound y.0 y.1 m.0 y.2 y.3 m.1 (omega (arith, less, l))

  slots_same : (i k : ℕ) → AtSlot i ≡ AtSlot k → i ≡ k
  slots_same i k e = cc

  slot_found : (k place : ℕ) (a : Asked) → Asks t k place a → (n : ℕ) × Is n (AtSlot k) place
  slot_found k place a asks = found (AtSlot k) place (InSlot k asks.entry) (ap (option_map (InSlot k)) asks.there)

  no_wrong_section : WrongSection t → ⊥
  no_wrong_section h =
      let x = slot_found h.slot h.place h.asked h.asks in
      let p = kept pool_part items x.1.item (h.asked.place, OfSlot h.asked.section h.asked.answer) x.0 x.1.at (asks_part x.0 h.slot h.place h.asked h.asks x.1) in
      let r = numbered_all 0 t.pool p.0 (h.asked.place, OfSlot h.asked.section h.asked.answer) (ap (λ xs. slice_get xs p.0) (sym j.order.pool) ∙ p.1) in
      let same : p.0 ≡ h.asked.place = omega (arith, r.0) in
      h.other (ap (slice_get t.pool) (sym same) ∙ r.1)

  no_shared_section : SharedSection t → ⊥
  no_shared_section h =
      let x = slot_found h.slot h.place h.asked h.asks in
      let y = slot_found h.slot' h.place' h.asked' h.asks' in
      let p = asks_part x.0 h.slot h.place h.asked h.asks x.1 in
      let q = asks_part y.0 h.slot' h.place' h.asked' h.asks' y.1 in
      let same : x.0 ≡ y.0 = two_indices x.0 y.0
      (λ l. (let wrong = rises pool_part items 0 t.pool x.0 y.0 x.1.item y.1.item (h.asked.place, OfSlot h.asked.section h.asked.answer)
      (h.asked'.place, OfSlot h.asked'.section h.asked'.answer) j.order.pool x.1.at y.1.at p q l in let e = h.same in
      absurd (omega (arith, wrong, e))))
      (λ l. (let wrong = rises pool_part items 0 t.pool y.0 x.0 y.1.item x.1.item (h.asked'.place, OfSlot h.asked'.section h.asked'.answer)
      (h.asked.place, OfSlot h.asked.section h.asked.answer) j.order.pool y.1.at x.1.at q p l in let e = h.same in
      absurd (omega (arith, wrong, e)))) in
      let one : x.1.item ≡ y.1.item = some_is x.1.item y.1.item (sym x.1.at ∙ ap (slice_get items) same ∙ y.1.at) in
      h.apart (
        slots_same h.slot h.slot' (sym x.1.part' ∙ ap (λ (z : Item). part_of z.entry) one ∙ y.1.part'),
        sym x.1.place' ∙ ap (λ (z : Item). z.place) one ∙ y.1.place',
      )

  no_lost_section : LostSection t → ⊥
  no_lost_section h =
      let i = kept_from pool_part items (0 + h.place, OfSlot h.section h.answer) h.place
      (ap (λ xs. slice_get xs h.place) j.order.pool ∙ all_numbered 0 t.pool h.place (OfSlot h.section h.answer) h.there) in
      by_entry i.1.entry i.1 refl (stands i.0 i.1 i.2) i.3
    where
      by_entry : (e : Entry) (i : Item) → i.entry ≡ e → StandsAt t i.entry i.place → pool_part i ≡ Some (0 + h.place, OfSlot h.section h.answer) → ⊥
      by_entry (InTasks e) i is s p = (let none = ap (pool_entry i.place) is in cc)
      by_entry (InPool v r) i is s p =
          let kind : (i.place, OfPool v r) ≡ (0 + h.place, OfSlot h.section h.answer) = some_is (i.place, OfPool v r) (0 + h.place, OfSlot h.section h.answer) (sym (ap (pool_entry i.place) is) ∙ p) in
          let other : OfPool v r ≡ OfSlot h.section h.answer = ap (λ (q : ℕ × PoolEntry). q.1) kind in cc
      by_entry (InSlot k e) i is s p = by_asked e.asked refl (sym (ap (pool_entry i.place) is) ∙ p)
        where
          by_asked : (o : Option Asked) → e.asked ≡ o → section_entry o ≡ Some (0 + h.place, OfSlot h.section h.answer) → ⊥
          by_asked None asked eq = cc
          by_asked (Some a) asked eq =
              let there : slice_get (slot_trail t k) i.place ≡ Some e = subst (λ (x : Entry). StandsAt t x i.place) is s in
              let place : a.place ≡ 0 + h.place = ap (λ (q : ℕ × PoolEntry). q.0) (some_is (a.place, OfSlot a.section a.answer) (0 + h.place, OfSlot h.section h.answer) eq) in
              h.lost k i.place a record { entry = e; there = there; asks = asked } (omega (arith, place))

  no_wrong_receipt : WrongReceipt t receipts → ⊥
  no_wrong_receipt h =
      let within = row_there receipts h.session h.i (get_there (slice_index_or receipts h.session []) h.i h.receipt h.has) in
      let x = kept_from (told h.session) items h.receipt h.i (ap (λ xs. slice_get xs h.i) (j.told.each h.session within) ∙ h.has) in
      let is = told_is h.session x.1 h.receipt x.3 in
      let there = entry_stands x.1.entry x.1.place (stands x.0 x.1 x.2) in
      h.other (ap (λ (r : Receipt). option_map event_of (entry_at t r.part r.place)) is.1 ∙ ap (option_map event_of) there ∙ ap (λ (r : Receipt). Some (r.event, r.reply)) (sym is.1))

  no_untold : Untold t receipts → ⊥
  no_untold h =
      let x = found h.part h.place h.entry h.there in
      let i = x.1.item in
      let by : i.by < length receipts = all_at (λ (y : Item). y.by < length receipts) items x.0 i x.1.at j.told.by in
      let own : told i.by i ≡ Some (receipt_of i) = ap (λ b. cond b (Some (receipt_of i)) None) (eq-eqb i.by i.by refl) in
      let m = kept (told i.by) items i (receipt_of i) x.0 x.1.at own in
      h.untold i.by m.0 (receipt_of i) (ap (λ xs. slice_get xs m.0) (sym (j.told.each i.by by)) ∙ m.1) (x.1.part', x.1.place')

  -- two receipts of one session that tell of one place are one
  one_receipt : (s p q : ℕ) (r u : Receipt) → HasReceipt receipts s p r → HasReceipt receipts s q u → r.part ≡ u.part → r.place ≡ u.place → p < q → ⊥
  one_receipt s p q r u has has' part place l =
      let within = row_there receipts s p (get_there (slice_index_or receipts s []) p r has) in
      let pair = from_pair (told s) items p q r u (ap (λ xs. slice_get xs p) (j.told.each s within) ∙ has) (ap (λ xs. slice_get xs q) (j.told.each s within) ∙ has') l in
      let first = told_is s pair.a r pair.gives in
      let second = told_is s pair.b u pair.gives' in
      let one : pair.m ≡ pair.n =
      unique pair.m pair.n u.part u.place
      record { item = pair.a; at = pair.first; part' = sym (ap (λ (z : Receipt). z.part) first.1) ∙ part; place' = sym (ap (λ (z : Receipt). z.place) first.1) ∙ place }
      record { item = pair.b; at = pair.second; part' = sym (ap (λ (z : Receipt). z.part) second.1); place' = sym (ap (λ (z : Receipt). z.place) second.1) } in
      let less = pair.before in
      absurd (omega (arith, less, one))

  no_told_twice : ToldTwice receipts → ⊥
  no_told_twice h =
      let x = of_receipt h.session h.i h.receipt h.has in
      let y = of_receipt h.session' h.i' h.receipt' h.has' in
      let moved : Is y.0 h.receipt.part h.receipt.place = record { item = y.1.item; at = y.1.at; part' = y.1.part' ∙ sym h.part; place' = y.1.place' ∙ sym h.place } in
      let same = unique x.0 y.0 h.receipt.part h.receipt.place x.1 moved in
      let one : x.1.item ≡ y.1.item = some_is x.1.item y.1.item (sym x.1.at ∙ ap (slice_get items) same ∙ y.1.at) in
      let session : h.session ≡ h.session' = sym x.2 ∙ ap (λ (z : Item). z.by) one ∙ y.2 in
      let there : HasReceipt receipts h.session h.i' h.receipt' = subst (λ (n : ℕ). HasReceipt receipts n h.i' h.receipt') (sym session) h.has' in
      h.apart (
        session,
        two_indices h.i h.i' (λ l. one_receipt h.session h.i h.i' h.receipt h.receipt' h.has there h.part h.place l)
            (λ l. one_receipt h.session h.i' h.i h.receipt' h.receipt there h.has (sym h.part) (sym h.place) l),
      )

  pub joined_differ_not : Differ t receipts → ⊥
  joined_differ_not (inl h) = no_wrong_section h
  joined_differ_not (inr (inl h)) = no_shared_section h
  joined_differ_not (inr (inr (inl h))) = no_lost_section h
  joined_differ_not (inr (inr (inr (inl h)))) = no_wrong_receipt h
  joined_differ_not (inr (inr (inr (inr (inl h))))) = no_told_twice h
  joined_differ_not (inr (inr (inr (inr (inr (inl h)))))) = no_untold h
  joined_differ_not (inr (inr (inr (inr (inr (inr h)))))) = no_circle h
