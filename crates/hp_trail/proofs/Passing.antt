-- What was passed: a receipt that was passed tells of a place that was, and a place that was passed is told by a receipt that was.
use Rattle.std.proofs.lemmas.Grind.{common_steps}
use Rattle.std.proofs.Common.{◌≡◌, ℕ, zero, suc, ◌+◌, ◌<◌, ◌==◌, Bool, true, false, cond, Option, None, Some, List, [], ◌∷◌, length, take, refl, sym, ap, ◌∙◌, subst, arith, All, slice_get}
use Rattle.std.proofs.Common.{slice_index_or}
use Rattle.std.proofs.lemmas.Bool.{eq-eqb, eqb-true}
use Rattle.hp_laws.proofs.Variants.{Asked, AtPool, AtSlot, OfPool, OfSlot, Part, PoolAnswer, PoolEntry, PoolEvent, Receipt, Section, SlotEntry, TableEntry}
use Rattle.hp_model.specs.declared.entry.Part.TheVariants.{Tasks}
use Rattle.hp_model.proofs.Words.{Entry, HasReceipt, InPool, InSlot, InTasks, IsThere, Item, Reply, Trails, keep, numbered, option_cons, part_of, placed, pool_entry, pool_part, receipt_of}
use Rattle.hp_model.proofs.Words.{section_entry, slot_entry, slot_part, slot_trail, task_entry, task_part, told}
use Rattle.hp_trail.specs.Walk.{Cursors, cursor_at, cursor, session, Walked}
use Rattle.hp_trail.proofs.Indexing.{some_is}

-- ---- lists

over : {X : Type 0} (o : Option X) (xs : List X) (y : X) (m : ℕ) → slice_get xs m ≡ Some y → (n : ℕ) × (slice_get (option_cons o xs) n ≡ Some y)
over None xs y m h = (m, h)
over (Some x) xs y m h = (suc m, h)

pub kept : {X Y : Type 0} (f : X → Option Y) (xs : List X) (x : X) (y : Y) (n : ℕ) → slice_get xs n ≡ Some x → f x ≡ Some y → (m : ℕ) × (slice_get (keep f xs) m ≡ Some y)
kept f [] x y n has is = cc
kept f (z ∷ zs) x y zero has is = grind (arith, common_steps, some_is)
kept f (z ∷ zs) x y (suc n) has is = let r = kept f zs x y n has is in over (f z) (keep f zs) y r.0 r.1

abbrev pub From : {X Y : Type 0} → (X → Option Y) → List X → Y → Type 0
From {X} f xs y = (n : ℕ) × (x : X) × (slice_get xs n ≡ Some x) × (f x ≡ Some y)

from_head : {X Y : Type 0} (f : X → Option Y) (z : X) (zs : List X) (y : Y) (o : Option Y) → f z ≡ o → ((m : ℕ) → slice_get (keep f zs) m ≡ Some y → From f zs y)
    → (m : ℕ) → slice_get (option_cons o (keep f zs)) m ≡ Some y → From f (z ∷ zs) y
from_head f z zs y None e rest m has = let r = rest m has in (suc r.0, r.1, r.2, r.3)
from_head f z zs y (Some w) e rest zero has = (0, z, refl, e ∙ has)
from_head f z zs y (Some w) e rest (suc m) has = let r = rest m has in (suc r.0, r.1, r.2, r.3)

pub kept_from : {X Y : Type 0} (f : X → Option Y) (xs : List X) (y : Y) (m : ℕ) → slice_get (keep f xs) m ≡ Some y → From f xs y
kept_from f [] y m has = cc
kept_from f (z ∷ zs) y m has = from_head f z zs y (f z) refl (λ m has. kept_from f zs y m has) m has

pub numbered_is : {X : Type 0} (a c : ℕ) (xs : List X) (m : ℕ) (p : ℕ × X) → slice_get (numbered a (take c xs)) m ≡ Some p → (p.0 ≡ a + m) × (m < c) × (slice_get xs m ≡ Some p.1)
numbered_is a zero xs m p has = cc
numbered_is a (suc c) [] m p has = cc
numbered_is a (suc c) (x ∷ xs) zero p has = grind (arith, common_steps, some_is)
numbered_is a (suc c) (x ∷ xs) (suc m) p has =
    let r = numbered_is (a + 1) c xs m p has in (omega (arith, r.0), omega (arith, r.1), r.2)

pub numbered_at : {X : Type 0} (a c : ℕ) (xs : List X) (m : ℕ) (x : X) → m < c → slice_get xs m ≡ Some x → slice_get (numbered a (take c xs)) m ≡ Some (a + m, x)
numbered_at a zero xs m x l has = absurd (omega (arith, l))
numbered_at a (suc c) [] m x l has = cc
numbered_at a (suc c) (y ∷ ys) zero x l has = grind (arith, common_steps, some_is)
numbered_at a (suc c) (y ∷ ys) (suc m) x l has =
    let place : a + 1 + m ≡ a + suc m = omega arith in numbered_at (a + 1) c ys m x (omega (arith, l)) has ∙ ap (λ n. Some (n, x)) place

take_is : {X : Type 0} (c : ℕ) (xs : List X) (m : ℕ) (x : X) → slice_get (take c xs) m ≡ Some x → (m < c) × (slice_get xs m ≡ Some x)
take_is zero xs m x has = cc
take_is (suc c) [] m x has = cc
take_is (suc c) (y ∷ ys) zero x has = (omega arith, has)
take_is (suc c) (y ∷ ys) (suc m) x has = let r = take_is c ys m x has in (omega (arith, r.0), r.1)

take_at : {X : Type 0} (c : ℕ) (xs : List X) (m : ℕ) (x : X) → m < c → slice_get xs m ≡ Some x → slice_get (take c xs) m ≡ Some x
take_at zero xs m x l has = absurd (omega (arith, l))
take_at (suc c) [] m x l has = cc
take_at (suc c) (y ∷ ys) zero x l has = has
take_at (suc c) (y ∷ ys) (suc m) x l has = take_at c ys m x (omega (arith, l)) has

there_at : {X : Type 0} (xs : List X) (n : ℕ) (x : X) → slice_get xs n ≡ Some x → (n < length xs) × (slice_index_or xs n x ≡ x)
there_at [] n x e = cc
there_at (y ∷ ys) zero x e = (omega arith, some_is y x e)
there_at (y ∷ ys) (suc n) x e = let h = there_at ys n x e in (omega (arith, h.0), h.1)

pub all_at : {X : Type 0} (P : X → Type 0) (xs : List X) (n : ℕ) (x : X) → slice_get xs n ≡ Some x → All P xs → P x
all_at P xs n x e all = let h = there_at xs n x e in subst P h.1 (all n x h.0)

two_kinds : (s : Section) (x : PoolAnswer) (v : PoolEvent) (a : Reply) → OfSlot s x ≡ OfPool v a → ⊥
two_kinds s x v a e = cc

-- ---- places

pub told_is : (s : ℕ) (i : Item) (r : Receipt) → told s i ≡ Some r → (i.by ≡ s) × (r ≡ receipt_of i)
told_is s i r = grind (arith, common_steps)

pub own_slot : (k place : ℕ) (e : SlotEntry) → placed place (slot_entry k (InSlot k e)) ≡ Some (place, e)
own_slot k place e = ap (λ b. placed place (cond b (Some e) None)) (eq-eqb k k refl)

-- ---- an item, by what it gives to a part

pub task_is : (e : Entry) (place : ℕ) (p : ℕ × TableEntry) → placed place (task_entry e) ≡ Some p → (part_of e ≡ Tasks) × (place ≡ p.0)
task_is e place p is = grind (arith, common_steps)

pub slot_is : (k : ℕ) (e : Entry) (place : ℕ) (p : ℕ × SlotEntry) → placed place (slot_entry k e) ≡ Some p → (part_of e ≡ AtSlot k) × (place ≡ p.0)
slot_is k e place p is = grind (arith, common_steps)

pub pool_is : (e : Entry) (place n : ℕ) (v : PoolEvent) (a : Reply) → pool_entry place e ≡ Some (n, OfPool v a) → (part_of e ≡ AtPool) × (place ≡ n)
pool_is e place n v a is = grind (arith, common_steps)

module _ (t : Trails) (receipts : List (List Receipt)) (c : Cursors) (items : List Item) (w : Walked t receipts c items) where
  -- an item's place is below the cursor
  below : (i : Item) (n : ℕ) → slice_get items n ≡ Some i → IsThere (length t.slots) i.entry → i.place < cursor c (part_of i.entry)
  below i n has there = by_entry i.entry i refl there has
    where
      by_entry : (e : Entry) (i : Item) → i.entry ≡ e → IsThere (length t.slots) e → slice_get items n ≡ Some i → i.place < cursor c (part_of e)
      by_entry (InTasks e) i is there has =
          let m = kept task_part items i (i.place, e) n has (ap (λ x. task_part (record i { entry = x })) is) in
          let r = numbered_is 0 c.tasks t.tasks m.0 (i.place, e) (ap (λ xs. slice_get xs m.0) (sym w.tasks) ∙ m.1) in omega (arith, r.0, r.1)
      by_entry (InSlot k e) i is there has =
          let m = kept (slot_part k) items i (i.place, e) n has (ap (λ x. slot_part k (record i { entry = x })) is ∙ own_slot k i.place e) in
          let r = numbered_is 0 (cursor_at c.slots k) (slot_trail t k) m.0 (i.place, e) (ap (λ xs. slice_get xs m.0) (sym (w.slots k there)) ∙ m.1) in omega (arith, r.0, r.1)
      by_entry (InPool e a) i is there has =
          let m = kept pool_part items i (i.place, OfPool e a) n has (ap (λ x. pool_part (record i { entry = x })) is) in
          let r = numbered_is 0 c.pool t.pool m.0 (i.place, OfPool e a) (ap (λ xs. slice_get xs m.0) (sym w.pool) ∙ m.1) in omega (arith, r.0, r.1)

  -- a receipt that was passed tells of a place that was passed
  pub passed_place : (s j : ℕ) (r : Receipt) → s < length receipts → j < cursor_at c.sessions s → HasReceipt receipts s j r → r.place < cursor c r.part
  passed_place s j r l before has =
      let taken = take_at (cursor_at c.sessions s) (session receipts s) j r before has in
      let i = kept_from (told s) items r j (ap (λ xs. slice_get xs j) (w.told s l) ∙ taken) in
      let is : r ≡ receipt_of i.1 = (told_is s i.1 r i.3).1 in
      subst (λ (x : Receipt). x.place < cursor c x.part) (sym is) (below i.1 i.0 i.2 (all_at (λ (x : Item). IsThere (length t.slots) x.entry) items i.0 i.1 i.2 w.there))

  -- an item is told by a receipt that was passed
  told_by : (i : Item) (n : ℕ) → slice_get items n ≡ Some i
      → (s : ℕ) × (j : ℕ) × (s < length receipts) × (j < cursor_at c.sessions s) × HasReceipt receipts s j (receipt_of i)
  told_by i n has =
      let l : i.by < length receipts = all_at (λ (x : Item). x.by < length receipts) items n i has w.by in
      let own : told i.by i ≡ Some (receipt_of i) = ap (λ b. cond b (Some (receipt_of i)) None) (eq-eqb i.by i.by refl) in
      let m = kept (told i.by) items i (receipt_of i) n has own in
      let r = take_is (cursor_at c.sessions i.by) (session receipts i.by) m.0 (receipt_of i) (ap (λ xs. slice_get xs m.0) (sym (w.told i.by l)) ∙ m.1) in
      (i.by, m.0, l, r.0, r.1)

  abbrev pub Told : Part → ℕ → Type 0
  Told part place = (s : ℕ) × (j : ℕ) × (r : Receipt) × (s < length receipts) × (j < cursor_at c.sessions s) × HasReceipt receipts s j r × (r.part ≡ part) × (r.place ≡ place)

  told_at : (i : Item) (n : ℕ) (part : Part) (place : ℕ) → slice_get items n ≡ Some i → part_of i.entry ≡ part → i.place ≡ place → Told part place
  told_at i n part place has is at = grind (arith, common_steps, told_by)

  -- an event of the task table that was passed is told by a receipt that was passed
  pub passed_task : (place : ℕ) (e : TableEntry) → place < c.tasks → slice_get t.tasks place ≡ Some e → Told Tasks place
  passed_task place e l has =
      let there = numbered_at 0 c.tasks t.tasks place e l has in
      let i = kept_from task_part items (0 + place, e) place (ap (λ xs. slice_get xs place) w.tasks ∙ there) in
      let is = task_is i.1.entry i.1.place (0 + place, e) i.3 in
      told_at i.1 i.0 Tasks place i.2 is.0 (is.1 ∙ omega arith)

  -- and so is an event of a slot
  pub passed_slot : (k place : ℕ) (e : SlotEntry) → k < length t.slots → place < cursor_at c.slots k → slice_get (slot_trail t k) place ≡ Some e → Told (AtSlot k) place
  passed_slot k place e there l has =
      let within = numbered_at 0 (cursor_at c.slots k) (slot_trail t k) place e l has in
      let i = kept_from (slot_part k) items (0 + place, e) place (ap (λ xs. slice_get xs place) (w.slots k there) ∙ within) in
      let is = slot_is k i.1.entry i.1.place (0 + place, e) i.3 in
      told_at i.1 i.0 (AtSlot k) place i.2 is.0 (is.1 ∙ omega arith)

  -- and of the pool
  pub passed_pool : (place : ℕ) (v : PoolEvent) (a : Reply) → place < c.pool → slice_get t.pool place ≡ Some (OfPool v a) → Told AtPool place
  passed_pool place v a l has =
      let there = numbered_at 0 c.pool t.pool place (OfPool v a) l has in
      let i = kept_from pool_part items (0 + place, OfPool v a) place (ap (λ xs. slice_get xs place) w.pool ∙ there) in
      let is = pool_is i.1.entry i.1.place (0 + place) v a i.3 in
      told_at i.1 i.0 AtPool place i.2 is.0 (is.1 ∙ omega arith)

  -- the section of a slot's event that was passed is below the pool's cursor
  pub passed_section : (k place : ℕ) (e : SlotEntry) (a : Asked) → k < length t.slots → place < cursor_at c.slots k → slice_get (slot_trail t k) place ≡ Some e → e.asked ≡ Some a → a.place < c.pool
  passed_section k place e a there l has asked =
      let within = numbered_at 0 (cursor_at c.slots k) (slot_trail t k) place e l has in
      let i = kept_from (slot_part k) items (0 + place, e) place (ap (λ xs. slice_get xs place) (w.slots k there) ∙ within) in
      let own = slot_entry_is k i.1.entry i.1.place (0 + place, e) i.3 in
      let m = kept pool_part items i.1 (a.place, OfSlot a.section a.answer) i.0 i.2 (ap (λ x. pool_part (record i.1 { entry = x })) own ∙ ap section_entry asked) in
      let r = numbered_is 0 c.pool t.pool m.0 (a.place, OfSlot a.section a.answer) (ap (λ xs. slice_get xs m.0) (sym w.pool) ∙ m.1) in omega (arith, r.0, r.1)
    where
      slot_entry_is : (k : ℕ) (x : Entry) (place : ℕ) (p : ℕ × SlotEntry) → placed place (slot_entry k x) ≡ Some p → x ≡ InSlot k p.1
      slot_entry_is k (InTasks x) place p is = cc
      slot_entry_is k (InSlot j x) place p is = by_test (j == k) refl is
        where
          by_test : (b : Bool) → (j == k) ≡ b → placed place (cond b (Some x) None) ≡ Some p → InSlot j x ≡ InSlot k p.1
          by_test true same is = ap (λ n. InSlot n x) (eqb-true j k same) ∙ ap (λ (q : ℕ × SlotEntry). InSlot k q.1) (some_is (place, x) p is)
          by_test false same is = cc
      slot_entry_is k (InPool v r) place p is = cc

  -- what was passed in the pool's trail as a section is that of a slot's event that was passed
  pub section_passed : (place : ℕ) (section : Section) (answer : PoolAnswer) → place < c.pool → slice_get t.pool place ≡ Some (OfSlot section answer)
      → (k : ℕ) × (i : ℕ) × (e : SlotEntry) × (a : Asked) × (k < length t.slots) × (i < cursor_at c.slots k) × (slice_get (slot_trail t k) i ≡ Some e) × (e.asked ≡ Some a) × (a.place ≡ place)
  section_passed place section answer l has =
      let there = numbered_at 0 c.pool t.pool place (OfSlot section answer) l has in
      let i = kept_from pool_part items (0 + place, OfSlot section answer) place (ap (λ xs. slice_get xs place) w.pool ∙ there) in
      let found = in_slot i.1 i.1.entry refl (all_at (λ (x : Item). IsThere (length t.slots) x.entry) items i.0 i.1 i.2 w.there) i.3 in
      let m = kept (slot_part found.0) items i.1 (i.1.place, found.1) i.0 i.2 (ap (λ x. placed i.1.place (slot_entry found.0 x)) found.3 ∙ own_slot found.0 i.1.place found.1) in
      let r = numbered_is 0 (cursor_at c.slots found.0) (slot_trail t found.0) m.0 (i.1.place, found.1) (ap (λ xs. slice_get xs m.0) (sym (w.slots found.0 found.4)) ∙ m.1) in
      (found.0, m.0, found.1, found.2, found.4, r.1, r.2, found.5, found.6 ∙ omega arith)
    where
      in_slot : (i : Item) (x : Entry) → i.entry ≡ x → IsThere (length t.slots) x → pool_entry i.place x ≡ Some (0 + place, OfSlot section answer)
          → (k : ℕ) × (e : SlotEntry) × (a : Asked) × (i.entry ≡ InSlot k e) × (k < length t.slots) × (e.asked ≡ Some a) × (a.place ≡ 0 + place)
      in_slot i (InTasks y) is there same = cc
      in_slot i (InSlot k e) is there same = by_asked e.asked refl same
        where
          by_asked : (o : Option Asked) → e.asked ≡ o → section_entry o ≡ Some (0 + place, OfSlot section answer)
              → (k : ℕ) × (e : SlotEntry) × (a : Asked) × (i.entry ≡ InSlot k e) × (k < length t.slots) × (e.asked ≡ Some a) × (a.place ≡ 0 + place)
          by_asked None asked eq = cc
          by_asked (Some a) asked eq = (k, e, a, is, there, asked, ap (λ (q : ℕ × PoolEntry). q.0) (some_is (a.place, OfSlot a.section a.answer) (0 + place, OfSlot section answer) eq))
      in_slot i (InPool v r) is there same =
          absurd (two_kinds section answer v r (sym (ap (λ (q : ℕ × PoolEntry). q.1) (some_is (i.place, OfPool v r) (0 + place, OfSlot section answer) same))))
