-- Where the walk can't go on: what is left of trails and receipts goes round in a circle.
use Rattle.std.proofs.lemmas.Grind.{common_steps}
use Rattle.std.proofs.Common.{◌≡◌, ◌≢◌, inl, inr, ℕ, ◌<◌, ◌≤◌, Option, None, Some, List, length, refl, sym, ap, subst, arith, slice_get, option_map, option_and_then}
use Rattle.std.proofs.lemmas.Bool.{cases_lt}
use Rattle.hp_laws.proofs.Variants.{Asked, AtPool, AtSlot, OfPool, OfSlot, Part, PoolAnswer, PoolEntry, Receipt, Section, SlotEntry, TableEntry}
use Rattle.hp_model.specs.declared.entry.Part.TheVariants.{Tasks}
use Rattle.hp_model.proofs.Words.{Asks, Differ, HasReceipt, InPool, InSlot, InTasks, Item, Trails, entry_at, of_pool, slot_trail}
use Rattle.hp_trail.specs.Tellers.{AreTold, TellerRows}
use Rattle.hp_trail.specs.Walk.{Cursors, HasReceiptsLeft, HaveEnded, JoinsBy, Waits, Walked, WalkedBy, cursor, cursor_at, session}
use Rattle.hp_trail.proofs.Circle.{IsStuck, circle}
use Rattle.hp_trail.proofs.Indexing.{get_there, row_there, there_get}
use Rattle.hp_trail.proofs.Passing.{Told, passed_place, passed_task, passed_slot, passed_pool, passed_section, section_passed}
use Rattle.hp_trail.proofs.Walking.{joined}

some_not_none : {X : Type 0} (x : X) (o : Option X) → o ≡ Some x → o ≢ None
some_not_none x o a b = cc

module _ (t : Trails) (receipts : List (List Receipt)) (c : Cursors) (items : List Item) (w : Walked t receipts c items) (rows : TellerRows) (h : AreTold t receipts rows) where
  right : (s j : ℕ) (r : Receipt) → HasReceipt receipts s j r → entry_at t r.part r.place ≢ None
  right s j r has = (let e = h.right s j r has in some_not_none e.0 (entry_at t r.part r.place) e.1.there)

  session_there : (s j : ℕ) (r : Receipt) → HasReceipt receipts s j r → s < length receipts
  session_there s j r has = row_there receipts s j (get_there (session receipts s) j r has)

  -- an event that was passed is told by a receipt that was
  passed_told : (part : Part) (place : ℕ) → entry_at t part place ≢ None → place < cursor c part → Told t receipts c items w part place
  passed_told Tasks place some l = by_entry (slice_get t.tasks place) refl
    where
      by_entry : (o : Option TableEntry) → slice_get t.tasks place ≡ o → Told t receipts c items w Tasks place
      by_entry None e = absurd (some (ap (option_map InTasks) e))
      by_entry (Some x) e = passed_task t receipts c items w place x l e
  passed_told (AtSlot k) place some l = by_entry (slice_get (slot_trail t k) place) refl
    where
      by_entry : (o : Option SlotEntry) → slice_get (slot_trail t k) place ≡ o → Told t receipts c items w (AtSlot k) place
      by_entry None e = absurd (some (ap (option_map (InSlot k)) e))
      by_entry (Some x) e = passed_slot t receipts c items w k place x (row_there t.slots k place (get_there (slot_trail t k) place x e)) l e
  passed_told AtPool place some l = by_entry (slice_get t.pool place) refl
    where
      by_entry : (o : Option PoolEntry) → slice_get t.pool place ≡ o → Told t receipts c items w AtPool place
      by_entry None e = absurd (some (ap (λ o. option_and_then of_pool o) e))
      by_entry (Some (OfSlot section answer)) e = absurd (some (ap (λ o. option_and_then of_pool o) e))
      by_entry (Some (OfPool v a)) e = passed_pool t receipts c items w place v a l e

  -- a receipt that is left is of an event that is left
  left_of : (s j : ℕ) (r : Receipt) → cursor_at c.sessions s ≤ j → HasReceipt receipts s j r → cursor c r.part ≤ r.place
  left_of s j r l has =
      elim (cases_lt r.place (cursor c r.part)) [
        | inl below ↦
            let x = passed_told r.part r.place (right s j r has) below in
            let same = h.once s j x.0 x.1 r x.2 has x.5 (sym x.6) (sym x.7) in
            let moved : x.1 < cursor_at c.sessions s = subst (λ (n : ℕ). x.1 < cursor_at c.sessions n) (sym same.0) x.4 in
            absurd (omega (arith, same.1, moved, l))
        | inr above ↦ above
      ]

  -- and an event that is left is told by a receipt that is left
  told_left : (part : Part) (place : ℕ) → entry_at t part place ≢ None → cursor c part ≤ place
      → (s : ℕ) × (j : ℕ) × (r : Receipt) × (cursor_at c.sessions s ≤ j) × HasReceipt receipts s j r × (r.part ≡ part) × (r.place ≡ place)
  told_left part place some l = grind (arith, common_steps, cases_lt, passed_place, session_there)

  -- a section at the pool's cursor is of an event that is left
  claimed : (section : Section) (answer : PoolAnswer) → slice_get t.pool c.pool ≡ Some (OfSlot section answer)
      → (k : ℕ) × (i : ℕ) × (asked : Asked) × Asks t k i asked × (asked.place ≡ c.pool) × (cursor_at c.slots k ≤ i)
  claimed section answer stands =
      let x = h.claimed c.pool section answer stands in
      elim (cases_lt x.1 (cursor_at c.slots x.0)) [
        | inl before ↦
            let there = row_there t.slots x.0 x.1 (get_there (slot_trail t x.0) x.1 x.3.entry x.3.there) in
            let below = passed_section t receipts c items w x.0 x.1 x.3.entry x.2 there before x.3.there x.3.asks in
            absurd (omega (arith, below, x.4))
        | inr after ↦ (x.0, x.1, x.2, x.3, x.4, after)
      ]

  -- a section that waits is past the pool's cursor
  later : (s : ℕ) (r : Receipt) (k : ℕ) (a : Asked) → HasReceipt receipts s (cursor_at c.sessions s) r → r.part ≡ AtSlot k → Asks t k r.place a → a.place ≢ c.pool → c.pool < a.place
  later s r k a has part asks ne =
      elim (cases_lt a.place c.pool) [
        | inl before ↦
            let stands = h.section s (cursor_at c.sessions s) r k a has part asks in
            let x = section_passed t receipts c items w a.place a.section a.answer before stands.0 in
            let y = passed_slot t receipts c items w x.0 x.1 x.2 x.4 x.5 x.6 in
            let asks' : Asks t x.0 y.2.place x.3 = subst (λ (n : ℕ). Asks t x.0 n x.3) (sym y.7) record { entry = x.2; there = x.6; asks = x.7 } in
            let same = h.apart s (cursor_at c.sessions s) y.0 y.1 r y.2 k x.0 a x.3 has y.5 part y.6 asks asks' (sym x.8) in
            let moved : y.1 < cursor_at c.sessions s = subst (λ (n : ℕ). y.1 < cursor_at c.sessions n) (sym same.0) y.4 in
            absurd (omega (arith, same.1, moved))
        | inr after ↦ omega (arith, after, ne)
      ]

  blocked : ((s : ℕ) → s < length receipts → Waits t receipts c s) → (s : ℕ) (r : Receipt) → HasReceipt receipts s (cursor_at c.sessions s) r → r.place ≡ cursor c r.part
      → (k : ℕ) × (asked : Asked) × (r.part ≡ AtSlot k) × Asks t k r.place asked × (c.pool < asked.place) × (slice_get t.pool asked.place ≢ None)
  blocked waits s r has at_cursor =
      elim (waits s (session_there s (cursor_at c.sessions s) r has) r has) [
        | inl ne ↦ absurd (ne at_cursor)
        | inr x ↦
            let stands = h.section s (cursor_at c.sessions s) r x.0 x.1 has x.2 x.3 in
            (x.0, x.1, x.2, x.3, later s r x.0 x.1 has x.2 x.3 x.4, some_not_none (OfSlot x.1.section x.1.answer) (slice_get t.pool x.1.place) stands.0)
      ]

  -- no session can go on, and some receipt is left
  pub stuck_differs : ((s : ℕ) → s < length receipts → Waits t receipts c s) → HasReceiptsLeft receipts c → Differ t receipts
  stuck_differs waits left =
      let r = there_get (session receipts left.0) (cursor_at c.sessions left.0) left.2 in
      let stuck : IsStuck t receipts c = record {
        right = right;
        told = told_left;
        left = left_of;
        once = λ s i j r q has has' part place. (h.once s i s j r q has has' part place).1;
        claimed = claimed;
        blocked = blocked waits;
      } in
      inr (inr (inr (inr (inr (inr
      (circle t receipts c stuck r.0.part r.0.place (left_of left.0 (cursor_at c.sessions left.0) r.0 (omega arith) r.1) (right left.0 (cursor_at c.sessions left.0) r.0 r.1)))))))

  -- all receipts were passed, and with them all trails
  module _ (ended : HaveEnded receipts c) where
    all_passed : (part : Part) (place : ℕ) → entry_at t part place ≢ None → place < cursor c part
    all_passed part place some = grind (arith, common_steps, session_there, get_there, passed_place)

    whole_tasks : length t.tasks ≤ c.tasks
    whole_tasks =
        elim (cases_lt c.tasks (length t.tasks)) [
          | inl l ↦
              let x = there_get t.tasks c.tasks l in
              let below = all_passed Tasks c.tasks (some_not_none (InTasks x.0) (entry_at t Tasks c.tasks) (ap (option_map InTasks) x.1)) in
              absurd (omega (arith, below))
          | inr l ↦ l
        ]

    whole_slots : (k : ℕ) → k < length t.slots → length (slot_trail t k) ≤ cursor_at c.slots k
    whole_slots k there =
        elim (cases_lt (cursor_at c.slots k) (length (slot_trail t k))) [
          | inl l ↦
              let x = there_get (slot_trail t k) (cursor_at c.slots k) l in
              let below = all_passed (AtSlot k) (cursor_at c.slots k) (some_not_none (InSlot k x.0) (entry_at t (AtSlot k) (cursor_at c.slots k)) (ap (option_map (InSlot k)) x.1)) in
              absurd (omega (arith, below))
          | inr l ↦ l
        ]

    whole_pool : length t.pool ≤ c.pool
    whole_pool =
        elim (cases_lt c.pool (length t.pool)) [
          | inl l ↦ (let x = there_get t.pool c.pool l in by_entry x.0 x.1)
          | inr l ↦ l
        ]
      where
        by_entry : (e : PoolEntry) → slice_get t.pool c.pool ≡ Some e → length t.pool ≤ c.pool
        by_entry (OfSlot section answer) stands =
            let x = claimed section answer stands in
            let below = all_passed (AtSlot x.0) x.1 (some_not_none (InSlot x.0 x.3.entry) (entry_at t (AtSlot x.0) x.1) (ap (option_map (InSlot x.0)) x.3.there)) in
            absurd (omega (arith, below, x.5))
        by_entry (OfPool v a) stands =
            let below = all_passed AtPool c.pool (some_not_none (InPool v a) (entry_at t AtPool c.pool) (ap (option_and_then of_pool) stands)) in
            absurd (omega (arith, below))

pub ended_joins : (t : Trails) (receipts : List (List Receipt)) (c : Cursors) (order : List ℕ) (rows : TellerRows) → WalkedBy t receipts c order →
    AreTold t receipts rows → HaveEnded receipts c → JoinsBy t receipts order
ended_joins t receipts c order rows w h ended = (
  w.0,
  joined t receipts c w.0 w.1 record {
    tasks = whole_tasks t receipts c w.0 w.1 rows h ended;
    slots = whole_slots t receipts c w.0 w.1 rows h ended;
    pool = whole_pool t receipts c w.0 w.1 rows h ended;
  } ended,
  w.2,
)
