-- The session's next receipt with the event that it tells of is the next item of the walk.
use Rattle.std.proofs.lemmas.Grind.{common_steps}
use Rattle.std.proofs.Common.{◌≡◌, inr, ℕ, ◌+◌, ◌<◌, ◌==◌, cond, Option, None, Some, List, length, refl, sym, ap, ◌∙◌, subst, arith, slice_get, slice_index_or, slice_set, option_and_then}
use Rattle.hp_laws.proofs.Variants.{Asked, AtSlot, OfPool, Part, Receipt, SlotEntry}
use Rattle.hp_model.proofs.Words.{Entry, HasReceipt, InPool, InSlot, InTasks, Item, Trails, entry_at, event_of, part_of, receipt_of, slot_trail}
use Rattle.hp_trail.specs.Tellers.{AreRight, HaveSections, Stands, TellsEntry, asked_section}
use Rattle.hp_trail.specs.Walk.{ComesNext, Cursors, GoesOn, IsBlocked, IsLater, Passes, Waits, SectionStands, Took}
use Rattle.hp_trail.specs.Walk.{cursor_at, cursor, next_section, part_length, past, past_section, session}
use Rattle.hp_trail.proofs.Indexing.{get_there, number_at, row_there, some_is}
use Rattle.hp_trail.proofs.Listing.{asks_of}

-- the entry stands in its trail there
abbrev pub StandsAt : Trails → Entry → ℕ → Type 0
StandsAt t (InTasks e) place = slice_get t.tasks place ≡ Some e
StandsAt t (InSlot k e) place = slice_get (slot_trail t k) place ≡ Some e
StandsAt t (InPool v a) place = slice_get t.pool place ≡ Some (OfPool v a)

module _ (t : Trails) where
  pub stands_at : (p : Part) (place : ℕ) (e : Entry) → entry_at t p place ≡ Some e → (part_of e ≡ p) × StandsAt t e place
  stands_at p place e is = grind (arith, common_steps)

-- a section comes next in the pool's trail
abbrev pub SectionNext : Trails → Cursors → Option Asked → Type 0
SectionNext t c o = SectionStands t o × ComesNext c o

abbrev pub past_session : ℕ → Cursors → Cursors
past_session s c = record c { sessions = slice_set c.sessions s (cursor_at c.sessions s + 1) }

module _ (t : Trails) (receipts : List (List Receipt)) (s : ℕ) (c : Cursors) (r : Receipt) where
  pub record IsNextOf (e : Entry) : Type 0 where
    pub has : HasReceipt receipts s (cursor_at c.sessions s) r
    pub sessions : length c.sessions ≡ length receipts
    pub slots : length c.slots ≡ length t.slots
    pub stands : StandsAt t e (cursor c (part_of e))
    pub is : r ≡ record { part = part_of e; place = cursor c (part_of e); event = (event_of e).0; reply = (event_of e).1 }
    pub section : SectionNext t c (asked_section e)

  abbrev item : Entry → Item
  item e = record { entry = e; place = cursor c (part_of e); by = s }

  module _ (e : Entry) (h : IsNextOf e) where
    below : s < length receipts
    below = row_there receipts s (cursor_at c.sessions s) (get_there (session receipts s) (cursor_at c.sessions s) r h.has)

    told_on : (n : ℕ) → GoesOn (session receipts n) (cursor_at c.sessions n) (cond (s == n) (Some (receipt_of (item e))) None) (cursor_at (slice_set c.sessions s (cursor_at c.sessions s + 1)) n)
    told_on n = grind (arith, common_steps)

  -- by the section of a slot's entry
  slot_passes : (k : ℕ) (e : SlotEntry) (o : Option Asked) → e.asked ≡ o → IsNextOf (InSlot k e) → SectionNext t c o
      → Passes t receipts c (record { entry = InSlot k e; place = cursor_at c.slots k; by = s }) (past_session s (past (AtSlot k) (past_section o c)))
  slot_passes k e o is h next = grind (arith, common_steps)

  passes : (e : Entry) (h : IsNextOf e) → Passes t receipts c (item e) (past_session s (past (part_of e) (past_section (asked_section e) c)))
  passes (InTasks e) h = grind (arith, common_steps, told_on, below)
  passes (InSlot k e) h = slot_passes k e e.asked refl h h.section
  passes (InPool v a) h = grind (arith, common_steps, told_on, below)

  -- the receipt, with the entry that it tells of
  pub took : (e : Entry) → TellsEntry t r e → HasReceipt receipts s (cursor_at c.sessions s) r → r.place ≡ cursor c r.part → length c.sessions ≡ length receipts →
      length c.slots ≡ length t.slots → SectionNext t c (asked_section e)
      → Took t receipts s r.part c (past_session s (past r.part (past_section (asked_section e) c)))
  took e tells has place sessions slots section =
      let at = stands_at t r.part r.place e tells.there in
      let here : r.place ≡ cursor c (part_of e) = place ∙ ap (cursor c) (sym at.0) in
      let next : IsNextOf e = record {
        has = has;
        sessions = sessions;
        slots = slots;
        stands = subst (λ (n : ℕ). StandsAt t e n) here at.1;
        is = (λ i. record { part = sym at.0 i; place = here i; event = ap (λ p. p.0) (sym tells.same) i; reply = ap (λ p. p.1) (sym tells.same) i });
        section = section;
      } in
      subst (λ (p : Part). Took t receipts s p c (past_session s (past p (past_section (asked_section e) c)))) at.0 (item e, passes e next, refl, refl)

-- ---- what is known of the session's next receipt

-- where the receipt's entry comes next
pub record Found (t : Trails) (c : Cursors) (r : Receipt) (part : Part) : Type 0 where
  pub entry : Entry
  pub tells : TellsEntry t r entry
  pub here : r.place ≡ cursor c r.part
  pub section : next_section t c part ≡ asked_section entry
  pub stands : SectionStands t (next_section t c part)
  pub below : cursor (past_section (next_section t c part) c) part < part_length t part

module _ (t : Trails) (c : Cursors) where
  by_section : (o : Option Asked) → ((a : Asked) → o ≡ Some a → Stands t.pool a) → SectionStands t o
  by_section o h = grind (arith, common_steps)

  within : (e : Entry) → StandsAt t e (cursor c (part_of e)) → cursor (past_section (asked_section e) c) (part_of e) < part_length t (part_of e)
  within (InTasks e) h = get_there t.tasks c.tasks e h
  within (InSlot k e) h = grind (arith, common_steps, get_there)
  within (InPool v a) h = get_there t.pool c.pool (OfPool v a) h

  pub found : (receipts : List (List Receipt)) (s i : ℕ) (r : Receipt) (part : Part) (place : ℕ) → AreRight t receipts → HaveSections t receipts → HasReceipt receipts s i r → r.part ≡ part
      → r.place ≡ place
      → place ≡ cursor c part → Found t c r part
  found receipts s i r part place right sections has is at next =
      let e = right s i r has in
      let there : entry_at t part (cursor c part) ≡ Some e.0 = ap (λ (p : Part). entry_at t p (cursor c part)) (sym is) ∙ ap (entry_at t r.part) (sym next ∙ sym at) ∙ e.1.there in
      let asked : next_section t c part ≡ asked_section e.0 = ap (option_and_then asked_section) there in
      let stood = stands_at t part (cursor c part) e.0 there in
      record {
        entry = e.0;
        tells = e.1;
        here = at ∙ next ∙ ap (cursor c) (sym is);
        section = asked;
        stands = by_section (next_section t c part) (λ a some.
            let asks = asks_of t r.part r.place e.0 a e.1.there (sym asked ∙ some) in
            sections s i r asks.0 a has asks.1 asks.2);
        below = subst (λ (p : Part). cursor (past_section (next_section t c part) c) p < part_length t p) stood.0
            (subst (λ (o : Option Asked). cursor (past_section o c) (part_of e.0) < part_length t (part_of e.0)) (sym asked)
            (within e.0 (subst (λ (p : Part). StandsAt t e.0 (cursor c p)) (sym stood.0) stood.1)));
      }

-- ---- what passing it comes to

pub past_sessions : (part : Part) (o : Option Asked) (c : Cursors) → (past part (past_section o c)).sessions ≡ c.sessions
past_sessions part o c = grind (arith, common_steps)

past_slots : (part : Part) (o : Option Asked) (c : Cursors) → length (past part (past_section o c)).slots ≡ length c.slots
past_slots part o c = grind (arith, common_steps)

pub taken : (t : Trails) (receipts : List (List Receipt)) (s : ℕ) (c : Cursors) (r : Receipt) (part : Part) (inside : Cursors) (n : ℕ) → Found t c r part
    → HasReceipt receipts s (cursor_at c.sessions s) r
    → r.part ≡ part → ComesNext c (next_section t c part) → length inside.sessions ≡ length receipts → length inside.slots ≡ length t.slots
    → inside ≡ past part (past_section (next_section t c part) c) → n ≡ slice_index_or inside.sessions s n
    → Took t receipts s part c (record inside { sessions = slice_set inside.sessions s (n + 1) })
taken t receipts s c r part inside n f has is next sessions slots same read =
    let o : Option Asked = next_section t c part in
    let sessions_same : inside.sessions ≡ c.sessions = ap (λ (x : Cursors). x.sessions) same ∙ past_sessions part o c in
    let sessions_long : length c.sessions ≡ length receipts = ap length (sym sessions_same) ∙ sessions in
    let slots_long : length c.slots ≡ length t.slots = sym (ap (λ (x : Cursors). length x.slots) same ∙ past_slots part o c) ∙ slots in
    let below = row_there receipts s (cursor_at c.sessions s) (get_there (session receipts s) (cursor_at c.sessions s) r has) in
    let n_is : cursor_at inside.sessions s ≡ n = number_at inside.sessions s n (omega (arith, below, sessions)) read in
    let section : SectionNext t c (asked_section f.entry) = subst (λ (x : Option Asked). SectionNext t c x) f.section (f.stands, next) in
    let all = took t receipts s c r f.entry f.tells has f.here sessions_long slots_long section in
    let by_part = subst (λ (p : Part). Took t receipts s p c (past_session s (past p (past_section (asked_section f.entry) c)))) is all in
    let by_section = subst (λ (x : Option Asked). Took t receipts s part c (past_session s (past part (past_section x c)))) (sym f.section) by_part in
    subst (λ (m : ℕ). Took t receipts s part c (record inside { sessions = slice_set inside.sessions s (m + 1) })) n_is
    (subst (λ (x : Cursors). Took t receipts s part c (past_session s x)) (sym same) by_section)

-- a session whose next receipt has its section later waits
pub later_waits : (t : Trails) (receipts : List (List Receipt)) (s : ℕ) (c : Cursors) (r : Receipt) (part : Part) → Found t c r part → HasReceipt receipts s (cursor_at c.sessions s) r → r.part ≡ part
    → IsLater c (next_section t c part) → Waits t receipts c s
later_waits t receipts s c r part f has is later q has' =
    let same : r ≡ q = some_is r q (sym has ∙ has') in
    subst (λ (x : Receipt). IsBlocked t c x) same (by_asked (asked_section f.entry) refl (subst (λ (x : Option Asked). IsLater c x) f.section later))
  where
    by_asked : (o : Option Asked) → asked_section f.entry ≡ o → IsLater c o → IsBlocked t c r
    by_asked None e l = absurd l
    by_asked (Some a) e l = (let asks = asks_of t r.part r.place f.entry a f.tells.there e in inr (asks.0, a, asks.1, asks.2, l))
