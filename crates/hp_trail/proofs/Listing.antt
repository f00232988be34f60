-- Going through the receipts: what the rows tell of those that were added.
use Rattle.std.proofs.lemmas.Grind.{common_steps}
use Rattle.std.proofs.Common.{◌≡◌, ◌≢◌, ◌⊎◌, inl, inr, ℕ, zero, suc, ◌+◌, ◌<◌, Option, None, Some, List, [], ◌∷◌, length, map, refl, sym, ap, ◌∙◌, subst, arith, slice_get, slice_index_or}
use Rattle.std.proofs.Common.{option_and_then, option_map}
use Rattle.std.proofs.lemmas.Bool.Decides.{eqb_tells}
use Rattle.hp_laws.proofs.Variants.{Asked, AtPool, AtSlot, OfPool, OfSlot, Part, PoolAnswer, PoolEntry, Receipt, Section, SlotEntry}
use Rattle.hp_model.specs.declared.entry.Part.TheVariants.{Tasks}
use Rattle.hp_model.proofs.Words.{Asks, Differ, Entry, HasReceipt, InPool, InSlot, InTasks, Trails, entry_at, of_pool, slot_trail}
use Rattle.hp_trail.specs.Tellers.{Added, AreListed, AreTold, Fit, Gap, IsNotFree, IsPast, IsRefused, NoGap, Source, Stands, TellerRows, TellsEntry, asked_section, blank, no_tellers, row, teller}
use Rattle.hp_trail.proofs.Indexing.{get_there, row_there, there_get, zeros_at}

some_none : {X : Type 0} (x : X) (o : Option X) → o ≡ Some x → o ≡ None → ⊥
some_none x o a b = cc

not_less : (m n : ℕ) → m < n → m ≡ n → ⊥
not_less m n l e = absurd (omega (arith, l, e))

nonzero : (n : ℕ) → n + 1 ≡ 0 → ⊥
nonzero n e = absurd (omega (arith, e))

split : (i j : ℕ) → i < j + 1 → (i < j) ⊎ (i ≡ j)
split i j l = elim (eqb_tells i j) [ inl w ↦ inr w.1 | inr w ↦ (let ne = w.1 in inl (omega (arith, l, ne))) ]

teller_at : (w : TellerRows) (p q : Part) (m n : ℕ) → p ≡ q → m ≡ n → teller w p m ≡ teller w q n
teller_at w p q m n x y = ap (λ (o : Part). teller w o m) x ∙ ap (teller w q) y

entry_same : (t : Trails) (p q : Part) (m n : ℕ) → p ≡ q → m ≡ n → entry_at t p m ≡ entry_at t q n
entry_same t p q m n x y = ap (λ (o : Part). entry_at t o m) x ∙ ap (entry_at t q) y

-- ---- entries

module _ (t : Trails) where
  -- an event with a section is a slot's
  pub asks_of : (p : Part) (place : ℕ) (e : Entry) (a : Asked) → entry_at t p place ≡ Some e → asked_section e ≡ Some a → (k : ℕ) × (p ≡ AtSlot k) × Asks t k place a
  asks_of p place e a at is = grind (arith, common_steps)

  -- where a section stands in the pool's trail, no event does
  pub no_event : (place : ℕ) (section : Section) (answer : PoolAnswer) (e : Entry) → slice_get t.pool place ≡ Some (OfSlot section answer) → entry_at t AtPool place ≡ Some e → ⊥
  no_event place section answer e stands at = some_none e (entry_at t AtPool place) at (ap (option_and_then of_pool) stands)

  -- ---- one receipt more

  module _ (receipts : List (List Receipt)) where
    past_more : (s j u i : ℕ) → IsPast s (j + 1) u i → IsPast s j u i ⊎ ((u ≡ s) × (i ≡ j))
    past_more s j u i h = grind (arith, common_steps)

    module _ (s j : ℕ) (r : Receipt) (w w' : TellerRows) (has : HasReceipt receipts s j r) (l : AreListed t receipts s j w) (a : Added t r s w w') where
      -- a place that was noted stays so
      kept : (part : Part) (place n : ℕ) → teller w part place ≡ n + 1 → teller w' part place ≡ n + 1
      kept part place n is =
          elim (a.others part place) [
            | inl same ↦ same ∙ is
            | inr other ↦
                elim other [
                  | inl own ↦ absurd (nonzero n (sym is ∙ teller_at w part r.part place r.place own.0 own.1 ∙ a.free))
                  | inr x ↦ absurd (nonzero n (sym is ∙ teller_at w part AtPool place x.0.place x.2 x.3 ∙ (a.section x.0 x.1).1))
                ]
          ]

      new_is : (u i : ℕ) (q : Receipt) → u ≡ s → i ≡ j → HasReceipt receipts u i q → q ≡ r
      new_is u i q x y h = grind (arith, common_steps)

      source_grows : (part : Part) (place : ℕ) → teller w' part place ≡ teller w part place → Source t receipts s j w part place → Source t receipts s (j + 1) w' part place
      source_grows part place same x = grind (arith, common_steps)

      just_past : IsPast s (j + 1) s j
      just_past = inr (refl, omega arith)

      source : (part : Part) (place : ℕ) → teller w' part place ≢ 0 → Source t receipts s (j + 1) w' part place
      source part place some =
          elim (a.others part place) [
            | inl same ↦ source_grows part place same (l.source part place (λ none. some (same ∙ none)))
            | inr other ↦
                elim other [
                  | inl own ↦
                      record { session = s; i = j; receipt = r; past = just_past; has = has; noted = teller_at w' part r.part place r.place own.0 own.1 ∙ a.own; is = inl (sym own.0, sym own.1) }
                  | inr x ↦
                      let asks = asks_of r.part r.place a.entry x.0 a.tells.there x.1 in
                      record {
                        session = s;
                        i = j;
                        receipt = r;
                        past = just_past;
                        has = has;
                        noted = teller_at w' part AtPool place x.0.place x.2 x.3 ∙ (a.section x.0 x.1).2;
                        is = inr (asks.0, x.0, asks.1, asks.2, x.2, sym x.3);
                      }
                ]
          ]

      right : (u i : ℕ) (q : Receipt) → IsPast s (j + 1) u i → HasReceipt receipts u i q → (e : Entry) × TellsEntry t q e
      right u i q past h =
          elim (past_more s j u i past) [
            | inl old ↦ l.right u i q old h
            | inr new ↦ subst (λ (x : Receipt). (e : Entry) × TellsEntry t x e) (sym (new_is u i q new.0 new.1 h)) (a.entry, a.tells)
          ]

      noted : (u i : ℕ) (q : Receipt) → IsPast s (j + 1) u i → HasReceipt receipts u i q → teller w' q.part q.place ≡ u + 1
      noted u i q past h =
          elim (past_more s j u i past) [
            | inl old ↦ kept q.part q.place u (l.noted u i q old h)
            | inr new ↦ (let same = new_is u i q new.0 new.1 h in ap (λ (x : Receipt). teller w' x.part x.place) same ∙ a.own ∙ ap (λ n. n + 1) (sym new.0))
          ]

      -- the section of the receipt itself
      own_section : (q : Receipt) (k : ℕ) (x : Asked) → q ≡ r → q.part ≡ AtSlot k → Asks t k q.place x
          → Stands t.pool x × (teller w AtPool x.place ≡ 0) × (teller w' AtPool x.place ≡ s + 1)
      own_section q k x same part asks = grind (arith, common_steps)

      section : (u i : ℕ) (q : Receipt) (k : ℕ) (x : Asked) → IsPast s (j + 1) u i → HasReceipt receipts u i q → q.part ≡ AtSlot k → Asks t k q.place x
          → Stands t.pool x × (teller w' AtPool x.place ≡ u + 1)
      section u i q k x past h part asks =
          elim (past_more s j u i past) [
            | inl old ↦ (let y = l.section u i q k x old h part asks in (y.0, kept AtPool x.place u y.1))
            | inr new ↦ (let y = own_section q k x (new_is u i q new.0 new.1 h) part asks in (y.0, y.2 ∙ ap (λ n. n + 1) (sym new.0)))
          ]

      -- the receipt's place was told of by none before
      first : (u i : ℕ) (q p : Receipt) → IsPast s j u i → HasReceipt receipts u i q → p ≡ r → q.part ≡ p.part → q.place ≡ p.place → ⊥
      first u i q p old h same part place = grind (arith, common_steps)

      once : (u i v h : ℕ) (q p : Receipt) → IsPast s (j + 1) u i → IsPast s (j + 1) v h → HasReceipt receipts u i q → HasReceipt receipts v h p → q.part ≡ p.part → q.place ≡ p.place
          → (u ≡ v) × (i ≡ h)
      once u i v h q p past past' at at' part place =
          elim (past_more s j u i past) [
            | inl old ↦
                elim (past_more s j v h past') [
                  | inl old' ↦ l.once u i v h q p old old' at at' part place
                  | inr new' ↦ absurd (first u i q p old at (new_is v h p new'.0 new'.1 at') part place)
                ]
            | inr new ↦
                elim (past_more s j v h past') [
                  | inl old' ↦ absurd (first v h p q old' at' (new_is u i q new.0 new.1 at) (sym part) (sym place))
                  | inr new' ↦ (new.0 ∙ sym new'.0, new.1 ∙ sym new'.1)
                ]
          ]

      first_section : (u i : ℕ) (q p : Receipt) (k m : ℕ) (x y : Asked) → IsPast s j u i → HasReceipt receipts u i q → p ≡ r → q.part ≡ AtSlot k → p.part ≡ AtSlot m → Asks t k q.place x
          → Asks t m p.place y → x.place ≡ y.place → ⊥
      first_section u i q p k m x y old h same part part' asks asks' place =
          let one = l.section u i q k x old h part asks in
          let two = own_section p m y same part' asks' in
          nonzero u (sym one.1 ∙ ap (teller w AtPool) place ∙ two.1)

      apart : (u i v h : ℕ) (q p : Receipt) (k m : ℕ) (x y : Asked) → IsPast s (j + 1) u i → IsPast s (j + 1) v h → HasReceipt receipts u i q → HasReceipt receipts v h p → q.part ≡ AtSlot k
          → p.part ≡ AtSlot m → Asks t k q.place x → Asks t m p.place y → x.place ≡ y.place → (u ≡ v) × (i ≡ h)
      apart u i v h q p k m x y past past' at at' part part' asks asks' place =
          elim (past_more s j u i past) [
            | inl old ↦
                elim (past_more s j v h past') [
                  | inl old' ↦ l.apart u i v h q p k m x y old old' at at' part part' asks asks' place
                  | inr new' ↦ absurd (first_section u i q p k m x y old at (new_is v h p new'.0 new'.1 at') part part' asks asks' place)
                ]
            | inr new ↦
                elim (past_more s j v h past') [
                  | inl old' ↦ absurd (first_section v h p q m k y x old' at' (new_is u i q new.0 new.1 at) part' part asks' asks (sym place))
                  | inr new' ↦ (new.0 ∙ sym new'.0, new.1 ∙ sym new'.1)
                ]
          ]

      pub listed_more : AreListed t receipts s (j + 1) w'
      listed_more = record { right = right; noted = noted; section = section; source = source; once = once; apart = apart }

    -- ---- a session more, and the start

    -- what holds of receipts that are past by one count holds by another
    moved : (s j u j' : ℕ) (w : TellerRows) → ((v i : ℕ) (q : Receipt) → HasReceipt receipts v i q → IsPast u j' v i → IsPast s j v i) → ((v i : ℕ) → IsPast s j v i → IsPast u j' v i)
        → AreListed t receipts s j w → AreListed t receipts u j' w
    moved s j u j' w back on l = record {
      right = λ v i q past h. l.right v i q (back v i q h past) h;
      noted = λ v i q past h. l.noted v i q (back v i q h past) h;
      section = λ v i q k x past h. l.section v i q k x (back v i q h past) h;
      source = λ part place some.
          let x = l.source part place some in
          record { session = x.session; i = x.i; receipt = x.receipt; past = on x.session x.i x.past; has = x.has; noted = x.noted; is = x.is };
      once = λ v i z h q p past past' at at'. l.once v i z h q p (back v i q at past) (back z h p at' past') at at';
      apart = λ v i z h q p k m x y past past' at at'. l.apart v i z h q p k m x y (back v i q at past) (back z h p at' past') at at';
    }

    pub next_session : (s : ℕ) (w : TellerRows) → AreListed t receipts s (length (slice_index_or receipts s [])) w → AreListed t receipts (s + 1) 0 w
    next_session s w l = moved s (length (slice_index_or receipts s [])) (s + 1) 0 w back on l
      where
        back : (v i : ℕ) (q : Receipt) → HasReceipt receipts v i q → IsPast (s + 1) 0 v i → IsPast s (length (slice_index_or receipts s [])) v i
        back v i q h (inl less) =
            elim (split v s less) [
              | inl l ↦ inl l
              | inr e ↦ inr (e, subst (λ (n : ℕ). i < length (slice_index_or receipts n [])) e (get_there (slice_index_or receipts v []) i q h))
            ]
        back v i q h (inr x) = (let none = x.1 in absurd (omega (arith, none)))

        on : (v i : ℕ) → IsPast s (length (slice_index_or receipts s [])) v i → IsPast (s + 1) 0 v i
        on v i (inl less) = inl (omega (arith, less))
        on v i (inr x) = (let same = x.0 in inl (omega (arith, same)))

    none_past : (v i : ℕ) → IsPast 0 0 v i → ⊥
    none_past v i h = grind (arith, common_steps)

    no_row : (slots : List (List SlotEntry)) (k place : ℕ) → ◌≡◌ {A = ℕ} (slice_index_or (slice_index_or (map blank slots) k []) place 0) 0
    no_row [] k place = refl
    no_row (x ∷ xs) zero place = zeros_at (length x) place
    no_row (x ∷ xs) (suc k) place = no_row xs k place

    none_told : (part : Part) (place : ℕ) → teller (no_tellers (length t.tasks) t.slots (length t.pool)) part place ≡ 0
    none_told part place = grind (arith, common_steps, zeros_at, no_row)

    pub listed_none : AreListed t receipts 0 0 (no_tellers (length t.tasks) t.slots (length t.pool))
    listed_none = grind (arith, common_steps, right, none_past, noted, section, source, none_told, once, apart)

    -- ---- a receipt that can't be added

    pub refused_differ : (s j : ℕ) (r : Receipt) (w : TellerRows) → HasReceipt receipts s j r → AreListed t receipts s j w → IsRefused t r w → Differ t receipts
    refused_differ s j r w has l (inl wrong) = inr (inr (inr (inl record { session = s; i = j; receipt = r; has = has; other = wrong })))
    refused_differ s j r w has l (inr (inl taken)) =
        let x = l.source r.part r.place taken.2 in
        elim x.is [
          | inl same ↦
              inr (inr (inr (inr (inl record {
                session = x.session;
                i = x.i;
                receipt = x.receipt;
                session' = s;
                i' = j;
                receipt' = r;
                has = x.has;
                has' = has;
                apart = λ e. earlier x.session x.i x.past e;
                part = same.0;
                place = same.1;
              }))))
          | inr y ↦
              let stands = l.section x.session x.i x.receipt y.0 y.1 x.past x.has y.2 y.3 in
              absurd (no_event y.1.place y.1.section y.1.answer taken.0 stands.0 (sym (entry_same t r.part AtPool r.place y.1.place y.4 (sym y.5)) ∙ taken.1.there))
        ]
      where
        earlier : (u i : ℕ) → IsPast s j u i → (u ≡ s) × (i ≡ j) → ⊥
        earlier u i (inl less) e = not_less u s less e.0
        earlier u i (inr z) e = not_less i j z.1 e.1
    refused_differ s j r w has l (inr (inr x)) =
        let asks = asks_of r.part r.place x.0 x.1 x.2.there x.3 in
        by_section asks.0 asks.1 asks.2 x.5
      where
        a : Asked
        a = x.1

        by_section : (k : ℕ) → r.part ≡ AtSlot k → Asks t k r.place a → IsNotFree t.pool w.pool a → Differ t receipts
        by_section k part asks (inl other) = inl record { slot = k; place = r.place; asked = a; asks = asks; other = other }
        by_section k part asks (inr taken) =
            let y = l.source AtPool a.place taken.1 in
            elim y.is [
              | inl same ↦
                  let z = l.right y.session y.i y.receipt y.past y.has in
                  absurd (no_event a.place a.section a.answer z.0 taken.0 (sym (entry_same t y.receipt.part AtPool y.receipt.place a.place same.0 same.1) ∙ z.1.there))
              | inr z ↦
                  inr (inl record {
                    slot = z.0;
                    place = y.receipt.place;
                    asked = z.1;
                    slot' = k;
                    place' = r.place;
                    asked' = a;
                    asks = z.3;
                    asks' = asks;
                    apart = λ e.
                        nonzero y.session (
                        sym (l.noted y.session y.i y.receipt y.past y.has)
                        ∙ teller_at w y.receipt.part r.part y.receipt.place r.place (z.2 ∙ ap AtSlot e.0 ∙ sym part) e.1 ∙ x.4);
                    same = z.5;
                  })
            ]

    -- ---- all receipts

    module _ (w : TellerRows) (fit : Fit t w) (l : AreListed t receipts (length receipts) 0 w) where
      past : (s i : ℕ) (r : Receipt) → HasReceipt receipts s i r → IsPast (length receipts) 0 s i
      past s i r has = inl (row_there receipts s i (get_there (slice_index_or receipts s []) i r has))

      -- an event's place has its row
      row_has : (part : Part) (place : ℕ) → entry_at t part place ≢ None → place < length (row w part)
      row_has Tasks place some = grind (arith, common_steps, get_there)
      row_has (AtSlot k) place some = grind (arith, common_steps, get_there)
      row_has AtPool place some = grind (arith, common_steps, get_there)

      told : NoGap w → (part : Part) (place : ℕ) → entry_at t part place ≢ None → (s : ℕ) × (j : ℕ) × (r : Receipt) × HasReceipt receipts s j r × (r.part ≡ part) × (r.place ≡ place)
      told full part place some =
          let x = l.source part place (full part place (row_has part place some)) in
          elim x.is [
            | inl same ↦ (x.session, x.i, x.receipt, x.has, same.0, same.1)
            | inr y ↦
                let stands = l.section x.session x.i x.receipt y.0 y.1 x.past x.has y.2 y.3 in
                absurd (some (entry_same t part AtPool place y.1.place y.4 (sym y.5) ∙ ap (option_and_then of_pool) stands.0))
          ]

      claimed : NoGap w → (place : ℕ) (section : Section) (answer : PoolAnswer) → slice_get t.pool place ≡ Some (OfSlot section answer)
          → (k : ℕ) × (i : ℕ) × (a : Asked) × Asks t k i a × (a.place ≡ place)
      claimed full place section answer stands =
          let here = get_there t.pool place (OfSlot section answer) stands in
          let long = fit.pool in
          let x = l.source AtPool place (full AtPool place (omega (arith, here, long))) in
          elim x.is [
            | inl same ↦
                let z = l.right x.session x.i x.receipt x.past x.has in
                absurd (no_event place section answer z.0 stands (sym (entry_same t x.receipt.part AtPool x.receipt.place place same.0 same.1) ∙ z.1.there))
            | inr y ↦ (y.0, x.receipt.place, y.1, y.3, y.5)
          ]

      pub all_told : NoGap w → AreTold t receipts w
      all_told full = record {
        right = λ s i r has. l.right s i r (past s i r has) has;
        noted = λ s i r has. l.noted s i r (past s i r has) has;
        section = λ s i r k a has. l.section s i r k a (past s i r has) has;
        once = λ s i u j r q has has'. l.once s i u j r q (past s i r has) (past u j q has') has has';
        apart = λ s i u j r q k m a b has has'. l.apart s i u j r q k m a b (past s i r has) (past u j q has') has has';
        told = told full;
        claimed = claimed full;
      }

      -- no receipt tells of a place that is not noted
      untold : (part : Part) (place : ℕ) (e : Entry) → entry_at t part place ≡ Some e → teller w part place ≡ 0 → Differ t receipts
      untold part place e there none = grind (arith, common_steps)

      slot_not_pool : (k : ℕ) → AtSlot k ≡ AtPool → ⊥
      slot_not_pool k e = cc

      lost : (place : ℕ) (section : Section) (answer : PoolAnswer) → slice_get t.pool place ≡ Some (OfSlot section answer) → teller w AtPool place ≡ 0
          → ((k i : ℕ) → i < length (slice_index_or w.slots k []) → teller w (AtSlot k) i ≢ 0) → Differ t receipts
      lost place section answer there none full =
          inr (inr (inl record {
            place = place;
            section = section;
            answer = answer;
            there = there;
            lost = λ k i asked asks same.
                let here = get_there (slot_trail t k) i asks.entry asks.there in
                let long = fit.slots k in
                let x = l.source (AtSlot k) i (full k i (omega (arith, here, long))) in
                elim x.is [
                  | inl at ↦
                      let y = l.section x.session x.i x.receipt k asked x.past x.has at.0 (subst (λ (n : ℕ). Asks t k n asked) (sym at.1) asks) in
                      absurd (nonzero x.session (sym y.1 ∙ ap (teller w AtPool) same ∙ none))
                  | inr y ↦ absurd (slot_not_pool k y.4)
                ];
          }))

      pub gap_differs : Gap w → Differ t receipts
      gap_differs g = by_part g.part refl g.within g.none
        where
          by_part : (part : Part) → g.part ≡ part → g.place < length (row w part) → teller w part g.place ≡ 0 → Differ t receipts
          by_part Tasks is within none =
              let long = fit.tasks in
              let x = there_get t.tasks g.place (omega (arith, within, long)) in
              untold Tasks g.place (InTasks x.0) (ap (option_map InTasks) x.1) none
          by_part (AtSlot k) is within none =
              let long = fit.slots k in
              let x = there_get (slot_trail t k) g.place (omega (arith, within, long)) in
              untold (AtSlot k) g.place (InSlot k x.0) (ap (option_map (InSlot k)) x.1) none
          by_part AtPool is within none =
              let long = fit.pool in
              let x = there_get t.pool g.place (omega (arith, within, long)) in
              by_entry x.0 x.1
            where
              by_entry : (e : PoolEntry) → slice_get t.pool g.place ≡ Some e → Differ t receipts
              by_entry (OfSlot section answer) there = lost g.place section answer there none (g.slots is)
              by_entry (OfPool v a) there = untold AtPool g.place (InPool v a) (ap (option_and_then of_pool) there) none

  -- ---- rows of the trails' lengths

  pub fit_none : Fit t (no_tellers (length t.tasks) t.slots (length t.pool))
  fit_none = grind (arith, common_steps)
