-- What a receipt's claims mean for all rows.
use Rattle.std.proofs.Common.{arith, ◌≡◌, ◌≢◌, ◌⊎◌, inl, inr, ℕ, ◌+◌, ◌<◌, Option, None, Some, List, [], length, refl, sym, ap, ◌∙◌, subst, slice_index_or, option_and_then, option_map}
use Rattle.std.proofs.lemmas.Grind.{common_steps}
use Rattle.std.proofs.lemmas.Bool.Decides.{eqb_tells}
use Rattle.std.proofs.lemmas.List.{get_or-set_same, get_or-set_other, length-set}
use Rattle.hp_laws.proofs.Variants.{Asked, AtPool, AtSlot, Part, PoolEntry, Receipt}
use Rattle.hp_model.specs.declared.entry.Part.TheVariants.{Tasks}
use Rattle.hp_model.proofs.Words.{Entry, InSlot, InTasks, Trails, entry_at, event_of, of_pool, slot_trail}
use Rattle.hp_trail.specs.Tellers.{Added, AddsEntry, AddsSlot, ClaimsSection, Fit, Stands, TellerRows, asked_section, entry_of_tasks, teller}
use Rattle.hp_trail.proofs.Indexing.{claim_long, claim_other, claim_same, row_there, some_is}

module _ (t : Trails) (w : TellerRows) (r : Receipt) (s : ℕ) (fit : Fit t w) where
  abbrev Others : Entry → TellerRows → Part → ℕ → Type 0
  Others e w' part place =
      (teller w' part place ≡ teller w part place)
      ⊎ (((part ≡ r.part) × (place ≡ r.place)) ⊎ ((a : Asked) × (asked_section e ≡ Some a) × (part ≡ AtPool) × (place ≡ a.place)))

  one_row : (e : Entry) (w' : TellerRows) (part : Part) (place : ℕ) → r.part ≡ part
      → (teller w' part place ≡ teller w part place) ⊎ (place ≡ r.place) → Others e w' part place
  one_row e w' part place is h = grind (arith, common_steps)

  pub added_task : (row' : List ℕ) → r.part ≡ Tasks → AddsEntry entry_of_tasks t.tasks w.tasks r s row' → Added t r s w (record w { tasks = row' })
  added_task row' is a = record {
    entry = InTasks a.0;
    tells = record {
      there = ap (λ p. entry_at t p r.place) is ∙ ap (option_map InTasks) a.1.there;
      same = some_is (event_of (InTasks a.0)) (r.event, r.reply) a.1.same;
    };
    free = ap (λ p. teller w p r.place) is ∙ a.2.free;
    own = ap (λ p. teller (record w { tasks = row' }) p r.place) is ∙ claim_same w.tasks row' r.place s a.2;
    section = λ x e. cc;
    others = others;
    fit = record { tasks = claim_long w.tasks row' r.place s a.2 ∙ fit.tasks; count = fit.count; slots = fit.slots; pool = fit.pool };
  }
    where
      others : (part : Part) (place : ℕ) → Others (InTasks a.0) (record w { tasks = row' }) part place
      others Tasks place = one_row (InTasks a.0) (record w { tasks = row' }) Tasks place is (claim_other w.tasks row' r.place s place a.2)
      others (AtSlot k) place = inl refl
      others AtPool place = inl refl

  event_of_pool : (x : PoolEntry) → option_map event_of (of_pool x) ≡ Some (r.event, r.reply)
      → (e : Entry) × (of_pool x ≡ Some e) × (event_of e ≡ (r.event, r.reply)) × (asked_section e ≡ None)
  event_of_pool x e = grind (arith, common_steps)

  pub added_pool : (row' : List ℕ) → r.part ≡ AtPool → AddsEntry of_pool t.pool w.pool r s row' → Added t r s w (record w { pool = row' })
  added_pool row' is a = (
      let x = event_of_pool a.0 a.1.same in
      record {
        entry = x.0;
        tells = record {
          there = ap (λ p. entry_at t p r.place) is ∙ ap (option_and_then of_pool) a.1.there ∙ x.1;
          same = x.2;
        };
        free = ap (λ p. teller w p r.place) is ∙ a.2.free;
        own = ap (λ p. teller (record w { pool = row' }) p r.place) is ∙ claim_same w.pool row' r.place s a.2;
        section = λ y e. (let none = x.3 in cc);
        others = others x.0;
        fit = record { tasks = fit.tasks; count = fit.count; slots = fit.slots; pool = claim_long w.pool row' r.place s a.2 ∙ fit.pool };
      })
    where
      others : (e : Entry) (part : Part) (place : ℕ) → Others e (record w { pool = row' }) part place
      others e Tasks place = inl refl
      others e (AtSlot k) place = inl refl
      others e AtPool place = one_row e (record w { pool = row' }) AtPool place is (claim_other w.pool row' r.place s place a.2)

  pub added_slot : (k : ℕ) (rows' : List (List ℕ)) (row' : List ℕ) → r.part ≡ AtSlot k → AddsSlot t.slots t.pool w.slots w.pool k r s rows' row'
      → Added t r s w (record w { slots = rows'; pool = row' })
  added_slot k rows' row' is a = record {
    entry = InSlot k a.entry;
    tells = record {
      there = ap (λ p. entry_at t p r.place) is ∙ ap (option_map (InSlot k)) a.finds.there;
      same = some_is (event_of (InSlot k a.entry)) (r.event, r.reply) a.finds.same;
    };
    free = ap (λ p. teller w p r.place) is ∙ a.claims.free;
    own = ap (λ p. teller new p r.place) is ∙ ap (λ xs. slice_index_or xs r.place 0) here ∙ claim_same (slice_index_or w.slots k []) a.claimed r.place s a.claims;
    section = λ x e. section x (subst (λ o. ClaimsSection t.pool w.pool o s row') e a.section);
    others = others;
    fit = record {
      tasks = fit.tasks;
      count = ap length a.moves ∙ length-set w.slots k a.claimed ∙ fit.count;
      slots = long;
      pool = pool_long a.entry.asked a.section ∙ fit.pool;
    };
  }
    where
      new : TellerRows
      new = record w { slots = rows'; pool = row' }

      there : k < length w.slots
      there = row_there w.slots k r.place a.claims.within

      here : slice_index_or rows' k [] ≡ a.claimed
      here = ap (λ xs. slice_index_or xs k []) a.moves ∙ get_or-set_same w.slots k a.claimed [] there

      apart : (n : ℕ) → n ≢ k → slice_index_or rows' n [] ≡ slice_index_or w.slots n []
      apart n ne = ap (λ xs. slice_index_or xs n []) a.moves ∙ get_or-set_other w.slots k n a.claimed [] ne

      section : (x : Asked) → ClaimsSection t.pool w.pool (Some x) s row' → Stands t.pool x × (teller w AtPool x.place ≡ 0) × (teller new AtPool x.place ≡ s + 1)
      section x c = (c.0, c.1.free, claim_same w.pool row' x.place s c.1)

      pool_long : (o : Option Asked) → ClaimsSection t.pool w.pool o s row' → length row' ≡ length w.pool
      pool_long None c = ap length c
      pool_long (Some x) c = claim_long w.pool row' x.place s c.1

      long : (n : ℕ) → length (slice_index_or rows' n []) ≡ length (slot_trail t n)
      long n =
          elim (eqb_tells n k) [
            | inl e ↦
                ap (λ m. length (slice_index_or rows' m [])) e.1 ∙ ap length here ∙ claim_long (slice_index_or w.slots k []) a.claimed r.place s a.claims ∙ fit.slots k
                ∙ ap (λ m. length (slot_trail t m)) (sym e.1)
            | inr e ↦ ap length (apart n e.1) ∙ fit.slots n
          ]

      in_pool : (o : Option Asked) → a.entry.asked ≡ o → ClaimsSection t.pool w.pool o s row' → (place : ℕ) → Others (InSlot k a.entry) new AtPool place
      in_pool None e c place = inl (ap (λ xs. slice_index_or xs place 0) c)
      in_pool (Some x) e c place =
          elim (claim_other w.pool row' x.place s place c.1) [ inl same ↦ inl same | inr own ↦ inr (inr (x, e, refl, own)) ]

      others : (part : Part) (place : ℕ) → Others (InSlot k a.entry) new part place
      others Tasks place = inl refl
      others (AtSlot n) place =
          elim (eqb_tells n k) [
            | inl e ↦
                elim (claim_other (slice_index_or w.slots k []) a.claimed r.place s place a.claims) [
                  | inl same ↦
                      inl (
                      ap (λ m. slice_index_or (slice_index_or rows' m []) place 0) e.1 ∙ ap (λ xs. slice_index_or xs place 0) here ∙ same
                      ∙ ap (λ m. slice_index_or (slice_index_or w.slots m []) place 0) (sym e.1))
                  | inr own ↦ inr (inl (ap AtSlot e.1 ∙ sym is, own))
                ]
            | inr e ↦ inl (ap (λ xs. slice_index_or xs place 0) (apart n e.1))
          ]
      others AtPool place = in_pool a.entry.asked refl a.section place
