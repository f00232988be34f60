use Rattle.std.proofs.Common.{◌≡◌, ◌≢◌, ◌<◌, inl, inr, Bool, eqb, ℕ, [], List, length, sym, ap, ◌∙◌, subst, arith, slice_index_or}
use Rattle.std.specs.List.{IsAnyAnswer}
use Rattle.std.proofs.lemmas.Bool.Decides.{eqb_tells}
use Rattle.hp_laws.proofs.Variants.{AtPool, AtSlot}
use Rattle.hp_trail.specs.Tellers.{Gap, TellerRows}
use Rattle.hp_trail.specs.Walk.{lists}
use Rattle.hp_trail.proofs.Indexing.{empty_at, filled, lists_long, lists_read, row_there}
use Rattle.hp_trail.proofs.tellers.Tellers.has_gap.Goals as goal

slot_not_pool : (k : ℕ) → AtSlot k ≡ AtPool → ⊥
slot_not_pool k e = cc

pub returns-then-contains-2-clause-gap : goal.returns-then-contains-2-clause-gap
returns-then-contains-2-clause-gap c e =
    let k : ℕ = c.loop-row.row-index in
    let rows = c.deref-row-items.result.now in
    let here : slice_index_or (lists c.self.inside.slots.items) k [] ≡ c.deref-in-loop-row.result.now =
    ap (λ xs. slice_index_or (lists xs) k []) (sym c.deref-row-items.ensures.value) ∙ lists_read rows k c.row-item.result c.loop-row-test.true c.row-item.is ∙ sym c.deref-in-loop-row.ensures.value in
    let x = c.if-contains-2.ensures.cases in
    subst (λ (w : TellerRows). Gap w) c.self.view_is
    record {
      part = AtSlot k;
      place = x.0;
      within = subst (λ (row : List ℕ). x.0 < length row) (sym here) x.1;
      none = ap (λ (row : List ℕ). slice_index_or row x.0 0) here ∙ empty_at c.deref-in-loop-row.result.now x.0 x.2;
      slots = λ is. absurd (slot_not_pool k is);
    }

pub loop-row-preserved : goal.loop-row-preserved
loop-row-preserved c k i l within =
    let at : ℕ = c.loop-row.row-index in
    let rows = c.deref-row-items.result.now in
    elim (eqb_tells k at) [
      | inl w ↦
          let own : slice_index_or (lists c.self.inside.slots.items) k [] ≡ c.deref-in-loop-row.result.now =
          ap (λ (n : ℕ). slice_index_or (lists c.self.inside.slots.items) n []) w.1 ∙ ap (λ xs. slice_index_or (lists xs) at []) (sym c.deref-row-items.ensures.value)
          ∙ lists_read rows at c.row-item.result c.loop-row-test.true c.row-item.is ∙ sym c.deref-in-loop-row.ensures.value in
          subst (λ (row : List ℕ). slice_index_or row i 0 ≢ 0) (sym own) (filled c.deref-in-loop-row.result.now c.if-contains-2.ensures.cases i (subst (λ (row : List ℕ). i < length row) own within))
      | inr w ↦ c.loop-row.invariant k i (omega (arith, l, w.1)) within
    ]

pub returns-clause-gap : goal.returns-clause-gap
returns-clause-gap c e =
    let row : List ℕ = c.deref-2.result.now in
    let x = subst (λ (b : Bool). IsAnyAnswer {X = ℕ} (λ y b. eqb y 0 ≡ b) row b) e c.contains-2.ensures.cases in
    subst (λ (w : TellerRows). Gap w) c.self.view_is
    record {
      part = AtPool;
      place = x.0;
      within = subst (λ (xs : List ℕ). x.0 < length xs) c.deref-2.ensures.value x.1;
      none = ap (λ (xs : List ℕ). slice_index_or xs x.0 0) (sym c.deref-2.ensures.value) ∙ empty_at row x.0 x.2;
      slots = λ _ k i within.
          let there = row_there (lists c.self.inside.slots.items) k i within in
          let long = lists_long c.self.inside.slots.items in
          let same = ap length c.deref-row-items.ensures.value in
          c.loop-row.invariant k i (omega (arith, there, long, same, c.loop-row-test.false)) within;
    }
