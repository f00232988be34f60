-- Each session is to be tried, or waits.
use Rattle.std.proofs.lemmas.Grind.{common_steps}
use Rattle.std.proofs.Common.{◌≡◌, ◌≢◌, ◌⊎◌, inl, inr, ℕ, zero, suc, ◌+◌, ◌<◌, Bool, cond, Option, None, Some, List, [], ◌∷◌, ◌++◌, length, refl, sym, ap, ◌∙◌, subst, arith, Contains, slice_get}
use Rattle.std.proofs.lemmas.Bool.{eq-eqb}
use Rattle.std.proofs.lemmas.Bool.Decides.{eqb_tells}
use Rattle.std.proofs.lemmas.List.Elements.{Contains-push_cases}
use Rattle.hp_laws.proofs.Variants.{AtPool, Part, Receipt}
use Rattle.hp_model.proofs.Words.{Entry, HasReceipt, Item, Trails, entry_at, part_of, receipt_of}
use Rattle.hp_trail.specs.Tellers.{AreTold, TellerRows, teller}
use Rattle.hp_trail.specs.Walk.{AreCovered, Cursors, GoesOn, IsBlocked, Passes, Took, Waits, cursor, cursor_at, receipts_left, session}
use Rattle.hp_trail.proofs.Indexing.{get_there, row_there, some_is}

module _ (t : Trails) (receipts : List (List Receipt)) (c d : Cursors) where
  -- what passing an item moves: its part's cursor and the pool's
  moved : (i : Item) → Passes t receipts c i d → (p : Part) (place : ℕ) (e : Entry) → entry_at t p place ≡ Some e
      → (cursor d p ≡ cursor c p) ⊎ ((p ≡ part_of i.entry) ⊎ (p ≡ AtPool))
  moved i h p place e there = grind (arith, common_steps)

  -- the cursor of another session stays
  apart_stays : (i : Item) (s u : ℕ) → Passes t receipts c i d → i.by ≡ s → u < length receipts → u ≢ s → cursor_at d.sessions u ≡ cursor_at c.sessions u
  apart_stays i s u h by l ne = grind (arith, common_steps)

  own_moves : (i : Item) (s : ℕ) → Passes t receipts c i d → i.by ≡ s → (cursor_at d.sessions s ≡ cursor_at c.sessions s + 1) × (cursor_at c.sessions s < length (session receipts s))
  own_moves i s h by =
      let g = subst (λ (b : Bool). GoesOn (session receipts i.by) (cursor_at c.sessions i.by) (cond b (Some (receipt_of i)) None) (cursor_at d.sessions i.by))
      (eq-eqb i.by i.by refl) (h.told i.by h.by) in
      subst (λ (n : ℕ). (cursor_at d.sessions n ≡ cursor_at c.sessions n + 1) × (cursor_at c.sessions n < length (session receipts n))) by
      (g.1, get_there (session receipts i.by) (cursor_at c.sessions i.by) (receipt_of i) g.0)

  module _ (rows : TellerRows) (h : AreTold t receipts rows) (s : ℕ) (part : Part) (took : Took t receipts s part c d) (work : List ℕ)
      (woken : (p : Part) → (p ≡ part) ⊎ (p ≡ AtPool) → (u : ℕ) → teller rows p (cursor d p) ≡ u + 1 → Contains work u) where
    -- another session that waited is woken, or waits still
    still : (u : ℕ) → u < length receipts → cursor_at d.sessions u ≡ cursor_at c.sessions u → Waits t receipts c u → Contains work u ⊎ Waits t receipts d u
    still u l same waits = by_next (slice_get (session receipts u) (cursor_at c.sessions u)) refl
      where
        waits_by : (r : Receipt) → HasReceipt receipts u (cursor_at c.sessions u) r → IsBlocked t d r → Waits t receipts d u
        waits_by r has blocked q has' =
            let there : HasReceipt receipts u (cursor_at c.sessions u) q = subst (λ (n : ℕ). HasReceipt receipts u n q) same has' in
            subst (λ (x : Receipt). IsBlocked t d x) (some_is r q (sym has ∙ there)) blocked

        by_next : (o : Option Receipt) → slice_get (session receipts u) (cursor_at c.sessions u) ≡ o → Contains work u ⊎ Waits t receipts d u
        by_next None none = inr (λ r has. (let there : HasReceipt receipts u (cursor_at c.sessions u) r = subst (λ (n : ℕ). HasReceipt receipts u n r) same has in cc))
        by_next (Some r) has =
            elim (waits r has) [
              | inl ne ↦
                  elim (eqb_tells r.place (cursor d r.part)) [
                    | inl w ↦
                        let e = h.right u (cursor_at c.sessions u) r has in
                        elim (moved took.0 took.1 r.part r.place e.0 e.1.there) [
                          | inl stays ↦ absurd (ne (w.1 ∙ stays))
                          | inr x ↦ inl (woken r.part (by_part x) u (ap (teller rows r.part) (sym w.1) ∙ h.noted u (cursor_at c.sessions u) r has))
                        ]
                    | inr w ↦ inr (waits_by r has (inl w.1))
                  ]
              | inr x ↦
                  elim (eqb_tells x.1.place d.pool) [
                    | inl w ↦ inl (woken AtPool (inr refl) u (ap (teller rows AtPool) (sym w.1) ∙ (h.section u (cursor_at c.sessions u) r x.0 x.1 has x.2 x.3).1))
                    | inr w ↦ inr (waits_by r has (inr (x.0, x.1, x.2, x.3, w.1)))
                  ]
            ]
          where
            by_part : (r.part ≡ part_of took.0.entry) ⊎ (r.part ≡ AtPool) → (r.part ≡ part) ⊎ (r.part ≡ AtPool)
            by_part (inl e) = inl (e ∙ took.3)
            by_part (inr e) = inr e

    pub covered_on : (rest : List ℕ) → AreCovered t receipts c (rest ++ s ∷ []) → ((u : ℕ) → Contains rest u → Contains work u) → Contains work s → AreCovered t receipts d work
    covered_on rest covered kept own u l =
        elim (eqb_tells u s) [
          | inl w ↦ inl (subst (λ (n : ℕ). Contains work n) (sym w.1) own)
          | inr w ↦
              elim (covered u l) [
                | inl among ↦
                    elim (Contains-push_cases rest s u among) [ inl before ↦ inl (kept u before) | inr e ↦ absurd (w.1 (sym e)) ]
                | inr waits ↦ still u l (apart_stays took.0 s u took.1 took.2 l w.1) waits
              ]
        ]

-- a session that waits is tried no more
pub covered_without : (t : Trails) (receipts : List (List Receipt)) (c : Cursors) (rest : List ℕ) (s : ℕ) → AreCovered t receipts c (rest ++ s ∷ []) →
    Waits t receipts c s → AreCovered t receipts c rest
covered_without t receipts c rest s covered waits u l =
    elim (covered u l) [
      | inl among ↦
          elim (Contains-push_cases rest s u among) [ inl before ↦ inl before | inr e ↦ inr (subst (λ (n : ℕ). Waits t receipts c n) e waits) ]
      | inr w ↦ inr w
    ]

-- where none is to be tried, all wait
pub all_wait : (t : Trails) (receipts : List (List Receipt)) (c : Cursors) (work : List ℕ) → length work ≡ 0 → AreCovered t receipts c work → (s : ℕ) → s < length receipts → Waits t receipts c s
all_wait t receipts c work none covered s l =
    elim (covered s l) [ inl among ↦ (let below = among.1 in absurd (omega (arith, below, none))) | inr waits ↦ waits ]

-- ---- how many receipts are left

fewer : (rss : List (List Receipt)) (f g : ℕ → ℕ) (s : ℕ) → s < length rss → f s < length (session rss s) → g s ≡ f s + 1 → ((u : ℕ) → u < length rss → u ≢ s → g u ≡ f u)
    → receipts_left rss g + 1 ≡ receipts_left rss f
fewer [] f g s l some own others = absurd (omega (arith, l))
fewer (rs ∷ rss) f g zero l some own others =
    let rest = same rss (λ n. f (suc n)) (λ n. g (suc n)) (λ u l. others (suc u) (omega (arith, l)) (λ e. absurd (omega (arith, e)))) in
    omega (arith, some, own, rest)
  where
    same : (rss : List (List Receipt)) (f g : ℕ → ℕ) → ((u : ℕ) → u < length rss → g u ≡ f u) → receipts_left rss g ≡ receipts_left rss f
    same [] f g h = refl
    same (rs ∷ rss) f g h =
        let first = h 0 (omega arith) in
        let rest = same rss (λ n. f (suc n)) (λ n. g (suc n)) (λ u l. h (suc u) (omega (arith, l))) in omega (arith, first, rest)
fewer (rs ∷ rss) f g (suc s) l some own others =
    let first = others 0 (omega arith) (λ e. absurd (omega (arith, e))) in
    let rest = fewer rss (λ n. f (suc n)) (λ n. g (suc n)) s (omega (arith, l)) some own (λ u l ne. others (suc u) (omega (arith, l)) (λ e. ne (omega (arith, e)))) in
    omega (arith, first, rest)

pub one_fewer : (t : Trails) (receipts : List (List Receipt)) (c d : Cursors) (s : ℕ) (part : Part) → Took t receipts s part c d →
    receipts_left receipts (cursor_at d.sessions) + 1 ≡ receipts_left receipts (cursor_at c.sessions)
one_fewer t receipts c d s part took =
    let own = own_moves t receipts c d took.0 s took.1 took.2 in
    let below = row_there receipts s (cursor_at c.sessions s) own.1 in
    fewer receipts (cursor_at c.sessions) (cursor_at d.sessions) s below own.1 own.0 (λ u l ne. apart_stays t receipts c d took.0 s u took.1 took.2 l ne)
