-- One turn of the loop that joins.
use Rattle.std.proofs.lemmas.Grind.{common_steps}
use Rattle.std.proofs.Common.{◌≡◌, ◌⊎◌, ℕ, ◌+◌, ◌*◌, ◌<◌, None, Some, List, [], ◌∷◌, ◌++◌, length, sym, ap, ◌∙◌, subst, arith, Contains}
use Rattle.std.proofs.lemmas.List.{length-append}
use Rattle.std.proofs.lemmas.List.Elements.{Contains-append_left, Contains-push}
use Rattle.hp_laws.proofs.Variants.{AtPool, Part, Receipt}
use Rattle.hp_model.proofs.Words.{Trails}
use Rattle.hp_trail.specs.Tellers.{AreTold, TellerRows, teller}
use Rattle.hp_trail.specs.Walk.{AreCovered, IsWoken, Passed, Took, Waits, Walking, WalkedBy, cursor_at, cursor, receipts_left}
use Rattle.hp_trail.proofs.Covering.{covered_on, covered_without, one_fewer}
use Rattle.hp_trail.proofs.Walking.{walked_on}

-- what the loop keeps
pub record IsJoining (t : Trails) (receipts : List (List Receipt)) (w : Walking) (order work : List ℕ) : Type 0 where
  pub trails : w.trails ≡ t
  pub receipts' : w.receipts ≡ receipts
  pub walked : WalkedBy t receipts w.cursors order
  pub covered : AreCovered t receipts w.cursors work

module _ (t : Trails) (receipts : List (List Receipt)) (rows : TellerRows) (told : AreTold t receipts rows) (w w' : Walking) (s : ℕ) (order work rest : List ℕ) (h : IsJoining t receipts w order work)
    (popped : work ≡ rest ++ s ∷ []) where
  covered : AreCovered t receipts w.cursors (rest ++ s ∷ [])
  covered = subst (λ xs. AreCovered t receipts w.cursors xs) popped h.covered

  waits_here : Waits w.trails w.receipts w.cursors s → Waits t receipts w.cursors s
  waits_here x = subst (λ (y : Trails). Waits y receipts w.cursors s) h.trails (subst (λ rs. Waits w.trails rs w.cursors s) h.receipts' x)

  pub turned_back : Passed w s None w' → IsJoining t receipts w' order rest
  turned_back p =
      subst (λ (x : Walking). IsJoining t receipts x order rest) (sym p.0)
      record { trails = h.trails; receipts' = h.receipts'; walked = h.walked; covered = covered_without t receipts w.cursors rest s covered (waits_here p.1) }

  module _ (part : Part) (p : Passed w s (Some part) w') (order' more work' : List ℕ) (pushed : order' ≡ order ++ s ∷ [])
      (one : IsWoken (teller rows part (cursor w'.cursors part)) (rest ++ s ∷ []) more) (two : IsWoken (teller rows AtPool (cursor w'.cursors AtPool)) more work') where
    took : Took t receipts s part w.cursors w'.cursors
    took = subst (λ (y : Trails). Took y receipts s part w.cursors w'.cursors) h.trails (subst (λ rs. Took w.trails rs s part w.cursors w'.cursors) h.receipts' p.2)

    woken : (q : Part) → (q ≡ part) ⊎ (q ≡ AtPool) → (u : ℕ) → teller rows q (cursor w'.cursors q) ≡ u + 1 → Contains work' u
    woken q h1 u e = grind (arith, common_steps)

    pub turned : IsJoining t receipts w' order' work'
    turned = record {
      trails = p.0 ∙ h.trails;
      receipts' = p.1 ∙ h.receipts';
      walked = subst (λ xs. WalkedBy t receipts w'.cursors xs) (sym pushed) (walked_on t receipts w.cursors w'.cursors order s part h.walked took);
      covered =
          covered_on t receipts w.cursors w'.cursors rows told s part took work' woken rest covered (λ u among. two.kept u (one.kept u (Contains-append_left rest (s ∷ []) u among)))
          (two.kept s (one.kept s (Contains-push rest s)));
    }

    pub smaller : length work' + 3 * receipts_left receipts (cursor_at w'.cursors.sessions) < length work + 3 * receipts_left receipts (cursor_at w.cursors.sessions)
    smaller =
        let fewer = one_fewer t receipts w.cursors w'.cursors s part took in
        let long = length-append rest (s ∷ []) in
        let same = ap length popped in
        omega (arith, fewer, long, same, one.long, two.long)
