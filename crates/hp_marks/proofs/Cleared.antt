-- Marks of a range cleared a word at a time.
use Rattle.std.proofs.Common.{◌≡◌, ℕ, ◌+◌, ◌*◌, ◌/◌, ◌%◌, ◌^◌, ◌<◌, ◌≤◌, false, not, ◌&&◌, eqb, List, length, get_or, set, sym, ap, ◌∙◌, arith, ⊎_elim, bit_and}
use Rattle.std.specs.Int.{bit_at, bit_not, w64}
use Rattle.std.proofs.Math.Bool.{and-true}
use Rattle.std.proofs.lemmas.Bool.{cases_lt, cases_eq}
use Rattle.hp_model.proofs.Ranges.{within-below, within-past}
use Rattle.hp_model.proofs.Words.{within}
use Rattle.hp_marks.specs.Marks.{marked}
use Rattle.hp_marks.proofs.Range.{marked_elsewhere, cleared_here}

-- what is outside a range stays
pub kept : (old : List ℕ) (a b k : ℕ) → within a b k ≡ false → (marked old k && not (within a b k)) ≡ marked old k
kept old a b k out = ap (λ t. marked old k && not t) out ∙ and-true (marked old k)

module _ (words old : List ℕ) (a b : ℕ) where
  pub clear_begun : (k : ℕ) → k < 64 * (a / 64) → marked old k ≡ (marked old k && not (within a b k))
  clear_begun k below = sym (kept old a b k (within-below a b k (omega (arith, below))))

  pub clear_done : (at bits : ℕ) → at < length words → bits < 2 ^ 64 → ((i : ℕ) → i < 64 → eqb (bit_at bits i) 1 ≡ within a b (64 * at + i)) →
      ((k : ℕ) → k < 64 * at → marked words k ≡ (marked old k && not (within a b k))) → ((k : ℕ) → 64 * at ≤ k → marked words k ≡ marked old k) →
      (k : ℕ) → k < 64 * (at + 1) → marked (set words at (bit_and (get_or words at 0) (bit_not w64 bits))) k ≡ (marked old k && not (within a b k))
  clear_done at bits lt small of_range done rest k below = ⊎_elim
      (λ (here : k / 64 ≡ at).
      cleared_here words at bits lt small k here ∙ ap (λ t. t && not (eqb (bit_at bits (k % 64)) 1)) (rest k (omega (arith, here)))
      ∙ ap (λ t. marked old k && not t) (of_range (k % 64) (omega arith) ∙ ap (within a b) {x = 64 * at + k % 64} {y = k} (omega (arith, here))))
      (λ (other : k / 64 ≡ at → ⊥). marked_elsewhere words at _ lt k other ∙ done k (omega (arith, below, other)))
      (cases_eq (k / 64) at)

  pub clear_all : (at : ℕ) → b ≤ 64 * at → ((k : ℕ) → k < 64 * at → marked words k ≡ (marked old k && not (within a b k))) →
      ((k : ℕ) → 64 * at ≤ k → marked words k ≡ marked old k) → (k : ℕ) → marked words k ≡ (marked old k && not (within a b k))
  clear_all at end done rest k = ⊎_elim
      (λ (below : k < 64 * at). done k below)
      (λ (past : 64 * at ≤ k). rest k past ∙ sym (kept old a b k (within-past a b k (omega (arith, past, end)))))
      (cases_lt k (64 * at))
