-- Marks of a range, set a word at a time.
use Rattle.std.proofs.Common.{◌≡◌, ℕ, ◌+◌, ◌-◌, ◌*◌, ◌/◌, ◌%◌, ◌^◌, ◌<◌, ◌≤◌, min, Bool, true, false, not, ◌&&◌, ◌||◌, eqb, List, length, get_or, set, sym, refl, ap, ◌∙◌, arith, ⊎_elim, Option, None}
use Rattle.std.proofs.Common.{Some, bit_and, bit_or, count_ones, count_by}
use Rattle.std.specs.Int.{bit_at, bit_not, w64}
use Rattle.std.specs.List.{range_with_len}
use Rattle.std.proofs.Math.Bool.{or-false, or-true, and-true, and-false}
use Rattle.std.proofs.lemmas.Bool.{cases_lt, cases_eq, and_parts, or_cases, or_parts, or_from, true≢false, false_from_ne_true}
use Rattle.std.proofs.lemmas.List.{get_or-set_same, get_or-set_other, length-set}
use Rattle.std.proofs.lemmas.List.FromFn.{length-range_with_len}
use Rattle.std.proofs.lemmas.List.Sums.{count_by-le-length}
use Rattle.std.proofs.lemmas.Nat.{and_le_r}
use Rattle.std.proofs.lemmas.Nat.Bits.{bit_at-zero, bit_at_ones}
use Rattle.hp_model.proofs.Counting.{count_split, count_outside, count_within, count_not, alike_in}
use Rattle.hp_model.proofs.Ranges.{within-in, within-true, within-below, within-past}
use Rattle.hp_model.proofs.Words.{within}
use Rattle.hp_marks.specs.Marks.{marked}
use Rattle.hp_marks.proofs.Bits.{has_and, has_or, has_not}

-- ---- one word for another

module _ (words : List ℕ) (at word : ℕ) (lt : at < length words) where
  pub marked_in_word : (k : ℕ) → k / 64 ≡ at → marked (set words at word) k ≡ eqb (bit_at word (k % 64)) 1
  marked_in_word k here = ap (λ w. eqb (bit_at w (k % 64)) 1) (ap (λ q. get_or (set words at word) q 0) here ∙ get_or-set_same words at word 0 lt)

  pub marked_elsewhere : (k : ℕ) → (k / 64 ≡ at → ⊥) → marked (set words at word) k ≡ marked words k
  marked_elsewhere k other = ap (λ w. eqb (bit_at w (k % 64)) 1) (get_or-set_other words at (k / 64) word 0 other)

-- ---- a range, a word at a time

module _ (words old : List ℕ) (a b at bits : ℕ) (lt : at < length words) (small : bits < 2 ^ 64) (of_range : (i : ℕ) → i < 64 → eqb (bit_at bits i) 1 ≡ within a b (64 * at + i)) where
  place : (k : ℕ) → k / 64 ≡ at → eqb (bit_at bits (k % 64)) 1 ≡ within a b k
  place k here = of_range (k % 64) (omega arith) ∙ ap (within a b) {x = 64 * at + k % 64} {y = k} (omega (arith, here))

  was_here : (k : ℕ) → k / 64 ≡ at → eqb (bit_at (get_or words at 0) (k % 64)) 1 ≡ marked words k
  was_here k here = ap (λ q. eqb (bit_at (get_or words q 0) (k % 64)) 1) (sym here)

  pub set_done : ((k : ℕ) → k < 64 * at → marked words k ≡ (marked old k || within a b k)) → ((k : ℕ) → 64 * at ≤ k → marked words k ≡ marked old k) →
      (k : ℕ) → k < 64 * (at + 1) → marked (set words at (bit_or (get_or words at 0) bits)) k ≡ (marked old k || within a b k)
  set_done done rest k below = ⊎_elim
      (λ (here : k / 64 ≡ at). marked_in_word words at _ lt k here ∙ has_or (get_or words at 0) bits (k % 64)
      ∙ ap (λ t. t || eqb (bit_at bits (k % 64)) 1) (was_here k here ∙ rest k (omega (arith, here))) ∙ ap (λ t. marked old k || t) (place k here))
      (λ (other : k / 64 ≡ at → ⊥). marked_elsewhere words at _ lt k other ∙ done k (omega (arith, below, other)))
      (cases_eq (k / 64) at)

pub set_rest : (words old : List ℕ) (at word : ℕ) → at < length words → ((k : ℕ) → 64 * at ≤ k → marked words k ≡ marked old k) → (k : ℕ) →
    64 * (at + 1) ≤ k → marked (set words at word) k ≡ marked old k
set_rest words old at word lt rest k from = marked_elsewhere words at word lt k (λ here. omega (arith, here, from)) ∙ rest k (omega (arith, from))

-- a word whose indices are all in the range
pub set_full : (words old : List ℕ) (a b at word : ℕ) → at < length words → word ≡ 2 ^ 64 - 1 → a ≤ 64 * at → 64 * (at + 1) ≤ b →
    ((k : ℕ) → k < 64 * at → marked words k ≡ (marked old k || within a b k)) → (k : ℕ) → k < 64 * (at + 1) →
    marked (set words at word) k ≡ (marked old k || within a b k)
set_full words old a b at word lt full low high done k below = ⊎_elim
    (λ (here : k / 64 ≡ at).
    marked_in_word words at word lt k here ∙ ap (λ n. eqb (bit_at n (k % 64)) 1) full ∙ ap (λ x. eqb x 1) (bit_at_ones 64 (k % 64) (omega arith))
    ∙ sym (ap (λ t. marked old k || t) (within-true a b k (omega (arith, here, low)) (omega (arith, here, high))) ∙ or-true (marked old k)))
    (λ (other : k / 64 ≡ at → ⊥). marked_elsewhere words at word lt k other ∙ done k (omega (arith, below, other)))
    (cases_eq (k / 64) at)

-- before the first word of the range there is nothing to mark
pub set_first : (old : List ℕ) (a b bits : ℕ) → a / 64 < length old → bits < 2 ^ 64 →
    ((i : ℕ) → i < 64 → eqb (bit_at bits i) 1 ≡ within a b (64 * (a / 64) + i)) → (k : ℕ) → k < 64 * (a / 64 + 1) →
    marked (set old (a / 64) (bit_or (get_or old (a / 64) 0) bits)) k ≡ (marked old k || within a b k)
set_first old a b bits lt small of_range =
    set_done old old a b (a / 64) bits lt small of_range (λ k below. sym (ap (λ t. marked old k || t) (within-below a b k (omega (arith, below))) ∙ or-false (marked old k))) (λ k from. refl)

module _ (words old : List ℕ) (a b : ℕ) where
  -- after the last word of the range there is nothing to mark
  pub set_all : (at : ℕ) → b ≤ 64 * at → ((k : ℕ) → k < 64 * at → marked words k ≡ (marked old k || within a b k)) →
      ((k : ℕ) → 64 * at ≤ k → marked words k ≡ marked old k) → (k : ℕ) → marked words k ≡ (marked old k || within a b k)
  set_all at end done rest k = ⊎_elim
      (λ (below : k < 64 * at). done k below)
      (λ (past : 64 * at ≤ k). rest k past ∙ sym (ap (λ t. marked old k || t) (within-past a b k (omega (arith, past, end))) ∙ or-false (marked old k)))
      (cases_lt k (64 * at))

-- a word with some of its bits cleared
pub cleared_here : (words : List ℕ) (at bits : ℕ) → at < length words → bits < 2 ^ 64 → (k : ℕ) → k / 64 ≡ at →
    marked (set words at (bit_and (get_or words at 0) (bit_not w64 bits))) k ≡ (marked words k && not (eqb (bit_at bits (k % 64)) 1))
cleared_here words at bits lt small k here =
    marked_in_word words at _ lt k here ∙ has_and (get_or words at 0) (bit_not w64 bits) (k % 64)
    ∙ ap (λ q. eqb (bit_at (get_or words q 0) (k % 64)) 1 && eqb (bit_at (bit_not w64 bits) (k % 64)) 1) (sym here)
    ∙ ap (λ t. marked words k && t) (has_not bits (k % 64) small (omega arith))

-- the bits of a word are its marks
pub bit_marked : (words : List ℕ) (at i : ℕ) → i < 64 → eqb (bit_at (get_or words at 0) i) 1 ≡ marked words (64 * at + i)
bit_marked words at i lt =
    let q : at ≡ (64 * at + i) / 64 = omega (arith, lt) in
    let r : i ≡ (64 * at + i) % 64 = omega (arith, lt) in
    ap (λ j. eqb (bit_at (get_or words j 0) i) 1) q ∙ ap (λ j. eqb (bit_at (get_or words ((64 * at + i) / 64) 0) j) 1) r
