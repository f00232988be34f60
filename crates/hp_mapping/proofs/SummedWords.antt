use Rattle.std.proofs.lemmas.Grind.{common_steps}
-- Words of marks, with the marks of those that have one, after a change.
use Rattle.std.proofs.Common.{◌≡◌, ℕ, ◌+◌, ◌*◌, ◌/◌, ◌%◌, ◌^◌, ◌<◌, ◌≤◌, true, false, List, length, get_or, sym, ap, ◌∙◌, arith, ⊎_elim}
use Rattle.std.specs.Int.{bit_at, w64, trailing_zeros}
use Rattle.std.proofs.lemmas.Bool.{cases_lt, cases_eq, true≢false}
use Rattle.std.proofs.lemmas.Nat.Bits.{bit_at-zero, bit_at-trailing_zeros}
use Rattle.hp_marks.specs.Marks.{marked, IsFirstFrom}
use Rattle.hp_marks.proofs.Words.{first_after, lowest_there, unmarked_in}
use Rattle.hp_mapping.specs.Marks.{IsSummed, IsUnmarkedFrom}

-- in a word that is zero there is no mark
zero_unmarked : (words : List ℕ) (k : ℕ) → get_or words (k / 64) 0 ≡ 0 → marked words k ≡ false
zero_unmarked words k zero = unmarked_in words k (ap (λ w. bit_at w (k % 64)) zero ∙ bit_at-zero (k % 64))

-- without a mark
pub summed_none : (words above : List ℕ) → length words ≤ 2 ^ 58 → length above ≤ 2 ^ 58 → length words ≤ 64 * length above →
    IsUnmarkedFrom 0 words → IsUnmarkedFrom 0 above → IsSummed words above
summed_none words above few few_above room blank blank_above = grind (arith, common_steps, true≢false)

module _ (words above new : List ℕ) (at : ℕ) (is : IsSummed words above) (others : (k : ℕ) → (k ≡ at → ⊥) → marked new k ≡ marked words k) (long : length new ≡ length words) where
  -- one is marked
  pub summed_marked : (news : List ℕ) → marked new at ≡ true → length news ≡ length above → marked news (at / 64) ≡ true →
      ((w : ℕ) → (w ≡ at / 64 → ⊥) → marked news w ≡ marked above w) → IsSummed new news
  summed_marked news here longs mark rest = record {
    few = omega (arith, is.few, long);
    few_above = omega (arith, is.few_above, longs);
    none = λ k off. ⊎_elim
        (λ (same : k / 64 ≡ at / 64). absurd (true≢false (sym mark ∙ ap (marked news) (sym same) ∙ off)))
        (λ (other : k / 64 ≡ at / 64 → ⊥). others k (λ e. other (ap (λ j. j / 64) e)) ∙ is.none k (sym (rest (k / 64) other) ∙ off))
        (cases_eq (k / 64) (at / 64));
    some = λ w on bare. ⊎_elim
        (λ (same : w ≡ at / 64). true≢false (sym here ∙ bare at (sym same)))
        (λ (other : w ≡ at / 64 → ⊥). is.some w (sym (rest w other) ∙ on) (λ k of. sym (others k (λ e. other (sym of ∙ ap (λ j. j / 64) e))) ∙ bare k of))
        (cases_eq w (at / 64));
    room = omega (arith, is.room, long, longs);
  }

  module _ (here : marked new at ≡ false) where
    left_off : (k : ℕ) → marked words k ≡ false → marked new k ≡ false
    left_off k off = ⊎_elim
        (λ (same : k ≡ at). ap (marked new) same ∙ here)
        (λ (other : k ≡ at → ⊥). others k other ∙ off)
        (cases_eq k at)

    -- one is not marked any more, and its word has another
    pub summed_left : 0 < get_or new (at / 64) 0 → get_or new (at / 64) 0 < 2 ^ 64 → IsSummed new above
    summed_left more small = record {
      few = omega (arith, is.few, long);
      few_above = is.few_above;
      none = λ k off. left_off k (is.none k off);
      some = λ w on bare. ⊎_elim
          (λ (same : w ≡ at / 64).
          let lowest = lowest_there new (at / 64) more small in
          true≢false (sym lowest.here ∙ bare (64 * (at / 64) + trailing_zeros w64 (get_or new (at / 64) 0)) (omega (arith, same, lowest_within more small))))
          (λ (other : w ≡ at / 64 → ⊥). is.some w on (λ k of. sym (others k (λ e. other (sym of ∙ ap (λ j. j / 64) e))) ∙ bare k of))
          (cases_eq w (at / 64));
      room = omega (arith, is.room, long);
    }
      where
        lowest_within : 0 < get_or new (at / 64) 0 → get_or new (at / 64) 0 < 2 ^ 64 → trailing_zeros w64 (get_or new (at / 64) 0) < 64
        lowest_within more small = (bit_at-trailing_zeros w64 (get_or new (at / 64) 0) more small).0

    -- or has none
    pub summed_gone : (news : List ℕ) → get_or new (at / 64) 0 ≡ 0 → length news ≡ length above → marked news (at / 64) ≡ false →
        ((w : ℕ) → (w ≡ at / 64 → ⊥) → marked news w ≡ marked above w) → IsSummed new news
    summed_gone news zero longs mark rest = record {
      few = omega (arith, is.few, long);
      few_above = omega (arith, is.few_above, longs);
      none = λ k off. ⊎_elim
          (λ (same : k / 64 ≡ at / 64). zero_unmarked new k (ap (λ q. get_or new q 0) same ∙ zero))
          (λ (other : k / 64 ≡ at / 64 → ⊥). left_off k (is.none k (sym (rest (k / 64) other) ∙ off)))
          (cases_eq (k / 64) (at / 64));
      some = λ w on bare. ⊎_elim
          (λ (same : w ≡ at / 64). true≢false (sym on ∙ ap (marked news) same ∙ mark))
          (λ (other : w ≡ at / 64 → ⊥). is.some w (sym (rest w other) ∙ on) (λ k of. sym (others k (λ e. other (sym of ∙ ap (λ j. j / 64) e))) ∙ bare k of))
          (cases_eq w (at / 64));
      room = omega (arith, is.room, long, longs);
    }

-- ---- the first mark

module _ (words above : List ℕ) (n : ℕ) (is : IsSummed words above) (first : (k : ℕ) → n ≤ k → k < 64 * (n / 64) + 64 → marked words k ≡ false) where
  -- words without a mark of their own have none
  none_before : (w : ℕ) → ((j : ℕ) → n / 64 + 1 ≤ j → j < w → marked above j ≡ false) → (k : ℕ) → n ≤ k → k < 64 * w → marked words k ≡ false
  none_before w none k from low = ⊎_elim
      (λ (early : k < 64 * (n / 64) + 64). first k from early)
      (λ (late : 64 * (n / 64) + 64 ≤ k). is.none k (none (k / 64) (omega (arith, late)) (omega (arith, low))))
      (cases_lt k (64 * (n / 64) + 64))

  pub found_above : (w i : ℕ) → IsFirstFrom above (n / 64 + 1) w → IsFirstFrom words (64 * w) i → IsFirstFrom words n i
  found_above w i word here = first_after words n (64 * w) i (omega (arith, word.from)) (none_before w word.none_before) here
