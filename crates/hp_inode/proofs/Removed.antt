use Rattle.std.proofs.lemmas.Grind.{common_steps}
-- The indices of a range taken out, part by part.
use Rattle.std.proofs.Common.{◌≡◌, ℕ, ◌+◌, ◌-◌, ◌*◌, ◌/◌, ◌%◌, ◌^◌, ◌<◌, ◌≤◌, min, Bool, true, false, not, ◌&&◌, eqb, List, length, get_or, set, sym, refl, ap, ◌∙◌, arith, ⊎_elim, bit_and, count_ones}
use Rattle.std.proofs.Common.{Option, None, Some, count_by, unwrap_or}
use Rattle.std.specs.Int.{bit_at, bit_not, w64}
use Rattle.std.specs.List.{range_with_len}
use Rattle.std.proofs.Math.Bool.{and-false}
use Rattle.std.proofs.lemmas.Bool.{cases_lt, cases_eq, and_cases, and_parts, not-false, false_from_ne_true}
use Rattle.std.proofs.lemmas.Bool.Decides.{nat_tests}
use Rattle.std.proofs.lemmas.List.FromFn.{length-range_with_len}
use Rattle.std.proofs.lemmas.List.Sums.{count_by-le-length}
use Rattle.std.proofs.lemmas.Nat.Bits.{bit_at-zero}
use Rattle.hp_model.proofs.Counting.{count_split, count_outside, alike_in}
use Rattle.hp_model.proofs.Ranges.{within-in, within-true, within-below, within-past}
use Rattle.hp_model.proofs.Words.{within}
use Rattle.hp_inode.specs.EntryBlock.{count_in, IsBlank, IsEntries, IsRemoved}
use Rattle.hp_marks.specs.Marks.{marked, FindsWithin}
use Rattle.hp_marks.proofs.Bits.{word_counted}
use Rattle.hp_marks.proofs.Cleared.{kept}
use Rattle.hp_marks.proofs.Range.{marked_in_word, marked_elsewhere, cleared_here, bit_marked}
use Rattle.hp_inode.proofs.Spread.{counted_all, counted_none, counted_next, blank_words}
use Rattle.hp_marks.proofs.Words.{unmarked_past}

-- ---- one range after another

pub parts_left : (x : Bool) (a m b k : ℕ) → a ≤ m → m ≤ b → ((x && not (within a m k)) && not (within m b k)) ≡ (x && not (within a b k))
parts_left true a m b k low high = grind (arith, nat_tests)
parts_left false a m b k low high = refl

pub joined : (old mid new : List ℕ) (a m b c d sum : ℕ) → a ≤ m → m ≤ b → sum ≡ c + d → IsRemoved a m old mid c → IsRemoved m b mid new d → IsRemoved a b old new sum
joined old mid new a m b c d sum low high sum_is one two =
    let split = count_split (marked old) a (m - a) (b - m) in
    let whole : m - a + (b - m) ≡ b - a = omega (arith, low, high) in
    let middle : a + (m - a) ≡ m = omega (arith, low) in
    let same = alike_in (marked mid) (marked old) m (b - m) (λ k from below. one.left k ∙ kept old a m k (within-past a m k from)) in
    record {
      counted = omega (
        arith,
        sum_is,
        one.counted,
        two.counted,
        split,
        ap (λ n. count_by (marked old) (range_with_len a n)) whole,
        ap
            (λ s. count_by (marked old) (range_with_len s (b - m))) middle,
        same,
      );
      left = λ k. two.left k ∙ ap (λ t. t && not (within m b k)) (one.left k) ∙ parts_left (marked old k) a m b k low high;
    }

-- a range that has none
pub none_removed : (words : List ℕ) (a b : ℕ) → IsBlank words a b → IsRemoved a b words words 0
none_removed words a b blank = grind (arith, common_steps, count_outside, kept, within-below, within-past, cases_lt)

pub not_begun : (words : List ℕ) (a count : ℕ) → count ≡ 0 → IsRemoved a a words words count
not_begun words a count count_is = grind (arith, common_steps, none_removed)

pub none_past : (words : List ℕ) (a b m : ℕ) → m ≡ min b (64 * length words) → m ≤ a → IsRemoved a b words words 0
none_past words a b m m_is le = none_removed words a b (λ k low high. unmarked_past words k (omega (arith, m_is, le, low, high)))

-- and one that goes on past the words
pub removed_past : (old new : List ℕ) (a m b count : ℕ) → m ≡ min b (64 * length old) → a ≤ m → IsRemoved a m old new count → IsRemoved a b old new count
removed_past old new a m b count m_is low is =
    joined old new new a m b count 0 count low (omega (arith, m_is)) (omega arith) is
    (none_removed new m b (λ k from lt. is.left k ∙ ap (λ t. t && not (within a m k)) (unmarked_past old k (omega (arith, m_is, from, lt)))))

pub few_removed : (old new : List ℕ) (a b count : ℕ) → IsRemoved a b old new count → count ≤ b - a
few_removed old new a b count is = omega (arith, is.counted, count_by-le-length (marked old) (range_with_len a (b - a)), length-range_with_len a (b - a))

-- ---- of one word

pub counted_in_word : (words : List ℕ) (at a b bits : ℕ) → 64 * at ≤ a → a < b → b ≤ 64 * at + 64 → bits < 2 ^ 64 →
    ((i : ℕ) → i < 64 → eqb (bit_at bits i) 1 ≡ within a b (64 * at + i)) → count_ones (bit_and (get_or words at 0) bits) ≡ count_in words a b
counted_in_word words at a b bits low order high small of_range =
    let further = counted_next words a b at at (get_or words at 0) bits (omega arith) (λ k from below. absurd (omega (arith, from, below))) small (bit_marked words at) of_range in
    omega (arith, further, counted_all words a b (64 * (at + 1)) (omega (arith, high)), counted_none words a b (64 * at) low)

module _ (words : List ℕ) (at a b bits : ℕ) (lt : at < length words) (low : 64 * at ≤ a) (order : a < b) (high : b ≤ 64 * at + 64)
    (small : bits < 2 ^ 64) (of_range : (i : ℕ) → i < 64 → eqb (bit_at bits i) 1 ≡ within a b (64 * at + i)) where
  pub removed_in_word : IsRemoved a b words (set words at (bit_and (get_or words at 0) (bit_not w64 bits))) (count_ones (bit_and (get_or words at 0) bits))
  removed_in_word =
      record {
        counted = counted_in_word words at a b bits low order high small of_range;
        left = λ k. ⊎_elim
            (λ (here : k / 64 ≡ at).
            cleared_here words at bits lt small k here ∙ ap (λ t. marked words k && not t) (of_range (k % 64) (omega arith) ∙ ap (within a b) {x = 64 * at + k % 64} {y = k} (omega (arith, here))))
            (λ (other : k / 64 ≡ at → ⊥). marked_elsewhere words at _ lt k other ∙ sym (kept words a b k (false_from_ne_true (within a b k) (λ inside.
            let bounds = within-in a b k inside in
            let from : a ≤ k = bounds.0 in
            let below : k < b = bounds.1 in
            other (omega (arith, from, below, low, high))))))
            (cases_eq (k / 64) at);
      }

-- a whole word
pub removed_word : (words : List ℕ) (at : ℕ) → at < length words → get_or words at 0 < 2 ^ 64 → IsRemoved (64 * at) (64 * (at + 1)) words (set words at 0) (count_ones (get_or words at 0))
removed_word words at lt small =
    let long : 64 ≡ 64 * (at + 1) - 64 * at = omega arith in
    record {
      counted = sym (word_counted (marked words) (64 * at) (get_or words at 0) small (λ i less. sym (bit_marked words at i less)))
          ∙ ap (λ n. count_by (marked words) (range_with_len (64 * at) n)) long;
      left = λ k. ⊎_elim
          (λ (here : k / 64 ≡ at).
          marked_in_word words at 0 lt k here ∙ ap (λ n. eqb n 1) (bit_at-zero (k % 64))
          ∙ sym (ap (λ t. marked words k && not t) (within-true (64 * at) (64 * (at + 1)) k (omega (arith, here)) (omega (arith, here))) ∙ and-false (marked words k)))
          (λ (other : k / 64 ≡ at → ⊥). marked_elsewhere words at 0 lt k other ∙ sym (kept words (64 * at) (64 * (at + 1)) k (false_from_ne_true (within (64 * at) (64 * (at + 1)) k) (λ inside.
          let bounds = within-in (64 * at) (64 * (at + 1)) k inside in
          let from : 64 * at ≤ k = bounds.0 in
          let below : k < 64 * (at + 1) = bounds.1 in
          other (omega (arith, from, below))))))
          (cases_eq (k / 64) at);
    }

-- ---- of some words

-- past words with no bit, to the next that has a mark, or to the end
module _ (old words marks : List ℕ) (is : IsEntries old marks) (from at end count : ℕ) (order : from ≤ at) (lt : at < end)
    (before : IsRemoved (64 * from) (64 * at) old words count) (zero : get_or words at 0 ≡ 0) where
  pub passed_from : (found : Option ℕ) → FindsWithin marks (at + 1) end found → at < unwrap_or found end
  passed_from None none = lt
  passed_from (Some w) first = omega (arith, first.first.from)

  pub passed_to : (found : Option ℕ) → FindsWithin marks (at + 1) end found → unwrap_or found end ≤ end
  passed_to None none = omega arith
  passed_to (Some w) first = omega (arith, first.below)

  unmarked : (found : Option ℕ) → FindsWithin marks (at + 1) end found → (j : ℕ) → at + 1 ≤ j → j < unwrap_or found end → marked marks j ≡ false
  unmarked None none = none
  unmarked (Some w) first = first.first.none_before

  pub passed : (found : Option ℕ) → FindsWithin marks (at + 1) end found → IsRemoved (64 * from) (64 * unwrap_or found end) old words count
  passed found finds =
      let next = unwrap_or found end in
      let past : at < next = passed_from found finds in
      joined old words words (64 * from) (64 * at) (64 * next) count 0 count (omega (arith, order)) (omega (arith, past)) (omega arith) before
      (none_removed words (64 * at) (64 * next) (λ k low high. ⊎_elim
      (λ (here : k / 64 ≡ at). ap (λ q. eqb (bit_at (get_or words q 0) (k % 64)) 1) here ∙ ap (λ w. eqb (bit_at w (k % 64)) 1) zero ∙ ap (λ n. eqb n 1) (bit_at-zero (k % 64)))
      (λ (other : k / 64 ≡ at → ⊥).
      before.left k ∙ ap (λ t. t && not (within (64 * from) (64 * at) k)) (blank_words old marks is (at + 1) next (unmarked found finds) k (omega (arith, low, other)) high))
      (cases_eq (k / 64) at)))

-- the marks of words that were cleared are cleared
pub removed_entries : (words marks new news : List ℕ) (from end count : ℕ) → IsEntries words marks → length new ≡ length words →
    length news ≡ length marks → IsRemoved (64 * from) (64 * end) words new count →
    ((j : ℕ) → marked news j ≡ (marked marks j && not (within from end j))) → IsEntries new news
removed_entries words marks new news from end count is long longs here above = record {
  few = omega (arith, is.few, longs);
  places = omega (arith, is.places, long, longs);
  within = λ w on. omega (arith, long, is.within w (was w on));
  none = λ k clear. here.left k ∙ ⊎_elim
      (λ (off : marked marks (k / 64) ≡ false). ap (λ t. t && not (within (64 * from) (64 * end) k)) (is.none k off))
      (λ (off : not (within from end (k / 64)) ≡ false).
      let bounds = within-in from end (k / 64) (not-false (within from end (k / 64)) off) in
      let low : from ≤ k / 64 = bounds.0 in
      let high : k / 64 < end = bounds.1 in
      ap (λ t. marked words k && not t) (within-true (64 * from) (64 * end) k (omega (arith, low)) (omega (arith, high))) ∙ and-false (marked words k))
      (and_cases (marked marks (k / 64)) (not (within from end (k / 64))) (sym (above (k / 64)) ∙ clear));
}
  where
    was : (w : ℕ) → marked news w ≡ true → marked marks w ≡ true
    was w on = (and_parts (marked marks w) (not (within from end w)) (sym (above w) ∙ on)).0
