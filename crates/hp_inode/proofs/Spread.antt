use Rattle.std.proofs.lemmas.Grind.{common_steps}
-- Entries of a range, put in or taken out with the marks of their words, and how many of a range there are.
use Rattle.std.proofs.Common.{◌≡◌, ℕ, ◌+◌, ◌-◌, ◌*◌, ◌/◌, ◌%◌, ◌^◌, ◌<◌, ◌≤◌, min, Bool, true, false, not, ◌&&◌, ◌||◌, eqb, List, length, set, sym, ap, ◌∙◌, arith, ⊎_elim, Option, None, Some, bit_and}
use Rattle.std.proofs.Common.{count_ones, count_by}
use Rattle.std.specs.Int.{bit_at}
use Rattle.std.specs.List.{range_with_len}
use Rattle.std.proofs.Math.Bool.{and-true, and-false}
use Rattle.std.proofs.lemmas.Bool.{cases_lt, cases_eq, and_parts, or_cases, or_parts, or_from, true≢false, false_from_ne_true}
use Rattle.std.proofs.lemmas.List.{length-set}
use Rattle.std.proofs.lemmas.List.FromFn.{length-range_with_len}
use Rattle.std.proofs.lemmas.List.Sums.{count_by-le-length}
use Rattle.std.proofs.lemmas.Nat.{and_le_r}
use Rattle.std.proofs.lemmas.Nat.Bits.{bit_at-zero}
use Rattle.hp_model.proofs.Counting.{count_split, count_outside, count_within, count_not, alike_in}
use Rattle.hp_model.proofs.Ranges.{within-in, within-true, within-below, within-past}
use Rattle.hp_model.proofs.Words.{within}
use Rattle.hp_inode.specs.EntryBlock.{count_in, IsBlank, IsEntries, FindsWord}
use Rattle.hp_marks.specs.Marks.{marked, FindsWithin}
use Rattle.hp_marks.proofs.Bits.{has_and, word_counted}
use Rattle.hp_marks.proofs.Range.{marked_in_word, marked_elsewhere}

-- the words of a range are marked with it
pub spread_entries : (words marks new news : List ℕ) (a b : ℕ) → IsEntries words marks → b ≤ 64 * length words → length new ≡ length words →
    length news ≡ length marks → ((k : ℕ) → marked new k ≡ (marked words k || within a b k)) →
    ((k : ℕ) → marked news k ≡ (marked marks k || within (a / 64) (b / 64 + min 1 (b % 64)) k)) → IsEntries new news
spread_entries words marks new news a b is le long longs here above = record {
  few = omega (arith, is.few, longs);
  places = omega (arith, is.places, long, longs);
  within = λ w on. ⊎_elim
      (λ (was : marked marks w ≡ true). omega (arith, is.within w was, long))
      (λ (now : within (a / 64) (b / 64 + min 1 (b % 64)) w ≡ true). let below = (within-in (a / 64) (b / 64 + min 1 (b % 64)) w now).1 in omega (arith, below, le, long))
      (or_cases (marked marks w) (within (a / 64) (b / 64 + min 1 (b % 64)) w) (sym (above w) ∙ on));
  none = λ k clear.
      let parts = or_parts (marked marks (k / 64)) (within (a / 64) (b / 64 + min 1 (b % 64)) (k / 64)) (sym (above (k / 64)) ∙ clear) in
      here k ∙ or_from (marked words k) (within a b k) (is.none k parts.0) (false_from_ne_true (within a b k) (λ inside.
      let bounds = within-in a b k inside in
      let low : a ≤ k = bounds.0 in
      let high : k < b = bounds.1 in
      true≢false (sym (within-true (a / 64) (b / 64 + min 1 (b % 64)) (k / 64) (omega (arith, low)) (omega (arith, high))) ∙ parts.1)));
}

-- in more words
pub grown_entries : (words marks new news : List ℕ) → IsEntries words marks → length words ≤ length new → length new ≤ 64 * length news →
    length news < 2 ^ 32 → ((k : ℕ) → marked new k ≡ marked words k) → ((k : ℕ) → marked news k ≡ marked marks k) → IsEntries new news
grown_entries words marks new news is more places few here above = grind (arith, common_steps)

-- a word has fewer bits
pub cleared_entries : (words marks new : List ℕ) (at left : ℕ) → IsEntries words marks → at < length words → length new ≡ length marks →
    ((j : ℕ) → (j ≡ at → ⊥) → marked new j ≡ marked marks j) → (marked new at ≡ false → left ≡ 0) → IsEntries (set words at left) new
cleared_entries words marks new at left is lt same others off = record {
  few = omega (arith, is.few, same);
  places = omega (arith, is.places, same, length-set words at left);
  within = λ w on. ⊎_elim
      (λ (this : w ≡ at). omega (arith, this, lt, length-set words at left))
      (λ (other : w ≡ at → ⊥). omega (arith, is.within w (sym (others w other) ∙ on), length-set words at left))
      (cases_eq w at);
  none = λ k clear. ⊎_elim
      (λ (this : k / 64 ≡ at). marked_in_word words at left lt k this ∙ ap (λ n. eqb (bit_at n (k % 64)) 1) (off (ap (marked new) (sym this) ∙ clear)) ∙ ap (λ n. eqb n 1) (bit_at-zero (k % 64)))
      (λ (other : k / 64 ≡ at → ⊥). marked_elsewhere words at left lt k other ∙ is.none k (sym (others (k / 64) other) ∙ clear))
      (cases_eq (k / 64) at);
}

-- ---- how many of a range

module _ (words : List ℕ) (a b : ℕ) where
  abbrev pub ours : ℕ → Bool
  ours k = marked words k && within a b k

  in_range : (k : ℕ) → ours k ≡ true → (a ≤ k) × (k < b)
  in_range k is = within-in a b k (and_parts (marked words k) (within a b k) is).1

  outside : (k : ℕ) → within a b k ≡ false → ours k ≡ false
  outside k out = ap (λ t. marked words k && t) out ∙ and-false (marked words k)

  same_inside : (k : ℕ) → a ≤ k → k < b → ours k ≡ marked words k
  same_inside k low high = ap (λ t. marked words k && t) (within-true a b k low high) ∙ and-true (marked words k)

  -- those below a place from b on are all
  pub counted_all : (n : ℕ) → b ≤ n → count_by ours (range_with_len 0 n) ≡ count_in words a b
  counted_all n le =
      count_within ours a b n le (λ k lt is. in_range k is)
      ∙ alike_in ours (marked words) a (b - a) (λ k low high. same_inside k low (omega (arith, low, high)))

  -- none is below a
  pub counted_none : (n : ℕ) → n ≤ a → count_by ours (range_with_len 0 n) ≡ 0
  counted_none n le = count_outside ours 0 n (λ k low high. outside k (within-below a b k (omega (arith, high, le))))

  pub counted_few : (n : ℕ) → count_by ours (range_with_len 0 n) ≤ b
  counted_few n =
      omega (arith, count_split ours 0 n b, counted_all (n + b) (omega arith), count_by-le-length (marked words) (range_with_len a (b - a)), length-range_with_len a (b - a))

  counted_blank : (n m : ℕ) → n ≤ m → ((k : ℕ) → n ≤ k → k < m → k < b → marked words k ≡ false) → count_by ours (range_with_len 0 m) ≡ count_by ours (range_with_len 0 n)
  counted_blank n m le blank =
      let rest = count_outside ours (0 + n) (m - n) (λ k low high. ⊎_elim
      (λ (below : k < b). ap (λ t. t && within a b k) (blank k (omega (arith, low)) (omega (arith, high, le)) below))
      (λ (past : b ≤ k). outside k (within-past a b k past))
      (cases_lt k b)) in
      let whole : n + (m - n) ≡ m = omega (arith, le) in
      omega (arith, count_split ours 0 n (m - n), ap (λ j. count_by ours (range_with_len 0 j)) whole, rest)

  -- with a further word, after some without marks
  pub counted_next : (at next word bits : ℕ) → at ≤ next → IsBlank words (64 * at) (64 * next) → bits < 2 ^ 64 →
      ((i : ℕ) → i < 64 → eqb (bit_at word i) 1 ≡ marked words (64 * next + i)) →
      ((i : ℕ) → i < 64 → eqb (bit_at bits i) 1 ≡ within a b (64 * next + i)) →
      count_by ours (range_with_len 0 (64 * (next + 1))) ≡ count_by ours (range_with_len 0 (64 * at)) + count_ones (bit_and word bits)
  counted_next at next word bits le blank small is_word of_range =
      let from : 64 * next ≡ 0 + 64 * next = omega arith in
      let here = word_counted ours (64 * next) (bit_and word bits) (omega (arith, small, and_le_r word bits)) (λ i lt.
      sym (has_and word bits i ∙ ap (λ t. t && eqb (bit_at bits i) 1) (is_word i lt) ∙ ap (λ t. marked words (64 * next + i) && t) (of_range i lt))) in
      let past : 64 * next + 64 ≡ 64 * (next + 1) = omega arith in
      let skipped = counted_blank (64 * at) (64 * next) (omega (arith, le)) (λ k low high below. blank k low high) in
      omega (arith, count_split ours 0 (64 * next) 64, ap (λ j. count_by ours (range_with_len 0 j)) past, ap (λ j. count_by ours (range_with_len j 64)) from, here, skipped)

  -- those of full words are all
  pub counted_full : (n m : ℕ) → n ≤ m → a ≤ n → (n < m → m ≤ b) → ((k : ℕ) → n ≤ k → k < m → marked words k ≡ true)
      → count_by ours (range_with_len 0 m) ≡ count_by ours (range_with_len 0 n) + (m - n)
  counted_full n m le low to full =
      let range = range_with_len n (m - n) in
      let none = count_outside (λ k. not (ours k)) n (m - n) (λ k from below.
      ap not (same_inside k (omega (arith, low, from)) (omega (arith, below, le, to (omega (arith, from, below, le)))) ∙ full k from (omega (arith, below, le)))) in
      let whole : n + (m - n) ≡ m = omega (arith, le) in
      let from : n ≡ 0 + n = omega arith in
      let low_part = ap (λ j. count_by ours (range_with_len 0 j)) whole in
      let high_part = ap (λ j. count_by ours (range_with_len j (m - n))) from in
      omega (arith, count_split ours 0 n (m - n), low_part, high_part, none, count_not ours range, length-range_with_len n (m - n))

  -- with none left
  pub counted_end : (at end : ℕ) → end ≡ b / 64 + min 1 (b % 64) → IsBlank words (64 * at) (64 * end) → count_by ours (range_with_len 0 (64 * at)) ≡ count_in words a b
  counted_end at end end_is blank =
      sym (counted_blank (64 * at) (64 * at + b) (omega arith) (λ k low high below. blank k low (omega (arith, below, end_is)))) ∙ counted_all (64 * at + b) (omega arith)

-- ---- the first word with a mark, of some of the words

module _ (words marks : List ℕ) (is : IsEntries words marks) where
  pub blank_words : (at end : ℕ) → ((j : ℕ) → at ≤ j → j < end → marked marks j ≡ false) → IsBlank words (64 * at) (64 * end)
  blank_words at end none k low high = is.none k (none (k / 64) (omega (arith, low)) (omega (arith, high)))

  pub finds_word : (at end : ℕ) (found : Option ℕ) → FindsWithin marks at end found → FindsWord words at end found
  finds_word at end None none = blank_words at end none
  finds_word at end (Some w) is_first = record {
    from = is_first.first.from;
    within = is.within w is_first.first.here;
    below = is_first.below;
    none_before = blank_words at w is_first.first.none_before;
  }
