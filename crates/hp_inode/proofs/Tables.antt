use Rattle.std.proofs.lemmas.Grind.{common_steps}
-- The rows of a page table with the bits of its pages and their marks, after a change.
use Rattle.std.proofs.Common.{◌≡◌, ℕ, ◌+◌, ◌*◌, ◌<◌, ◌≤◌, ◌/◌, ◌%◌, ◌^◌, Bool, true, false, not, List, [], eqb, length, get_or, set, Option, None, sym, refl, ap, ◌∙◌, arith, ⊎_elim, is_some}
use Rattle.std.specs.Int.{bit_at, trailing_zeros, w64}
use Rattle.std.specs.List.{refill}
use Rattle.std.proofs.lemmas.Bool.{cases_eq, cases_lt, cases_Bool, false≢true, ltb-true}
use Rattle.std.proofs.lemmas.Bool.Decides.{nat_tests}
use Rattle.std.proofs.lemmas.List.{get_or-set_same, get_or-set_other, get_or_past, length-set, drop_all, take_all, append-nil}
use Rattle.std.proofs.lemmas.Nat.Bits.{bit_at-zero, bit_at-trailing_zeros}
use Rattle.hp_marks.proofs.Words.{marked_at, unmarked_in}
use Rattle.hp_marks.specs.Marks.{marked}
use Rattle.hp_inode.specs.Rows.{Rows, page_in, has_slot, IsTable}

-- what a write through a slice of a whole list leaves
pub written_back : {X : Type 0} (xs ws : List X) → length ws ≡ length xs → refill (length xs) xs ws ≡ ws
written_back xs ws same = rw (drop_all (length ws) xs (omega (arith, same)), append-nil ws) (take_all (length xs) ws (omega (arith, same)))

-- more words, more marks, and other rows with the same pages
pub table_alike : (rows made : Rows) (words marks new news : List ℕ) → IsTable rows words marks → length news < 2 ^ 32 → length new ≤ 64 * length news → length made ≤ length new →
    ((i : ℕ) → page_in made i ≡ page_in rows i) → ((i : ℕ) → marked new i ≡ marked words i) → ((j : ℕ) → marked news j ≡ marked marks j) → IsTable made new news
table_alike rows made words marks new news is few places wide pages same above = record {
  few = few;
  places = places;
  wide = wide;
  pages = λ i. same i ∙ is.pages i ∙ ap is_some (sym (pages i));
  some = λ j on none. is.some j (sym (above j) ∙ on) (λ i here. sym (same i) ∙ none i here);
  none = λ i off. same i ∙ is.none i (sym (above (i / 64)) ∙ off);
}

-- a word with a bit has its mark
pub mark_there : (words marks : List ℕ) → ((k : ℕ) → marked marks (k / 64) ≡ false → marked words k ≡ false) → (at : ℕ) → (((k : ℕ) → k / 64 ≡ at → marked words k ≡ false) → ⊥) →
    marked marks at ≡ true
mark_there words marks none at some = ⊎_elim
    (λ (on : marked marks at ≡ true). on)
    (λ (off : marked marks at ≡ false). absurd (some (λ k here. none k (ap (marked marks) here ∙ off))))
    (cases_Bool (marked marks at))

-- and one with none has none
pub mark_is : (rows : Rows) (words marks : List ℕ) → IsTable rows words marks → (at : ℕ) (had : Bool) → (had ≡ true → ((k : ℕ) → k / 64 ≡ at → marked words k ≡ false) → ⊥) →
    (had ≡ false → (k : ℕ) → k / 64 ≡ at → marked words k ≡ false) → marked marks at ≡ had
mark_is rows words marks table at true some none = mark_there words marks table.none at (some refl)
mark_is rows words marks table at false some none = ⊎_elim
    (λ (on : marked marks at ≡ true). absurd (table.some at on (none refl)))
    (λ (off : marked marks at ≡ false). off)
    (cases_Bool (marked marks at))

-- ---- a slot written

module _ (rows : Rows) (i : ℕ) (o : Option ℕ) (slot : has_slot rows i ≡ true) where
  abbrev row : List (Option ℕ)
  row = get_or rows (i / 64) []

  abbrev changed : Rows
  changed = set rows (i / 64) (set row (i % 64) o)

  pub slot_there : i % 64 < length row
  slot_there = ltb-true (i % 64) (length row) slot

  pub chunk_there : i / 64 < length rows
  chunk_there = grind (arith, common_steps, slot_there, get_or_past, cases_lt)

  row_here : get_or changed (i / 64) [] ≡ set row (i % 64) o
  row_here = get_or-set_same rows (i / 64) (set row (i % 64) o) [] chunk_there

  pub page_in_set : page_in changed i ≡ o
  page_in_set = ap (λ r. get_or r (i % 64) None) row_here ∙ get_or-set_same row (i % 64) o None slot_there

  pub page_in_others : (k : ℕ) → (k ≡ i → ⊥) → page_in changed k ≡ page_in rows k
  page_in_others k differs = grind (arith, common_steps, row_here, get_or-set_other, cases_eq)

  pub has_slot_set : (k : ℕ) → has_slot changed k ≡ has_slot rows k
  has_slot_set k = grind (arith, common_steps, row_here, length-set, get_or-set_other, cases_eq)

  -- with its bit, and the mark of the word
  module _ (words marks new : List ℕ) (on : Bool) (table : IsTable rows words marks) (long : length new ≡ length words) (here : marked new i ≡ is_some o)
      (others : (k : ℕ) → (k ≡ i → ⊥) → marked new k ≡ marked words k) (some : on ≡ true → ((k : ℕ) → k / 64 ≡ i / 64 → marked new k ≡ false) → ⊥)
      (none : on ≡ false → (k : ℕ) → k / 64 ≡ i / 64 → marked new k ≡ false) where
    -- the mark stays where the word of a page that goes keeps a bit
    pub mark_stays : is_some o ≡ false → on ≡ true → marked marks (i / 64) ≡ true
    mark_stays gone set_on = mark_there words marks table.none (i / 64) (λ blank. some set_on (λ k chunk. ⊎_elim
        (λ (this : k ≡ i). ap (marked new) this ∙ here ∙ gone)
        (λ (other : k ≡ i → ⊥). others k other ∙ blank k chunk)
        (cases_eq k i)))

    pub table_set : (news : List ℕ) → length news ≡ length marks → marked news (i / 64) ≡ on → ((j : ℕ) → (j ≡ i / 64 → ⊥) → marked news j ≡ marked marks j) → IsTable changed new news
    table_set news same mark above = record {
      few = omega (arith, table.few, same);
      places = omega (arith, table.places, same, long);
      wide = omega (arith, table.wide, long, length-set rows (i / 64) (set row (i % 64) o));
      pages = λ k. ⊎_elim
          (λ (this : k ≡ i). ap (marked new) this ∙ here ∙ ap is_some (sym (ap (page_in changed) this ∙ page_in_set)))
          (λ (other : k ≡ i → ⊥). others k other ∙ table.pages k ∙ ap is_some (sym (page_in_others k other)))
          (cases_eq k i);
      some = λ j there blank. ⊎_elim
          (λ (this : j ≡ i / 64). some (sym mark ∙ ap (marked news) (sym this) ∙ there) (λ k chunk. blank k (chunk ∙ sym this)))
          (λ (other : j ≡ i / 64 → ⊥). table.some j (sym (above j other) ∙ there) (λ k chunk. sym (others k (λ e. other (sym chunk ∙ ap (λ n. n / 64) e))) ∙ blank k chunk))
          (cases_eq j (i / 64));
      none = λ k off. ⊎_elim
          (λ (this : k / 64 ≡ i / 64). none (sym mark ∙ ap (marked news) (sym this) ∙ off) k this)
          (λ (other : k / 64 ≡ i / 64 → ⊥). others k (λ e. other (ap (λ n. n / 64) e)) ∙ table.none k (sym (above (k / 64) other) ∙ off))
          (cases_eq (k / 64) (i / 64));
    }

-- ---- whether a word has a bit

module _ (words : List ℕ) (at word : ℕ) (is : get_or words at 0 ≡ word) (on : Bool) (test : on ≡ not (eqb word 0)) where
  pub bit_there : word < 2 ^ 64 → on ≡ true → ((k : ℕ) → k / 64 ≡ at → marked words k ≡ false) → ⊥
  bit_there small set_on blank =
      let some : 0 < word = more_of word (sym test ∙ set_on) in
      let low = bit_at-trailing_zeros w64 word some small in
      let place = trailing_zeros w64 word in
      let inside : place < 64 = low.0 in
      absurd (false≢true (sym (blank (64 * at + place) (omega (arith, inside))) ∙ marked_at words at place inside (ap (λ w. bit_at w place) is ∙ low.1)))
    where
      more_of : (n : ℕ) → not (eqb n 0) ≡ true → 0 < n
      more_of n some = grind (arith, nat_tests)

  pub no_bit : on ≡ false → (k : ℕ) → k / 64 ≡ at → marked words k ≡ false
  no_bit off k here =
      let zero = zero_of word (sym test ∙ off) in
      unmarked_in words k (ap (λ w. bit_at w (k % 64)) (ap (λ j. get_or words j 0) here ∙ is ∙ zero) ∙ bit_at-zero (k % 64))
    where
      zero_of : (n : ℕ) → not (eqb n 0) ≡ false → n ≡ 0
      zero_of n off = grind (arith, nat_tests)
