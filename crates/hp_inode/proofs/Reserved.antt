use Rattle.std.proofs.lemmas.Grind.{common_steps}
-- An inode after a range was entered.
use Rattle.std.proofs.Common.{◌≡◌, ℕ, ◌+◌, ◌-◌, ◌<◌, ◌≤◌, Bool, true, false, not, ◌&&◌, ◌||◌, Option, None, Some, sym, refl, ap, ◌∙◌, subst, arith, ⊎_elim, count_by, IsSome}
use Rattle.std.specs.List.{range_with_len}
use Rattle.std.proofs.lemmas.Bool.{cases_lt, or_cases, or_left, and_parts, and_right}
use Rattle.std.proofs.lemmas.List.FromFn.{fill_by_all}
use Rattle.hp_inode.specs.Blocks.{WordBlocks, entered_count, missing_count, entered_at, RowBlocks, page_at, has_slot_at}
use Rattle.hp_model.proofs.Words.{cell_in, edit_range, entered, within}
use Rattle.hp_model.proofs.Counting.{count_alike, count_or, count_within, alike_in}
use Rattle.hp_model.proofs.Ranges.{within-in, within-true, within-below, within-past}
use Rattle.hp_model.proofs.Editing.{length-edit_range, get_or-edit_below, get_or-edit_within, get_or-edit_past}
use Rattle.hp_model.specs.declared.cell.Cell.TheVariants.{Hole}
use Rattle.hp_inode.specs.Kept.{cell_by, kept_cell, cells_of, IsKept}
use Rattle.hp_inode.proofs.CellFacts.{length-cells, cell_in-cells}

in_range : (a b i : ℕ) (t : Bool) → (within a b i && t) ≡ true → (a ≤ i) × (i < b)
in_range a b i t is = within-in a b i (and_parts (within a b i) t is).0

or_parted : (p w : Bool) → (p || w) ≡ (p || (w && not p))
or_parted true w = refl
or_parted false true = refl
or_parted false false = refl

-- with those of a range, as many more pass as did not there
pub count_more : (p : ℕ → Bool) (a b n : ℕ) → b ≤ n → count_by (λ i. p i || within a b i) (range_with_len 0 n) ≡ count_by p (range_with_len 0 n) + count_by (λ i. not (p i)) (range_with_len a (b - a))
count_more p a b n le =
    let more : ℕ → Bool = λ i. within a b i && not (p i) in
    let apart : (i : ℕ) → p i ≡ true → more i ≡ false = λ i is. rw is (and_right (within a b i) false refl) in
    let split = count_or p more apart (range_with_len 0 n) in
    let same = count_alike (λ i. p i || within a b i) (λ i. p i || more i) (λ i. or_parted (p i) (within a b i)) (range_with_len 0 n) in
    let there = count_within more a b n le (λ i lt is. in_range a b i (not (p i)) is) in
    let fresh = alike_in more (λ i. not (p i)) a (b - a) (λ i low high. rw (within-true a b i low (omega (arith, low, high))) refl) in
    omega (arith, split, same, there, fresh)

module _ (len m : ℕ) (e new : WordBlocks) (rows made : RowBlocks) (a b : ℕ) (kept : IsKept len m e rows) (le : b ≤ len)
    (holds_new : (k : ℕ) → entered_at new k ≡ (entered_at e k || within a b k)) (pages : (k : ℕ) → page_at made k ≡ page_at rows k) where
  cases_new : (k : ℕ) (P : Type 0) → (entered_at e k ≡ true → P) → (a ≤ k → k < b → P) → entered_at new k ≡ true → P
  cases_new k P was now p = ⊎_elim was (λ w. now (within-in a b k w).0 (within-in a b k w).1) (or_cases (entered_at e k) (within a b k) (sym (holds_new k) ∙ p))

  pub count_new : entered_count new 0 len ≡ m + missing_count e a b
  count_new = grind (arith, common_steps, count_alike, count_more)

  pub reserved_kept : ((k : ℕ) → has_slot_at rows k ≡ true → has_slot_at made k ≡ true) → ((k : ℕ) → a ≤ k → k < b → has_slot_at made k ≡ true) → IsKept len (m + missing_count e a b) new made
  reserved_kept stay fresh = record {
    small = kept.small;
    counted = count_new;
    below = λ i in'. cases_new i (i < len) (kept.below i) (λ low high. omega (arith, high, le)) in';
    paged = λ i some. holds_new i ∙ or_left _ _ (kept.paged i (subst IsSome (pages i) some));
    slots = λ i in'. cases_new i (has_slot_at made i ≡ true) (λ was. stay i (kept.slots i was)) (fresh i) in';
  }

  entered_by : (x w : Bool) (o : Option ℕ) → (IsSome o → x ≡ true) → w ≡ true → cell_by (x || w) o ≡ entered (cell_by x o)
  entered_by true w None h e = refl
  entered_by true w (Some page) h e = refl
  entered_by false w None h e = rw e refl
  entered_by false w (Some page) h e = absurd (clash (h refl))
    where
      clash : false ≡ true → ⊥
      clash p = cc

  same_by : (x w : Bool) (o : Option ℕ) → w ≡ false → cell_by (x || w) o ≡ cell_by x o
  same_by true w o e = refl
  same_by false w o e = rw e refl

  here : (k : ℕ) → kept_cell new made k ≡ cell_by (entered_at e k || within a b k) (page_at rows k)
  here k = ap (λ t. cell_by t (page_at made k)) (holds_new k) ∙ ap (cell_by (entered_at e k || within a b k)) (pages k)

  -- where the range has the index, and where it doesn't
  touched : (k : ℕ) → a ≤ k → k < b → kept_cell new made k ≡ entered (cell_in (cells_of len e rows) k)
  touched k low high = here k ∙ entered_by (entered_at e k) (within a b k) (page_at rows k) (kept.paged k) (within-true a b k low high) ∙ ap entered (sym (cell_in-cells len m e rows kept k))

  untouched : (k : ℕ) → within a b k ≡ false → kept_cell new made k ≡ cell_in (cells_of len e rows) k
  untouched k out = here k ∙ same_by (entered_at e k) (within a b k) (page_at rows k) out ∙ sym (cell_in-cells len m e rows kept k)

  pub reserved_cells : cells_of len new made ≡ edit_range entered a b (cells_of len e rows)
  reserved_cells = sym (fill_by_all (kept_cell new made) (edit_range entered a b (cells_of len e rows)) len Hole (length-edit_range entered a b (cells_of len e rows) ∙ length-cells len e rows)
      (λ k lt.
      let long = length-cells len e rows in
      ⊎_elim (λ (below : k < a). get_or-edit_below entered a b (cells_of len e rows) k Hole below (omega (arith, lt, long)) ∙ sym (untouched k (within-below a b k below)))
      (λ (from : a ≤ k). ⊎_elim
      (λ (high : k < b). get_or-edit_within entered a b (cells_of len e rows) k Hole from high (omega (arith, le, long)) ∙ sym (touched k from high))
      (λ (past : b ≤ k). get_or-edit_past entered a b (cells_of len e rows) k Hole from past (omega (arith, lt, long)) ∙ sym (untouched k (within-past a b k past)))
      (cases_lt k b))
      (cases_lt k a)))
