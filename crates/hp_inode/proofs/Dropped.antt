use Rattle.std.proofs.lemmas.Grind.{common_steps}
-- An inode after the entries of a range were dropped.
use Rattle.std.proofs.Common.{◌≡◌, ℕ, ◌+◌, ◌-◌, ◌<◌, ◌≤◌, Bool, true, false, not, ◌&&◌, List, drop, get_or, Option, sym, refl, ap, ◌∙◌, arith, ⊎_elim, count_by, All, IsSome}
use Rattle.std.specs.List.{range_with_len}
use Rattle.std.proofs.lemmas.Bool.{cases_lt, and_parts, and_from, not_from_false, false_from_ne_true, true≢false}
use Rattle.std.proofs.lemmas.List.{get_or-take, get_or-drop, length-take, length-drop}
use Rattle.std.proofs.lemmas.List.FromFn.{fill_by_all}
use Rattle.hp_model.specs.declared.cell.Cell.{Cell}
use Rattle.hp_model.specs.declared.cell.Cell.TheVariants.{Hole}
use Rattle.hp_model.proofs.Words.{cell_in, edit_range, has_page, part, within}
use Rattle.hp_model.proofs.Counting.{count_alike, count_parted, count_within, alike_in}
use Rattle.hp_model.proofs.Ranges.{within-in, within-true, within-below, within-past}
use Rattle.hp_model.proofs.Editing.{length-edit_range, get_or-edit_below, get_or-edit_within, get_or-edit_past}
use Rattle.hp_inode.specs.Blocks.{WordBlocks, entered_count, entered_at, RowBlocks, page_at}
use Rattle.hp_inode.specs.Kept.{cell_by, kept_cell, cells_of, IsKept}
use Rattle.hp_inode.proofs.CellFacts.{length-cells, cell_in-cells, has_page_cell}

and_right_true : (p w : Bool) → w ≡ true → (p && w) ≡ p
and_right_true true w e = e
and_right_true false w e = refl

-- those outside a range, and those in it
count_less : (p : ℕ → Bool) (a b n : ℕ) → b ≤ n → count_by (λ i. p i && not (within a b i)) (range_with_len 0 n) + count_by p (range_with_len a (b - a)) ≡ count_by p (range_with_len 0 n)
count_less p a b n le =
    let inside : ℕ → Bool = λ i. p i && within a b i in
    let whole = count_parted p (within a b) (range_with_len 0 n) in
    let there = count_within inside a b n le (λ i lt is. within-in a b i (and_parts (p i) (within a b i) is).1) in
    let same = alike_in inside p a (b - a) (λ i low high. and_right_true (p i) (within a b i) (within-true a b i low (omega (arith, low, high)))) in
    omega (arith, whole, there, same)

-- a cell of a range
pub part_cell : (xs : List (Cell ℕ)) (a b j : ℕ) → j < b - a → get_or (part a b xs) j Hole ≡ cell_in xs (a + j)
part_cell xs a b j lt = get_or-take (b - a) (drop a xs) j Hole lt ∙ get_or-drop a xs j Hole

module _ (len m : ℕ) (e new : WordBlocks) (rows : RowBlocks) (a b : ℕ) (kept : IsKept len m e rows) (le : b ≤ len) (gone : (k : ℕ) → entered_at new k ≡ (entered_at e k && not (within a b k))) where
  here : (k : ℕ) → kept_cell new rows k ≡ cell_by (entered_at e k && not (within a b k)) (page_at rows k)
  here k = ap (λ t. cell_by t (page_at rows k)) (gone k)

  in_by : (x w : Bool) (o : Option ℕ) → w ≡ true → cell_by (x && not w) o ≡ Hole
  in_by true w o is = rw is refl
  in_by false w o is = refl

  out_by : (x w : Bool) (o : Option ℕ) → w ≡ false → cell_by (x && not w) o ≡ cell_by x o
  out_by true w o is = rw is refl
  out_by false w o is = refl

  untouched : (k : ℕ) → within a b k ≡ false → kept_cell new rows k ≡ cell_in (cells_of len e rows) k
  untouched k out = here k ∙ out_by (entered_at e k) (within a b k) (page_at rows k) out ∙ sym (cell_in-cells len m e rows kept k)

  pub dropped_cells : cells_of len new rows ≡ edit_range (λ cell. Hole) a b (cells_of len e rows)
  dropped_cells =
      let xs = cells_of len e rows in
      let long = length-cells len e rows in
      let f : Cell ℕ → Cell ℕ = λ cell. Hole in
      sym (fill_by_all (kept_cell new rows) (edit_range f a b xs) len Hole (length-edit_range f a b xs ∙ long) (λ k lt.
      ⊎_elim (λ (below : k < a). get_or-edit_below f a b xs k Hole below (omega (arith, lt, long)) ∙ sym (untouched k (within-below a b k below)))
      (λ (from : a ≤ k). ⊎_elim
      (λ (high : k < b). get_or-edit_within f a b xs k Hole from high (omega (arith, le, long)) ∙ sym (here k ∙ in_by (entered_at e k) (within a b k) (page_at rows k) (within-true a b k from high)))
      (λ (past : b ≤ k). get_or-edit_past f a b xs k Hole from past (omega (arith, lt, long)) ∙ sym (untouched k (within-past a b k past)))
      (cases_lt k b))
      (cases_lt k a)))

  pub count_gone : entered_count new 0 len + entered_count e a b ≡ m
  count_gone = grind (arith, common_steps, count_alike, count_less)

  pub dropped_kept : All (λ (cell : Cell ℕ). has_page cell ≡ false) (part a b (cells_of len e rows)) → (taken : ℕ) → taken ≡ entered_count e a b → IsKept len (m - taken) new rows
  dropped_kept pageless taken is = record {
    small = kept.small;
    below = λ i in'. kept.below i (was i in');
    counted = omega (arith, count_gone, is);
    paged = λ i page. gone i ∙ and_from _ _ (kept.paged i page) (not_from_false (within a b i) (false_from_ne_true (within a b i) (clash i page)));
    slots = λ i in'. kept.slots i (was i in');
  }
    where
      was : (i : ℕ) → entered_at new i ≡ true → entered_at e i ≡ true
      was i in' = (and_parts (entered_at e i) (not (within a b i)) (sym (gone i) ∙ in')).0

      clash : (i : ℕ) → IsSome (page_at rows i) → within a b i ≡ true → ⊥
      clash i page inside =
          let low : a ≤ i = (within-in a b i inside).0 in
          let high : i < b = (within-in a b i inside).1 in
          let xs = cells_of len e rows in
          let test : has_page (get_or (part a b xs) (i - a) Hole) ≡ false = pageless (i - a) Hole
          (omega (arith, low, high, le, length-take (b - a) (drop a xs), length-drop a xs, length-cells len e rows)) in
          let read : get_or (part a b xs) (i - a) Hole ≡ cell_in xs i = part_cell xs a b (i - a) (omega (arith, low, high)) ∙ ap (cell_in xs) {x = a + (i - a)} {y = i} (omega (arith, low)) in
          true≢false (sym (has_page_cell len m e rows kept i ∙ page) ∙ ap has_page (sym read) ∙ test)

-- as many as a range has are entered in all
pub count_few : (len m : ℕ) (e : WordBlocks) (rows : RowBlocks) (a b : ℕ) → IsKept len m e rows → b ≤ len → entered_count e a b ≤ m
count_few len m e rows a b kept le = omega (arith, count_less (entered_at e) a b (len - 0) (omega (arith, le)), kept.counted)
