-- The lowest page of a range.
use Rattle.std.proofs.Common.{◌≡◌, ℕ, zero, suc, [], ◌∷◌, subst, ◌+◌, ◌-◌, ◌<◌, ◌≤◌, false, List, length, drop, get_or, None, Some, sym, refl, ap, ◌∙◌, arith, IsSome, is_some, All}
use Rattle.std.proofs.lemmas.List.{length-take, length-drop, get_or_default}
use Rattle.hp_model.specs.declared.cell.Cell.{Cell}
use Rattle.hp_model.specs.declared.cell.Cell.TheVariants.{Hole, Entered}
use Rattle.hp_model.proofs.Words.{cell_in, found, has_page, part}
use Rattle.hp_model.proofs.Editing.{part_one}
use Rattle.hp_model.proofs.Finding.{found_none, found_at}
use Rattle.hp_inode.specs.Blocks.{WordBlocks, RowBlocks, page_at}
use Rattle.hp_inode.specs.Rows.{IsFirstPage}
use Rattle.hp_inode.specs.Kept.{cells_of, IsKept}
use Rattle.hp_inode.proofs.CellFacts.{length-cells, has_page_cell}
use Rattle.hp_inode.proofs.Dropped.{part_cell}

module _ (len m : ℕ) (e : WordBlocks) (rows : RowBlocks) (kept : IsKept len m e rows) (a b : ℕ) where
  in_part : (j : ℕ) → j < length (part a b (cells_of len e rows)) → j < b - a
  in_part j lt = omega (arith, lt, length-take (b - a) (drop a (cells_of len e rows)))

  tested : (j : ℕ) → j < b - a → has_page (get_or (part a b (cells_of len e rows)) j Hole) ≡ is_some (page_at rows (a + j))
  tested j lt = ap has_page (part_cell (cells_of len e rows) a b j lt) ∙ has_page_cell len m e rows kept (a + j)

  pub no_page_there : ((k : ℕ) → a ≤ k → k < b → page_at rows k ≡ None) → All (λ (cell : Cell ℕ). has_page cell ≡ false) (part a b (cells_of len e rows))
  no_page_there none j d lt =
      let below = in_part j lt in
      ap has_page (get_or_default (part a b (cells_of len e rows)) j d Hole lt) ∙ tested j below ∙ ap is_some (none (a + j) (omega arith) (omega (arith, below)))

  pub found_no_page : ((k : ℕ) → a ≤ k → k < b → page_at rows k ≡ None) → found has_page (part a b (cells_of len e rows)) ≡ None
  found_no_page none = found_none has_page (part a b (cells_of len e rows)) Hole (λ j lt. no_page_there none j Hole lt)

  -- a page lies below the length
  pub paged_below : (i : ℕ) → IsSome (page_at rows i) → i < len
  paged_below i some = kept.below i (kept.paged i some)

  pub found_page : (i : ℕ) → IsFirstPage (page_at rows) a i → i < b → found has_page (part a b (cells_of len e rows)) ≡ Some (i - a, cell_in (cells_of len e rows) i)
  found_page i first below =
      let xs = cells_of len e rows in
      let back : a + (i - a) ≡ i = omega (arith, first.from) in
      let inside : i - a < length (part a b xs) = omega (arith, first.from, below, paged_below i first.here, length-take (b - a) (drop a xs), length-drop a xs, length-cells len e rows) in
      found_at has_page (part a b xs) Hole (i - a) inside
      (tested (i - a) (in_part (i - a) inside) ∙ ap (λ k. is_some (page_at rows k)) back ∙ first.here)
      (λ j less. tested j (omega (arith, less, below)) ∙ ap is_some (first.none_before (a + j) (omega arith) (omega (arith, less, first.from))))
      ∙ ap (λ c. Some (i - a, c)) (part_cell xs a b (i - a) (in_part (i - a) inside) ∙ ap (cell_in xs) back)

-- a cell that is entered, and has no page, alone
pub alone_pageless : (xs : List (Cell ℕ)) (i : ℕ) → cell_in xs i ≡ Entered → i < length xs → All (λ (cell : Cell ℕ). has_page cell ≡ false) (part i (i + 1) xs)
alone_pageless xs i is lt =
    subst (All (λ (cell : Cell ℕ). has_page cell ≡ false)) (sym (part_one xs i Hole lt ∙ ap (λ c. c ∷ []) is)) one
  where
    one : All (λ (cell : Cell ℕ). has_page cell ≡ false) (Entered ∷ [])
    one zero d less = refl
    one (suc k) d less = absurd (omega (arith, less))
