use Rattle.std.proofs.lemmas.Grind.{common_steps}
-- An inode with the room to enter a range, and as it enters it.
use Rattle.hp_model.proofs.Counting.{count_alike}
use Rattle.hp_model.proofs.Words.{at_least, cell_in, cells_to, edit_range, entered, has_page, part, within}
use Rattle.std.proofs.Common.{◌≡◌, ℕ, ◌+◌, ◌-◌, ◌<◌, ◌≤◌, ◌^◌, ◌++◌, not, cond, List, [], length, drop, replicate, max, refl, sym, ap, subst, ◌∙◌, arith, ◌||◌, ◌&&◌, true, false, rules, IsSome}
use Rattle.std.proofs.Common.{Option, None, Some, All, count_by}
use Rattle.std.specs.List.{range_with_len}
use Rattle.std.proofs.lemmas.Bool.{false≢true}
use Rattle.std.proofs.lemmas.List.{append-nil, drop_all, take_all}
use Rattle.std.proofs.lemmas.List.Elements.{All-nil}
use Rattle.std.proofs.lemmas.List.FromFn.{length-range_with_len}
use Rattle.std.proofs.lemmas.List.Sums.{count_by-le-length}
use Rattle.hp_model.specs.declared.cell.Cell.{Cell}
use Rattle.hp_model.specs.declared.cell.Cell.TheVariants.{Entered, Hole}
use Rattle.hp_inode.specs.Blocks.{WordBlocks, entered_count, missing_count, entered_at, RowBlocks, page_at, has_slot_at}
use Rattle.hp_inode.specs.Kept.{IsKept, cells_of}
use Rattle.hp_inode.specs.Ready.{IsReady}
use Rattle.hp_inode.proofs.Alone.{count_one}
use Rattle.hp_inode.proofs.CellFacts.{entered_cell, length-cells, resized, resized_kept}
use Rattle.hp_inode.proofs.Dropped.{count_few, dropped_cells, dropped_kept}
use Rattle.hp_inode.proofs.Paged.{dropped_paged, entered_paged}
use Rattle.hp_inode.proofs.Reserved.{reserved_cells, reserved_kept}
use Rattle.hp_inode.proofs.Taken.{alone_pageless}

-- no more are entered than the length, nor missing than the range has
pub few_entered : (len m : ℕ) (e : WordBlocks) (rows : RowBlocks) → IsKept len m e rows → m ≤ len
few_entered len m e rows kept = grind (arith, common_steps, count_by-le-length, length-range_with_len)

pub few_missing : (e : WordBlocks) (a b : ℕ) → missing_count e a b ≤ b
few_missing e a b = omega (arith, count_by-le-length (λ i. not (entered_at e i)) (range_with_len a (b - a)), length-range_with_len a (b - a))

-- with no range
pub unready : (len m pages : ℕ) (e : WordBlocks) (rows : RowBlocks) (a : ℕ) → IsKept len m e rows → pages ≡ count_by has_page (cells_of len e rows) → IsReady len m pages e rows a 0
unready len m pages e rows a kept paged = grind (arith, common_steps)

-- with the same entries in more words, the same pages, and more slots
module _ (len m : ℕ) (e new : WordBlocks) (rows made : RowBlocks) (same : (k : ℕ) → entered_at new k ≡ entered_at e k) (pages : (k : ℕ) → page_at made k ≡ page_at rows k) where
  pub same_cells : cells_of len new made ≡ cells_of len e rows
  same_cells = search rules

  same_kept : IsKept len m e rows → ((k : ℕ) → has_slot_at rows k ≡ true → has_slot_at made k ≡ true) → IsKept len m new made
  same_kept kept stay = record {
    small = kept.small;
    below = λ i in'. kept.below i (sym (same i) ∙ in');
    counted = count_alike (entered_at new) (entered_at e) same (range_with_len 0 (len - 0)) ∙ kept.counted;
    paged = λ i some. same i ∙ kept.paged i (subst IsSome (pages i) some);
    slots = λ i in'. stay i (kept.slots i (sym (same i) ∙ in'));
  }

  pub same_unready : {paged low high : ℕ} → IsReady len m paged e rows low high → ((k : ℕ) → has_slot_at rows k ≡ true → has_slot_at made k ≡ true) → (a : ℕ) → IsReady len m paged new made a 0
  same_unready ready stay a = unready _ _ _ _ _ a (same_kept ready.kept stay) (ready.paged ∙ ap (count_by has_page) (sym same_cells))

-- no page in a block without an entry
pub pageless_in : (len m paged : ℕ) (e : WordBlocks) (rows : RowBlocks) {low high : ℕ} → IsReady len m paged e rows low high → (k : ℕ) → entered_at e k ≡ false → page_at rows k ≡ None
pageless_in len m paged e rows ready k out = none_of (page_at rows k) (λ some. false≢true (sym out ∙ ready.kept.paged k some))
  where
    none_of : (o : Option ℕ) → (IsSome o → ⊥) → o ≡ None
    none_of None never = refl
    none_of (Some page) never = absurd (never refl)

-- a list with the length asked for
pub long_enough : (b : ℕ) (cells : List (Cell ℕ)) → b ≤ length cells → at_least b cells ≡ cells
long_enough b cells le = ap (λ n. cells ++ replicate n Hole) {x = b - length cells} {y = 0} (omega (arith, le)) ∙ append-nil cells

-- made longer
module _ (len m : ℕ) (e : WordBlocks) (rows : RowBlocks) (b long : ℕ) (kept : IsKept len m e rows) (small : b < 2 ^ 32) (long_is : long ≡ max len b) where
  past : drop long (cells_of len e rows) ≡ []
  past = (let here = length-cells len e rows in drop_all long (cells_of len e rows) (omega (arith, long_is, here)))

  holes : All (λ (cell : Cell ℕ). cell ≡ Hole) (drop long (cells_of len e rows))
  holes = subst (All (λ (cell : Cell ℕ). cell ≡ Hole)) (sym past) (All-nil (λ (cell : Cell ℕ). cell ≡ Hole))

  pub longer_kept : IsKept long m e rows
  longer_kept = (let was = kept.small in resized_kept len m e rows kept long holes (omega (arith, long_is, small, was)))

  lengthened : cells_to long (cells_of len e rows) ≡ at_least b (cells_of len e rows)
  lengthened = grind (arith, common_steps, length-cells, take_all)

  pub longer_cells : cells_of long e rows ≡ at_least b (cells_of len e rows)
  longer_cells = resized len m e rows kept long holes ∙ lengthened

-- made longer, and entered
module _ (len m : ℕ) (e new : WordBlocks) (rows : RowBlocks) (a b long missing pages : ℕ) (ready : IsReady len m pages e rows a b) (long_is : long ≡ max len b)
    (missing_is : missing ≡ missing_count e a b) (holds_new : (k : ℕ) → entered_at new k ≡ (entered_at e k || within a b k)) where
  longer : IsKept long m e rows
  longer = longer_kept len m e rows b long ready.kept ready.small long_is

  pub enter_kept : IsKept long (m + missing) new rows
  enter_kept = subst (λ n. IsKept long (m + n) new rows) (sym missing_is)
      (reserved_kept long m e new rows rows a b longer (omega (arith, long_is)) holds_new (λ k. refl) (λ k has. has) ready.slots)

  pub enter_cells : cells_of long new rows ≡ edit_range entered a b (at_least b (cells_of len e rows))
  enter_cells =
      reserved_cells long m e new rows rows a b longer (omega (arith, long_is)) holds_new (λ k. refl)
      ∙ ap (edit_range entered a b) (longer_cells len m e rows b long ready.kept ready.small long_is)

-- ---- one index

module _ (len m pages : ℕ) (e new : WordBlocks) (rows made : RowBlocks) (i : ℕ) (kept : IsKept len m e rows) (lt : i < len)
    (holds_new : (k : ℕ) → entered_at new k ≡ (entered_at e k || within i (i + 1) k)) (same : (k : ℕ) → page_at made k ≡ page_at rows k) where
  pub one_cells : cells_of len new made ≡ edit_range entered i (i + 1) (cells_of len e rows)
  one_cells = reserved_cells len m e new rows made i (i + 1) kept (omega (arith, lt)) holds_new same

  pub one_entered : (more : ℕ) → more ≡ cond {A = ℕ} (not (entered_at e i)) 1 0 → pages ≡ count_by has_page (cells_of len e rows) →
      ((k : ℕ) → has_slot_at rows k ≡ true → has_slot_at made k ≡ true) → has_slot_at made i ≡ true → (a : ℕ) → IsReady len (m + more) pages new made a 0
  one_entered more more_is paged stay slot a =
      let missed : missing_count e i (i + 1) ≡ more = count_one (λ k. not (entered_at e k)) i ∙ sym more_is in
      let slots : (k : ℕ) → i ≤ k → k < i + 1 → has_slot_at made k ≡ true = λ k low high. ap (has_slot_at made) {x = k} {y = i} (omega (arith, low, high)) ∙ slot in
      unready len (m + more) pages new made a
      (subst (λ n. IsKept len (m + n) new made) missed (reserved_kept len m e new rows made i (i + 1) kept (omega (arith, lt)) holds_new same stay slots))
      (paged ∙ sym (entered_paged i (i + 1) (cells_of len e rows)) ∙ ap (count_by has_page) (sym one_cells))

module _ (len m pages : ℕ) (e new : WordBlocks) (rows : RowBlocks) (i : ℕ) (kept : IsKept len m e rows) (here : cell_in (cells_of len e rows) i ≡ Entered)
    (left : (k : ℕ) → entered_at new k ≡ (entered_at e k && not (within i (i + 1) k))) where
  is_in : entered_at e i ≡ true
  is_in = entered_cell len m e rows kept i here

  below : i < len
  below = kept.below i is_in

  counted : entered_count e i (i + 1) ≡ 1
  counted = count_one (entered_at e) i ∙ ap (λ t. cond {A = ℕ} t 1 0) is_in

  pub some_entered : 1 ≤ m
  some_entered = omega (arith, counted, count_few len m e rows i (i + 1) kept (omega (arith, below)))

  pageless : All (λ (cell : Cell ℕ). has_page cell ≡ false) (part i (i + 1) (cells_of len e rows))
  pageless = alone_pageless (cells_of len e rows) i here (omega (arith, below, length-cells len e rows))

  pub one_dropped : cells_of len new rows ≡ edit_range (λ cell. Hole) i (i + 1) (cells_of len e rows)
  one_dropped = dropped_cells len m e new rows i (i + 1) kept (omega (arith, below)) left

  pub one_left : pages ≡ count_by has_page (cells_of len e rows) → (a : ℕ) → IsReady len (m - 1) pages new rows a 0
  one_left paged a =
      unready len (m - 1) pages new rows a
      (dropped_kept len m e new rows i (i + 1) kept (omega (arith, below)) left pageless 1 (sym counted))
      (paged ∙ sym (dropped_paged i (i + 1) (cells_of len e rows) pageless) ∙ ap (count_by has_page) (sym one_dropped))
