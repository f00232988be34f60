use Rattle.std.proofs.lemmas.Grind.{common_steps}
-- What the cells of an inode say of its parts, and what a change of a part does to the cells.
use Rattle.std.proofs.Common.{◌≡◌, ℕ, ◌+◌, ◌-◌, ◌<◌, ◌≤◌, ◌^◌, Bool, true, false, not, List, ◌++◌, length, take, drop, map, replicate, get_or, set, Option, None, Some, sym, refl, ap, ◌∙◌, subst}
use Rattle.std.proofs.Common.{arith, ⊎_elim, count_by, All, IsSome, is_some}
use Rattle.std.specs.List.{range_with_len}
use Rattle.std.proofs.lemmas.Bool.{cases_lt, cases_eq, cases_Bool, true≢false, false≢true}
use Rattle.std.proofs.lemmas.List.{take_all, get_or_past, get_or-set_same, get_or-set_other, length-set, length-take, length-drop, length-append}
use Rattle.std.proofs.lemmas.List.{length-replicate, get_or-drop, get_or-take, get_or_append_left, get_or-append_right, get_or-replicate, ext_get_or}
use Rattle.hp_model.proofs.Counting.{count_alike, count_map, count_within}
use Rattle.std.proofs.lemmas.List.FromFn.{get_or-map-range_with_len, length-map-range_with_len, fill_by_all}
use Rattle.hp_inode.specs.Blocks.{WordBlocks, entered_count, missing_count, entered_at, RowBlocks, page_at, has_slot_at}
use Rattle.hp_model.specs.declared.cell.Cell.{Cell}
use Rattle.hp_model.specs.declared.cell.Cell.TheVariants.{Hole, Entered}
use Rattle.hp_model.proofs.Words.{cell_in, cells_to, has_page, is_entered, is_hole, page_of, part}
use Rattle.hp_inode.specs.Kept.{cell_by, kept_cell, cells_of, IsKept}

pub length-cells : (len : ℕ) (s : WordBlocks) (rows : RowBlocks) → length (cells_of len s rows) ≡ len
length-cells len s rows = length-map-range_with_len (kept_cell s rows) 0 len

hole_by : (b : Bool) (o : Option ℕ) → b ≡ false → cell_by b o ≡ Hole
hole_by true o e = absurd (true≢false e)
hole_by false o e = refl

module _ (len m : ℕ) (e : WordBlocks) (rows : RowBlocks) (kept : IsKept len m e rows) where
  outside : (i : ℕ) → len ≤ i → entered_at e i ≡ false
  outside i le = ⊎_elim (λ (h : entered_at e i ≡ true). absurd (omega (arith, kept.below i h))) (λ h. h) (cases_Bool (entered_at e i))

  pub cell_in-cells : (i : ℕ) → cell_in (cells_of len e rows) i ≡ kept_cell e rows i
  cell_in-cells i = ⊎_elim
      (λ (lt : i < len). get_or-map-range_with_len (kept_cell e rows) 0 len i i Hole lt (omega arith))
      (λ (le : len ≤ i). get_or_past (cells_of len e rows) i Hole (omega (arith, length-cells len e rows)) ∙ sym (hole_by (entered_at e i) (page_at rows i) (outside i le)))
      (cases_lt i len)

  page_by : (b : Bool) (o : Option ℕ) → (IsSome o → b ≡ true) → o ≡ page_of (cell_by b o)
  page_by true None h = refl
  page_by true (Some page) h = refl
  page_by false None h = refl
  page_by false (Some page) h = absurd (false≢true (h refl))

  pub page_at_cell : (i : ℕ) → page_at rows i ≡ page_of (cell_in (cells_of len e rows) i)
  page_at_cell i = page_by (entered_at e i) (page_at rows i) (kept.paged i) ∙ ap page_of (sym (cell_in-cells i))

  entered_by : (b : Bool) (o : Option ℕ) → b ≡ is_entered (cell_by b o)
  entered_by true None = refl
  entered_by true (Some page) = refl
  entered_by false o = refl

  pub entered_at_cell : (i : ℕ) → entered_at e i ≡ is_entered (cell_in (cells_of len e rows) i)
  entered_at_cell i = entered_by (entered_at e i) (page_at rows i) ∙ ap is_entered (sym (cell_in-cells i))

  -- an entered cell has a slot, and lies below the length
  pub entered_cell : (i : ℕ) → cell_in (cells_of len e rows) i ≡ Entered → entered_at e i ≡ true
  entered_cell i is = entered_at_cell i ∙ ap is_entered is

  has_page_by : (b : Bool) (o : Option ℕ) → (IsSome o → b ≡ true) → has_page (cell_by b o) ≡ is_some o
  has_page_by true None h = refl
  has_page_by true (Some page) h = refl
  has_page_by false None h = refl
  has_page_by false (Some page) h = absurd (false≢true (h refl))

  pub has_page_cell : (i : ℕ) → has_page (cell_in (cells_of len e rows) i) ≡ is_some (page_at rows i)
  has_page_cell i = ap has_page (cell_in-cells i) ∙ has_page_by (entered_at e i) (page_at rows i) (kept.paged i)

  -- the page of an entered index, changed
  module _ (i : ℕ) (o : Option ℕ) (new : RowBlocks) (in' : entered_at e i ≡ true) (here : page_at new i ≡ o) (others : (k : ℕ) → (k ≡ i → ⊥) → page_at new k ≡ page_at rows k) where
    changed_at : (k : ℕ) → k < len → get_or (set (cells_of len e rows) i (cell_by true o)) k Hole ≡ kept_cell e new k
    changed_at k lt = ⊎_elim
        (λ (same : k ≡ i). subst (λ j. get_or (set (cells_of len e rows) i (cell_by true o)) j Hole ≡ kept_cell e new j) (sym same)
        (get_or-set_same (cells_of len e rows) i (cell_by true o) Hole (omega (arith, kept.below i in', length-cells len e rows)) ∙ sym (rw (in', here) refl)))
        (λ (differs : k ≡ i → ⊥). get_or-set_other (cells_of len e rows) i k (cell_by true o) Hole differs ∙ cell_in-cells k ∙ ap (cell_by (entered_at e k)) (sym (others k differs)))
        (cases_eq k i)

    pub changed : cells_of len e new ≡ set (cells_of len e rows) i (cell_by true o)
    changed = sym (fill_by_all (kept_cell e new) (set (cells_of len e rows) i (cell_by true o)) len Hole (length-set (cells_of len e rows) i (cell_by true o) ∙ length-cells len e rows) changed_at)

    pub changed_kept : ((k : ℕ) → has_slot_at new k ≡ has_slot_at rows k) → IsKept len m e new
    changed_kept slots = record {
      small = kept.small;
      below = kept.below;
      counted = kept.counted;
      paged = λ k some. ⊎_elim (λ (same : k ≡ i). ap (entered_at e) same ∙ in') (λ (differs : k ≡ i → ⊥). kept.paged k (subst IsSome (others k differs) some)) (cases_eq k i);
      slots = λ k has. slots k ∙ kept.slots k has;
    }

-- as many pass below one bound as below another, where all that pass are below both
pub same_count : (p : ℕ → Bool) (n len : ℕ) → ((i : ℕ) → p i ≡ true → i < n) → ((i : ℕ) → p i ≡ true → i < len) → count_by p (range_with_len 0 (n - 0)) ≡ count_by p (range_with_len 0 (len - 0))
same_count p n len below below' =
    sym (count_within p 0 n (n + len) (omega arith) (λ i lt is. (omega arith, below i is)))
    ∙ count_within p 0 len (n + len) (omega arith) (λ i lt is. (omega arith, below' i is))

-- cells by their places, at another length
module _ (len m : ℕ) (e : WordBlocks) (rows : RowBlocks) (kept : IsKept len m e rows) where
  pub cells_by : (n : ℕ) (xs : List (Cell ℕ)) → length xs ≡ n → ((k : ℕ) → k < n → get_or xs k Hole ≡ cell_in (cells_of len e rows) k) → cells_of n e rows ≡ xs
  cells_by n xs long each = sym (fill_by_all (kept_cell e rows) xs n Hole long (λ k lt. each k lt ∙ cell_in-cells len m e rows kept k))

  module _ (n : ℕ) (holes : All (λ (cell : Cell ℕ). cell ≡ Hole) (drop n (cells_of len e rows))) where
    beyond : (i : ℕ) → entered_at e i ≡ true → i < n
    beyond i in' = ⊎_elim (λ (lt : i < n). lt) (λ (le : n ≤ i). absurd (clash le)) (cases_lt i n)
      where
        clash : n ≤ i → ⊥
        clash le =
            let below : i < len = kept.below i in' in
            let hole : get_or (drop n (cells_of len e rows)) (i - n) Hole ≡ Hole = holes (i - n) Hole (omega (arith, length-drop n (cells_of len e rows), length-cells len e rows)) in
            let there : get_or (drop n (cells_of len e rows)) (i - n) Hole ≡ cell_in (cells_of len e rows) i =
            get_or-drop n (cells_of len e rows) (i - n) Hole ∙ ap (cell_in (cells_of len e rows)) {x = n + (i - n)} {y = i} (omega arith) in
            let tested : entered_at e i ≡ false = entered_at_cell len m e rows kept i ∙ ap is_entered (sym there ∙ hole) in
            cc

    pub resized_kept : n < 2 ^ 32 → IsKept n m e rows
    resized_kept small = record { small = small; below = beyond; counted = recounted; paged = kept.paged; slots = kept.slots }
      where
        -- as many are below the new length, since none is past it
        recounted : entered_count e 0 n ≡ m
        recounted = same_count (entered_at e) n len beyond kept.below ∙ kept.counted

    resized_at : (k : ℕ) → k < n → get_or (take n (cells_of len e rows) ++ replicate (n - length (cells_of len e rows)) Hole) k Hole ≡ cell_in (cells_of len e rows) k
    resized_at k lt = grind (arith, common_steps, get_or_append_left, length-take, length-cells, get_or-take, get_or-append_right, get_or-replicate, get_or_past, cases_lt)

    pub resized : cells_of n e rows ≡ cells_to n (cells_of len e rows)
    resized = cells_by n (take n (cells_of len e rows) ++ replicate (n - length (cells_of len e rows)) Hole)
        (omega (
          arith,
          length-append (take n (cells_of len e rows)) (replicate (n - length (cells_of len e rows)) Hole),
          length-take n
              (cells_of len e rows),
          length-replicate {A = Cell ℕ} (n - length (cells_of len e rows)) Hole,
          length-cells len e rows,
        )) resized_at

-- a range of cells
part_is : (len : ℕ) (s : WordBlocks) (rows : RowBlocks) (a b : ℕ) → b ≤ len → part a b (cells_of len s rows) ≡ map (kept_cell s rows) (range_with_len a (b - a))
part_is len s rows a b le = ext_get_or Hole _ _ long (λ i lt.
    get_or-take (b - a) (drop a (cells_of len s rows)) i Hole (omega (arith, lt, short)) ∙ get_or-drop a (cells_of len s rows) i Hole
    ∙ get_or-map-range_with_len (kept_cell s rows) 0 len (a + i) (a + i) Hole (omega (arith, lt, short)) (omega arith)
    ∙ sym (get_or-map-range_with_len (kept_cell s rows) a (b - a) i (a + i) Hole (omega (arith, lt, short)) refl))
  where
    short : length (part a b (cells_of len s rows)) ≡ b - a
    short = omega (arith, length-take (b - a) (drop a (cells_of len s rows)), length-drop a (cells_of len s rows), length-cells len s rows)

    long : length (part a b (cells_of len s rows)) ≡ length (map (kept_cell s rows) (range_with_len a (b - a)))
    long = short ∙ sym (length-map-range_with_len (kept_cell s rows) a (b - a))

hole_test : (b : Bool) (o : Option ℕ) → is_hole (cell_by b o) ≡ not b
hole_test true None = refl
hole_test true (Some page) = refl
hole_test false o = refl

pub missing_cells : (len : ℕ) (s : WordBlocks) (rows : RowBlocks) (a b : ℕ) → b ≤ len → missing_count s a b ≡ count_by is_hole (part a b (cells_of len s rows))
missing_cells len s rows a b le = grind (arith, common_steps, part_is, count_map, count_alike, hole_test)

entered_test : (b : Bool) (o : Option ℕ) → is_entered (cell_by b o) ≡ b
entered_test true None = refl
entered_test true (Some page) = refl
entered_test false o = refl

pub entered_cells : (len : ℕ) (s : WordBlocks) (rows : RowBlocks) (a b : ℕ) → b ≤ len → entered_count s a b ≡ count_by is_entered (part a b (cells_of len s rows))
entered_cells len s rows a b le = grind (arith, common_steps, part_is, count_map, count_alike, entered_test)

pub paged_cells : (len m : ℕ) (e : WordBlocks) (rows : RowBlocks) → IsKept len m e rows → (a b : ℕ) → b ≤ len →
    count_by (λ i. is_some (page_at rows i)) (range_with_len a (b - a)) ≡ count_by has_page (part a b (cells_of len e rows))
paged_cells len m e rows kept a b le = grind (arith, common_steps, part_is, count_map, count_alike, has_page_by)

pub entered_in_all : (len m : ℕ) (e : WordBlocks) (rows : RowBlocks) → IsKept len m e rows → m ≡ count_by is_entered (cells_of len e rows)
entered_in_all len m e rows kept =
    let cells = cells_of len e rows in
    let long = length-cells len e rows in
    sym kept.counted ∙ entered_cells len e rows 0 len (omega arith) ∙ ap (count_by is_entered) (take_all (len - 0) cells (omega (arith, long)))
