use Rattle.std.proofs.lemmas.Grind.{common_steps}
-- An index is entered, or left, and room is made.
use Rattle.std.proofs.Common.{◌≡◌, ℕ, zero, suc, ◌+◌, ◌-◌, ◌<◌, max, Option, None, List, [], ◌∷◌, ◌++◌, length, map, replicate, take, drop, refl, sym, ap, subst, ◌∙◌, arith, slice_set, slice_index_or}
use Rattle.std.proofs.Common.{sum_by}
use Rattle.std.proofs.lemmas.List.{map-set}
use Rattle.std.proofs.lemmas.List.Sums.{sum_by-set, sum_by-append, sum_by-cons}
use Rattle.hp_laws.proofs.Variants.{Cell, Entered, Hole, Present}
use Rattle.hp_model.proofs.Words.{cell_at, cell_in, edit_range, entered, with_cell}
use Rattle.hp_store.specs.Store.{Store, Holding, page_at}
use Rattle.hp_lookup.proofs.Words.{IsHeld, NumberedFile, cell_shown, file_at, files_shown, in_cell, in_file, more_in, more_of, numbered_at, with_cell_at}
use Rattle.hp_lookup.proofs.Alike.{alike_held}
use Rattle.hp_lookup.proofs.Lifting.{files_same}
use Rattle.hp_lookup.proofs.Cells.{file_is, free_is_fresh}
use Rattle.hp_lookup.proofs.Views.{view, read_is, files_len, cells_len, cell_at_is, entered_is}

-- ---- one element of a range

one_part : {X : Type 0} (f : X → X) (d : X) (xs : List X) (i : ℕ) → i < length xs → take i xs ++ map f (take 1 (drop i xs)) ++ drop 1 (drop i xs) ≡ slice_set xs i (f (slice_index_or xs i d))
one_part f d [] i l = absurd (none_below i l)
  where
    none_below : (k : ℕ) → k < 0 → ⊥
    none_below k l = omega (arith, l)
one_part f d (x ∷ xs) zero l = refl
one_part f d (x ∷ xs) (suc i) l = ap (λ ys. x ∷ ys) (one_part f d xs i (omega (arith, l)))

pub one_edited : {X : Type 0} (f : X → X) (d : X) (xs : List X) (i : ℕ) → i < length xs → edit_range f i (i + 1) xs ≡ slice_set xs i (f (slice_index_or xs i d))
one_edited f d xs i l = grind (arith, common_steps, one_part)

pub file_entered : (x : NumberedFile) (i e : ℕ) (cells : List (Cell ℕ)) → e ≡ i + 1 → i < length x.cells → cell_in x.cells i ≡ Hole →
    cells ≡ edit_range entered i e x.cells → record x { cells = cells } ≡ record x { cells = slice_set x.cells i Entered }
file_entered x i e cells e_is l hole is =
    ap (λ cs. record x { cells = cs }) (is ∙ ap (λ b. edit_range entered i b x.cells) e_is ∙ one_edited entered Hole x.cells i l ∙ ap (λ c. slice_set x.cells i (entered c)) hole)

pub file_left : (x : NumberedFile) (i e : ℕ) (cells : List (Cell ℕ)) → e ≡ i + 1 → i < length x.cells → cells ≡ edit_range (λ c. Hole) i e x.cells →
    record x { cells = cells } ≡ record x { cells = slice_set x.cells i Hole }
file_left x i e cells e_is l is =
    ap (λ cs. record x { cells = cs }) (is ∙ ap (λ b. edit_range (λ c. Hole) i b x.cells) e_is ∙ one_edited (λ c. Hole) Hole x.cells i l)

-- ---- a cell without a page for another

module _ (s : Store) (more : ℕ) (fs : List NumberedFile) (h : IsHeld s more fs) (k i : ℕ) (l : k < length fs) (c : Cell ℕ)
    (none : (n : ℕ) → in_cell n c ≡ 0) (was : (n : ℕ) → in_cell n (cell_in (numbered_at fs k).cells i) ≡ 0)
    (below : i < length (numbered_at fs k).cells) where
  abbrev f : NumberedFile
  f = numbered_at fs k

  abbrev g : NumberedFile
  g = record f { cells = slice_set f.cells i c }

  cells_as : (n : ℕ) → sum_by (in_cell n) g.cells ≡ sum_by (in_cell n) f.cells
  cells_as n = (let step = sum_by-set (in_cell n) f.cells i c Hole below in let a = none n in let b = was n in omega (arith, step, a, b))

  file_as : (n : ℕ) → in_file n g ≡ in_file n f
  file_as n = (let same = cells_as n in omega (arith, same))

  pub cell_held : IsHeld s more (slice_set fs k g)
  cell_held = alike_held s more fs h k l g cells_as file_as

  pub cell_shows : files_shown s (slice_set fs k g) ≡ slice_set (files_shown s fs) k (with_cell (file_at (files_shown s fs) k) i (cell_shown s c))
  cell_shows = grind (arith, common_steps, map-set, file_is)

-- ---- as code does it: x is what it read, and y what it leaves

module _ (s : Store) (more : ℕ) (fs : List NumberedFile) (h : IsHeld s more fs) (k i : ℕ) (l : k < length (files_shown s fs)) (x y : NumberedFile)
    (read : x ≡ slice_index_or fs k x) (below : i < length (file_at (files_shown s fs) k).cells) where
  in_list : k < length fs
  in_list = (let same = files_len s fs in omega (arith, l, same))

  x_is : x ≡ numbered_at fs k
  x_is = read_is fs k x in_list read

  inside : i < length (numbered_at fs k).cells
  inside = (let same = cells_len s fs k in_list in omega (arith, below, same))

  is_hole : (c : Cell ℕ) → cell_shown s c ≡ Hole → c ≡ Hole
  is_hole Hole e = refl
  is_hole Entered e = cc
  is_hole (Present n) e = cc

  hole_was : cell_at (file_at (files_shown s fs) k) i ≡ Hole → cell_in (numbered_at fs k).cells i ≡ Hole
  hole_was e = is_hole _ (sym (cell_at_is s fs k i in_list) ∙ e)

  entry_was : cell_at (file_at (files_shown s fs) k) i ≡ Entered → cell_in (numbered_at fs k).cells i ≡ Entered
  entry_was e = entered_is s _ (sym (cell_at_is s fs k i in_list) ∙ e)

  changed : (c : Cell ℕ) → y ≡ record x { cells = slice_set x.cells i c } → y ≡ record (numbered_at fs k) { cells = slice_set (numbered_at fs k).cells i c }
  changed c e = e ∙ ap (λ (f : NumberedFile). record f { cells = slice_set f.cells i c }) x_is

  pub enter_view : y ≡ record x { cells = slice_set x.cells i Entered } → cell_at (file_at (files_shown s fs) k) i ≡ Hole → view s more (slice_set fs k y) ≡ with_cell_at k i Entered (view s more fs)
  enter_view e hole = ap (λ f. view s more (slice_set fs k f)) (changed Entered e)
      ∙ ap (λ xs. record (view s more fs) { files = xs }) (cell_shows s more fs h k i in_list Entered (λ n. refl)
      (λ n. ap (in_cell n) (hole_was hole)) inside)

  pub enter_keeps : y ≡ record x { cells = slice_set x.cells i Entered } → cell_at (file_at (files_shown s fs) k) i ≡ Hole → IsHeld s more (slice_set fs k y)
  enter_keeps e hole = subst (λ f. IsHeld s more (slice_set fs k f)) (sym (changed Entered e)) (cell_held s more fs h k i in_list Entered (λ n. refl) (λ n. ap (in_cell n) (hole_was hole)) inside)

  pub leave_view : y ≡ record x { cells = slice_set x.cells i Hole } → cell_at (file_at (files_shown s fs) k) i ≡ Entered → view s more (slice_set fs k y) ≡ with_cell_at k i Hole (view s more fs)
  leave_view e entry = ap (λ f. view s more (slice_set fs k f)) (changed Hole e)
      ∙ ap (λ xs. record (view s more fs) { files = xs }) (cell_shows s more fs h k i in_list Hole (λ n. refl) (λ n. ap (in_cell n) (entry_was entry))
      inside)

  pub leave_keeps : y ≡ record x { cells = slice_set x.cells i Hole } → cell_at (file_at (files_shown s fs) k) i ≡ Entered → IsHeld s more (slice_set fs k y)
  leave_keeps e entry = subst (λ f. IsHeld s more (slice_set fs k f)) (sym (changed Hole e)) (cell_held s more fs h k i in_list Hole (λ n. refl) (λ n. ap (in_cell n) (entry_was entry)) inside)

-- ---- room is made

pub none_more : (n : ℕ) → more_in (replicate n None) ≡ 0
none_more zero = refl
none_more (suc n) = (let step = sum_by-cons more_of None (replicate n None) in let rest = none_more n in omega (arith, step, rest))

pub past_is_none : (ps : List (Option Holding)) → slice_index_or ps (length ps) None ≡ None
past_is_none [] = refl
past_is_none (p ∷ ps) = past_is_none ps

module _ (s t : Store) (more count all : ℕ) (fs : List NumberedFile) (h : IsHeld s more fs) (all_is : all ≡ more + count)
    (t_is : t ≡ record s { pages = t.pages; room = max s.room all }) (pages : t.pages ≡ s.pages ++ replicate (length t.pages - length s.pages) None)
    (same : (n : ℕ) → page_at t n ≡ page_at s n) where
  shown_same : files_shown t fs ≡ files_shown s fs
  shown_same = files_same (length s.pages) s t (λ k other. same k) fs (free_is_fresh s more fs (length s.pages) h (past_is_none s.pages))

  room_is : t.room ≡ max s.room (more + count)
  room_is = ap (λ (u : Store). u.room) t_is ∙ ap (max s.room) all_is

  more_same : more_in t.pages ≡ more_in s.pages
  more_same = grind (arith, common_steps, sum_by-append, none_more)

  pub room_view : view t more fs ≡ record (view s more fs) { room = max (s.room - more) count }
  room_view = grind (arith, common_steps, room_is, shown_same)

  pub room_keeps : IsHeld t more fs
  room_keeps = grind (arith, common_steps, more_same, room_is)
