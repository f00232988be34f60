use Rattle.std.proofs.lemmas.Grind.{common_steps}
-- A file that is cut to a length, and one that ends.
use Rattle.std.proofs.Common.{◌≡◌, ℕ, zero, suc, ◌+◌, ◌-◌, ◌<◌, ◌≤◌, min, Bool, true, false, cond, List, [], ◌∷◌, ◌++◌, length, take, drop, map, replicate, if◌then◌else◌, refl, ap, ◌∙◌, arith}
use Rattle.std.proofs.Common.{slice_index_or, All, count_by, sum_by}
use Rattle.std.proofs.lemmas.List.{get_or-drop, get_or-take, get_or_default, length-drop, length-take, nil_from_length, same_lists}
use Rattle.std.proofs.lemmas.List.Sums.{sum_by-append, sum_by-cons}
use Rattle.hp_laws.proofs.Variants.{Cell, Entered, Gone, Hole, Live, Place, Present}
use Rattle.hp_model.proofs.Words.{Mapping, cell_punched, cells_to, edit_range, has_page, is_entered, is_in, is_waiting, map_punched, part, without_copy}
use Rattle.hp_model.proofs.Counting.{count_cons}
use Rattle.hp_model.proofs.Editing.{length-edit_range, sum_by-edit_range}
use Rattle.hp_laws.proofs.ending.Cuts.{ranged}
use Rattle.hp_lookup.proofs.Words.{NumberedFile, in_cell, in_map, in_place, with_punched, with_truncated}
use Rattle.hp_file.proofs.Drops.{part_at}
use Rattle.hp_file.proofs.Punched.{in_from, in_parts}

-- ---- nothing counts from a place on

module _ {X : Type 0} (c : X → ℕ) (f : X → X) (none : (x : X) → c (f x) ≡ 0) where
  pub none_mapped : (xs : List X) → sum_by c (map f xs) ≡ 0
  none_mapped [] = refl
  none_mapped (x ∷ xs) = (let here = none x in let rest = none_mapped xs in omega (arith, here, rest, sum_by-cons c (f x) (map f xs)))

  pub none_from : (a b : ℕ) (xs : List X) → length xs ≤ b → sum_by c (edit_range f a b xs) ≡ sum_by c (take a xs)
  none_from a b xs l = grind (arith, common_steps, sum_by-edit_range, none_mapped, length-drop, nil_from_length)

  pub none_all : (a b : ℕ) (xs : List X) → a ≡ 0 → length xs ≤ b → sum_by c (edit_range f a b xs) ≡ 0
  none_all a b xs e l = none_from a b xs l ∙ ap (λ k. sum_by c (take k xs)) e ∙ first xs
    where
      first : (xs : List X) → sum_by c (take 0 xs) ≡ 0
      first [] = refl
      first (x ∷ xs) = refl

punched_cell : (n : ℕ) (x : Cell ℕ) → in_cell n (cell_punched x) ≡ 0
punched_cell n Hole = refl
punched_cell n Entered = refl
punched_cell n (Present k) = refl

pub punched_place : (n : ℕ) (p : Place ℕ) → in_place n (without_copy p) ≡ 0
punched_place n Gone = refl
punched_place n (Live c o) = refl

-- all pages of a file, and all copies of a map
pub no_pages : (n len : ℕ) (cells : List (Cell ℕ)) → len ≡ length cells → sum_by (in_cell n) (edit_range cell_punched 0 len cells) ≡ 0
no_pages n len cells e = none_all (in_cell n) cell_punched (punched_cell n) 0 len cells refl (omega (arith, e))

pub no_copies : (n a b : ℕ) (m : Mapping ℕ) → a ≡ m.start → b ≡ m.start + length m.places → in_map n (map_punched a b m) ≡ 0
no_copies n a b m a_is b_is = none_all (in_place n) without_copy (punched_place n) (a - m.start) (b - m.start) m.places (omega (arith, a_is)) (omega (arith, b_is))

-- ---- as code cuts a file: pages go, then entries, and then the length

module _ (n end : ℕ) (cells bare gone : List (Cell ℕ)) (end_is : end ≡ length cells) (bare_is : bare ≡ edit_range cell_punched n (n + end) cells) where
  bare_long : length bare ≡ length cells
  bare_long = ap length bare_is ∙ length-edit_range cell_punched n (n + end) cells

  no_page : (c : Cell ℕ) → has_page (cell_punched c) ≡ false
  no_page Hole = refl
  no_page Entered = refl
  no_page (Present k) = refl

  bare_at : (i : ℕ) → slice_index_or bare i Hole ≡ (if is_in n (n + end) i then cell_punched (slice_index_or cells i Hole) else slice_index_or cells i Hole)
  bare_at i = ap (λ cs. slice_index_or cs i Hole) bare_is ∙ ranged cell_punched n (n + end) cells i Hole refl

  bare_past : (i : ℕ) → n ≤ i → i < end → has_page (slice_index_or bare i Hole) ≡ false
  bare_past i from below = ap has_page (bare_at i ∙ ap (λ b. cond b (cell_punched (slice_index_or cells i Hole)) (slice_index_or cells i Hole))
      (in_from n (n + end) i from (omega (arith, below)))) ∙ no_page (slice_index_or cells i Hole)

  pub bare_pages : (m : ℕ) → m ≡ min n end → All (λ (c : Cell ℕ). has_page c ≡ false) (part m end bare)
  bare_pages m m_is k d l =
      let at = part_at bare m end k l in
      let below = at.2 in
      ap has_page (get_or_default (part m end bare) k d Hole l ∙ at.0) ∙ bare_past (m + k) (omega (arith, m_is, below)) below

  module _ (m : ℕ) (m_is : m ≡ min n end) (gone_is : gone ≡ edit_range (λ c. Hole) m end bare) where
    gone_long : length gone ≡ length cells
    gone_long = ap length gone_is ∙ length-edit_range (λ c. Hole) m end bare ∙ bare_long

    gone_at : (i : ℕ) → slice_index_or gone i Hole ≡ (if is_in m end i then Hole else slice_index_or bare i Hole)
    gone_at i = ap (λ cs. slice_index_or cs i Hole) gone_is ∙ ranged (λ c. Hole) m end bare i Hole refl

    gone_past : (i : ℕ) → n ≤ i → i < end → slice_index_or gone i Hole ≡ Hole
    gone_past i from below = gone_at i ∙ ap (λ b. cond b Hole (slice_index_or bare i Hole)) (in_from m end i (omega (arith, from, m_is)) below)

    pub gone_holes : All (λ (c : Cell ℕ). c ≡ Hole) (drop n gone)
    gone_holes k d l =
        let deep = length-drop n gone in
        let long = gone_long in
        get_or_default (drop n gone) k d Hole l ∙ get_or-drop n gone k Hole ∙ gone_past (n + k) (omega arith) (omega (arith, l, deep, long, end_is))

    out_of : (a b i : ℕ) → ((a ≤ i) × (i < b) → ⊥) → is_in a b i ≡ false
    out_of a b i out = by (is_in a b i) refl
      where
        by : (c : Bool) → is_in a b i ≡ c → is_in a b i ≡ false
        by true e = absurd (out (in_parts a b i e))
        by false e = e

    gone_before : (i : ℕ) → i < n → i < end → slice_index_or gone i Hole ≡ slice_index_or cells i Hole
    gone_before i l below =
        gone_at i ∙ ap (λ b. cond b Hole (slice_index_or bare i Hole)) (out_of m end i (λ p. (let low = p.0 in omega (arith, low, l, below, m_is))))
        ∙ bare_at i ∙ ap (λ b. cond b (cell_punched (slice_index_or cells i Hole)) (slice_index_or cells i Hole)) (out_of n (n + end) i (λ p. (let low = p.0 in omega (arith, low, l))))

    pub cut_is : cells_to n gone ≡ cells_to n cells
    cut_is = grind (arith, common_steps, length-take, gone_long, same_lists, get_or-take, get_or_default, gone_before)

  -- a page stands where it stands after the cut
  pub cut_holds : (k : ℕ) → sum_by (in_cell k) (cells_to n cells) ≡ sum_by (in_cell k) bare
  cut_holds k =
      let kept = none_from (in_cell k) cell_punched (punched_cell k) n (n + end) cells (omega (arith, end_is)) in
      let same = ap (sum_by (in_cell k)) bare_is in
      let both = sum_by-append (in_cell k) (take n cells) (replicate (n - length cells) Hole) in
      let holes = none_there (n - length cells) in
      omega (arith, kept, same, both, holes)
    where
      none_there : (r : ℕ) → sum_by (in_cell k) (replicate r Hole) ≡ 0
      none_there zero = refl
      none_there (suc r) = (let rest = none_there r in omega (arith, rest, sum_by-cons (in_cell k) Hole (replicate r Hole)))

-- ---- what waits for a page, once all pages went

entered_punched : (c : Cell ℕ) → cond {A = ℕ} (is_entered (cell_punched c)) 1 0 ≡ cond (is_waiting c) 1 0
entered_punched Hole = refl
entered_punched Entered = refl
entered_punched (Present k) = refl

waiting_mapped : (cells : List (Cell ℕ)) → count_by is_entered (map cell_punched cells) ≡ count_by is_waiting cells
waiting_mapped [] = refl
waiting_mapped (x ∷ xs) =
    let here = entered_punched x in
    let rest = waiting_mapped xs in
    omega (arith, here, rest, count_cons is_entered (cell_punched x) (map cell_punched xs), count_cons is_waiting x xs)

module _ {X : Type 0} (f : X → X) where
  taken : (xs : List X) → map f (take (length xs) xs) ++ drop (length xs) xs ≡ map f xs
  taken [] = refl
  taken (x ∷ xs) = ap (λ ys. f x ∷ ys) (taken xs)

  -- all of a list is edited
  edited_all : (xs : List X) → take 0 xs ++ map f (take (length xs) (drop 0 xs)) ++ drop (length xs) (drop 0 xs) ≡ map f xs
  edited_all [] = refl
  edited_all (x ∷ xs) = ap (λ ys. f x ∷ ys) (taken xs)

  all_taken : (xs : List X) → take (length xs) (map f xs) ≡ map f xs
  all_taken [] = refl
  all_taken (x ∷ xs) = ap (λ ys. f x ∷ ys) (all_taken xs)

  all_part : (xs : List X) → take (length xs) (drop 0 (map f xs)) ≡ map f xs
  all_part [] = refl
  all_part (x ∷ xs) = ap (λ ys. f x ∷ ys) (all_taken xs)

pub all_waiting : (len : ℕ) (cells bare : List (Cell ℕ)) → len ≡ length cells → bare ≡ edit_range cell_punched 0 len cells → count_by is_entered (part 0 len bare) ≡ count_by is_waiting cells
all_waiting len cells bare len_is bare_is = grind (arith, common_steps, edited_all, all_part, waiting_mapped)

pub cut_file : (n end : ℕ) (old left : NumberedFile) (cells : List (Cell ℕ)) → end ≡ length old.cells → left ≡ with_punched n (n + end) old →
    cells ≡ cells_to n old.cells → record left { cells = cells } ≡ with_truncated n old
cut_file n end old left cells end_is left_is cells_is = grind (arith, common_steps)
