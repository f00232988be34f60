-- How many indices have a page, through each change of the cells.
use Rattle.std.proofs.Common.{◌≡◌, ℕ, ◌+◌, ◌-◌, ◌<◌, ◌≤◌, true, false, cond, List, [], ◌∷◌, length, take, drop, map, set, replicate, refl, sym, ap, ◌∙◌, arith, ⊎_elim, All, count_by}
use Rattle.std.proofs.lemmas.Bool.{cases_lt, false≢true}
use Rattle.std.proofs.lemmas.List.{get_or_past}
use Rattle.std.proofs.lemmas.List.Elements.{All-head, All-tail}
use Rattle.std.proofs.lemmas.List.Folds.{sum_by-replicate}
use Rattle.std.proofs.lemmas.List.Sums.{sum_by-append, sum_by-set, sum_by-take-drop}
use Rattle.hp_model.proofs.Counting.{count_alike, count_cons, count_map}
use Rattle.hp_model.proofs.Editing.{sum_by-edit_range}
use Rattle.hp_model.specs.declared.cell.Cell.{Cell}
use Rattle.hp_model.specs.declared.cell.Cell.TheVariants.{Hole, Entered, Present}
use Rattle.hp_model.proofs.Words.{at_least, cell_in, cells_to, edit_range, entered, has_page, is_entered, part}

abbrev one : Cell ℕ → ℕ
one c = cond (has_page c) 1 0

abbrev hole : Cell ℕ
hole = Hole

-- one cell for another
pub set_paged : (xs : List (Cell ℕ)) (i : ℕ) (y : Cell ℕ) → i < length xs → count_by has_page (set xs i y) + one (cell_in xs i) ≡ count_by has_page xs + one y
set_paged xs i y l = sum_by-set one xs i y Hole l

none_paged : (xs : List (Cell ℕ)) → All (λ (c : Cell ℕ). has_page c ≡ false) xs → count_by has_page xs ≡ 0
none_paged [] none = refl
none_paged (c ∷ cs) none =
    let first = ap (λ b. cond {A = ℕ} b 1 0) (All-head (λ (x : Cell ℕ). has_page x ≡ false) c cs none) in
    let rest = none_paged cs (All-tail (λ (x : Cell ℕ). has_page x ≡ false) c cs none) in
    omega (arith, count_cons has_page c cs, first, rest)

holes_paged : (xs : List (Cell ℕ)) → All (λ (c : Cell ℕ). c ≡ Hole) xs → count_by has_page xs ≡ 0
holes_paged [] none = refl
holes_paged (c ∷ cs) none =
    let first = ap one (All-head (λ (x : Cell ℕ). x ≡ Hole) c cs none) in
    let rest = holes_paged cs (All-tail (λ (x : Cell ℕ). x ≡ Hole) c cs none) in
    omega (arith, count_cons has_page c cs, first, rest)

no_holes : (n : ℕ) → count_by has_page (replicate n hole) ≡ 0
no_holes n = omega (arith, sum_by-replicate one n Hole)

-- a change of a range that leaves as many pages there
edited : (f : Cell ℕ → Cell ℕ) (a b : ℕ) (xs : List (Cell ℕ)) → count_by has_page (map f (part a b xs)) ≡ count_by has_page (part a b xs) →
    count_by has_page (edit_range f a b xs) ≡ count_by has_page xs
edited f a b xs same = omega (arith, same, sum_by-edit_range one f a b xs, sum_by-take-drop one xs a, sum_by-take-drop one (drop a xs) (b - a))

same_page : (c : Cell ℕ) → has_page (entered c) ≡ has_page c
same_page Hole = refl
same_page Entered = refl
same_page (Present page) = refl

-- entered
pub entered_paged : (a b : ℕ) (xs : List (Cell ℕ)) → count_by has_page (edit_range entered a b xs) ≡ count_by has_page xs
entered_paged a b xs = edited entered a b xs (count_map has_page entered (part a b xs) ∙ count_alike (λ c. has_page (entered c)) has_page same_page (part a b xs))

all_holes : (xs : List (Cell ℕ)) → count_by has_page (map (λ c. hole) xs) ≡ 0
all_holes [] = refl
all_holes (c ∷ cs) = omega (arith, count_cons has_page hole (map (λ (x : Cell ℕ). hole) cs), all_holes cs)

-- left, where there was no page
pub dropped_paged : (a b : ℕ) (xs : List (Cell ℕ)) → All (λ (c : Cell ℕ). has_page c ≡ false) (part a b xs) → count_by has_page (edit_range (λ c. Hole) a b xs) ≡ count_by has_page xs
dropped_paged a b xs none = edited (λ c. Hole) a b xs (all_holes (part a b xs) ∙ sym (none_paged (part a b xs) none))

-- made longer by holes, or shorter by holes alone
pub resized_paged : (n : ℕ) (xs : List (Cell ℕ)) → All (λ (c : Cell ℕ). c ≡ Hole) (drop n xs) → count_by has_page (cells_to n xs) ≡ count_by has_page xs
resized_paged n xs holes =
    omega (arith, sum_by-append one (take n xs) (replicate (n - length xs) Hole), no_holes (n - length xs), sum_by-take-drop one xs n, holes_paged (drop n xs) holes)

pub longer_paged : (n : ℕ) (xs : List (Cell ℕ)) → count_by has_page (at_least n xs) ≡ count_by has_page xs
longer_paged n xs = omega (arith, sum_by-append one xs (replicate (n - length xs) Hole), no_holes (n - length xs))

-- ---- one page more or less

below_of : (xs : List (Cell ℕ)) (i : ℕ) → is_entered (cell_in xs i) ≡ true → i < length xs
below_of xs i e = ⊎_elim (λ (l : i < length xs). l) (λ (past : length xs ≤ i). absurd (false≢true (ap is_entered (sym (get_or_past xs i Hole past)) ∙ e))) (cases_lt i (length xs))

pub filled_paged : (xs : List (Cell ℕ)) (i page : ℕ) → cell_in xs i ≡ Entered → count_by has_page (set xs i (Present page)) ≡ count_by has_page xs + 1
filled_paged xs i page e = (let was = ap one e in omega (arith, set_paged xs i (Present page) (below_of xs i (ap is_entered e)), was))

pub taken_paged : (xs : List (Cell ℕ)) (i : ℕ) → has_page (cell_in xs i) ≡ true → i < length xs → count_by has_page (set xs i Entered) + 1 ≡ count_by has_page xs
taken_paged xs i e l = (let was = ap (λ b. cond {A = ℕ} b 1 0) e in omega (arith, set_paged xs i Entered l, was))
