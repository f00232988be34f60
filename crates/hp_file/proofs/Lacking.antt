use Rattle.std.proofs.lemmas.Grind.{common_steps}
-- How many indices of a range have no page, by those that have one.
use Rattle.std.proofs.Common.{◌≡◌, ℕ, zero, suc, ◌+◌, ◌-◌, ◌≤◌, min, List, [], ◌∷◌, ◌++◌, length, take, drop, replicate, refl, ap, ◌∙◌, arith, count_by}
use Rattle.std.proofs.lemmas.Bool.{cases_lt}
use Rattle.std.proofs.lemmas.List.{drop-take, length-append, length-drop, length-replicate, length-take, take_all}
use Rattle.std.proofs.lemmas.List.Sums.{sum_by-take-drop}
use Rattle.hp_laws.proofs.Variants.{Cell, Hole}
use Rattle.hp_model.proofs.Words.{at_least, has_page, lacks_page, part}
use Rattle.hp_model.proofs.Counting.{count_cons, count_not}

-- how many of the first n have a page
abbrev paged_to : ℕ → List (Cell ℕ) → ℕ
paged_to n cells = count_by has_page (take n cells)

take_twice : (xs : List (Cell ℕ)) (a n : ℕ) → a ≤ n → take a (take n xs) ≡ take a xs
take_twice [] zero zero le = refl
take_twice [] zero (suc n) le = refl
take_twice [] (suc a) zero le = refl
take_twice [] (suc a) (suc n) le = refl
take_twice (x ∷ xs) zero n le = refl
take_twice (x ∷ xs) (suc a) zero le = absurd (omega (arith, le))
take_twice (x ∷ xs) (suc a) (suc n) le = ap (λ ys. x ∷ ys) (take_twice xs a n (omega (arith, le)))

paged_part : (xs : List (Cell ℕ)) (a n : ℕ) → a ≤ n → paged_to a xs + count_by has_page (part a n xs) ≡ paged_to n xs
paged_part xs a n le = grind (arith, common_steps, sum_by-take-drop, take_twice, drop-take)

abbrev hole : Cell ℕ
hole = Hole

none_in_holes : (r n : ℕ) → count_by has_page (take n (replicate r hole)) ≡ 0
none_in_holes zero zero = refl
none_in_holes zero (suc n) = refl
none_in_holes (suc r) zero = refl
none_in_holes (suc r) (suc n) = omega (arith, none_in_holes r n, count_cons has_page hole (take n (replicate r hole)))

-- past the end none has one
paged_longer : (cells : List (Cell ℕ)) (r n : ℕ) → paged_to n (cells ++ replicate r Hole) ≡ paged_to n cells
paged_longer [] r zero = none_in_holes r zero
paged_longer [] r (suc n) = none_in_holes r (suc n)
paged_longer (c ∷ cells) r zero = refl
paged_longer (c ∷ cells) r (suc n) = omega (arith, paged_longer cells r n, count_cons has_page c (take n (cells ++ replicate r Hole)), count_cons has_page c (take n cells))

-- a part up to the end is the whole part
same_part : (cells : List (Cell ℕ)) (a b : ℕ) → part a (min (length cells) b) cells ≡ part a b cells
same_part cells a b = grind (arith, common_steps, length-drop, take_all, cases_lt)

pub lacking_all : (cells : List (Cell ℕ)) (a b : ℕ) → a ≤ b →
    count_by has_page (part a (min (length cells) b) cells) + count_by lacks_page (part a b (at_least b cells)) ≡ b - a
lacking_all cells a b order =
    let xs : List (Cell ℕ) = at_least b cells in
    let long = length-append cells (replicate (b - length cells) Hole) in
    let more = length-replicate {A = Cell ℕ} (b - length cells) Hole in
    let wide : length (part a b xs) ≡ b - a = length-take (b - a) (drop a xs) ∙ omega (arith, length-drop a xs, long, more, order) in
    let low = paged_longer cells (b - length cells) a in
    let high = paged_longer cells (b - length cells) b in
    omega (arith, wide, count_not has_page (part a b xs), paged_part xs a b order, paged_part cells a b order, low, high, ap (count_by has_page) (same_part cells a b))
