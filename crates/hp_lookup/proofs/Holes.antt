use Rattle.std.proofs.lemmas.Grind.{common_steps}
-- How many indices of a range have no entry. Past the end none has.
use Rattle.std.proofs.Common.{◌≡◌, ℕ, zero, suc, ◌+◌, ◌-◌, ◌<◌, ◌≤◌, cond, Option, List, [], ◌∷◌, ◌++◌, length, map, max, min, take, drop, replicate, refl, sym, ap, ◌∙◌, arith, count_by}
use Rattle.std.proofs.lemmas.List.{drop-replicate, take-replicate, length-append, length-drop, length-map, length-replicate, length-take, take_min}
use Rattle.hp_laws.proofs.Variants.{Cell, Entered, Hole, NoReserve, Present, Private, Reserve, Reserving, Shared, Sharing}
use Rattle.hp_model.proofs.Words.{Page, asked, at_least, is_entered, is_hole, new_file, part}
use Rattle.hp_model.proofs.Counting.{count_cons}
use Rattle.hp_store.specs.Store.{Store}
use Rattle.hp_lookup.proofs.Words.{NumberedFile, cell_shown, entered_from, file_at, files_shown, numbered_at}
use Rattle.hp_lookup.proofs.Cells.{file_is}

none_taken : (P : Type 0) (n k : ℕ) → count_by is_entered (take n (replicate {A = Cell P} k Hole)) ≡ 0
none_taken P zero k = refl
none_taken P (suc n) zero = refl
none_taken P (suc n) (suc k) = none_taken P n k

nil_taken : (P : Type 0) (a n : ℕ) → count_by is_entered (take n (drop {A = Cell P} a [])) ≡ 0
nil_taken P zero zero = refl
nil_taken P zero (suc n) = refl
nil_taken P (suc a) zero = refl
nil_taken P (suc a) (suc n) = refl

module _ {P : Type 0} where
  -- holes behind the cells are not entered
  entered_behind : (cells : List (Cell P)) (a n r : ℕ) → count_by is_entered (take n (drop a (cells ++ replicate r Hole))) ≡ count_by is_entered (take n (drop a cells))
  entered_behind [] a n r = ap (λ xs. count_by is_entered (take n xs)) (drop-replicate a r Hole) ∙ none_taken P n (r - a) ∙ sym (nil_taken P a n)
  entered_behind (c ∷ cells) zero zero r = refl
  entered_behind (c ∷ cells) zero (suc n) r = (let rest = entered_behind cells zero n r in
      omega (arith, rest, count_cons is_entered c (take n (cells ++ replicate r Hole)), count_cons is_entered c (take n cells)))
  entered_behind (c ∷ cells) (suc a) n r = entered_behind cells a n r

  either_counts : (cells : List (Cell P)) → count_by is_hole cells + count_by is_entered cells ≡ length cells
  either_counts [] = refl
  either_counts (Hole ∷ cells) = omega (arith, either_counts cells, count_cons is_hole Hole cells, count_cons is_entered Hole cells)
  either_counts (Entered ∷ cells) = omega (arith, either_counts cells, count_cons is_hole Entered cells, count_cons is_entered Entered cells)
  either_counts (Present page ∷ cells) = omega (arith, either_counts cells, count_cons is_hole (Present page) cells, count_cons is_entered (Present page) cells)

  -- those below the end, and those past it
  pub holes_known : (cells : List (Cell P)) (a b known missing : ℕ) → a ≤ b → known ≡ min b (length cells) →
      missing ≡ count_by is_hole (part a known cells) → missing + (b - max known a) ≡ count_by is_hole (take (b - a) (drop a (at_least b cells)))
  holes_known cells a b known missing order known_is missing_is = grind (arith, common_steps, either_counts, length-take, length-drop, length-append, length-replicate, take_min, entered_behind)

hole_shown : (s : Store) (c : Cell ℕ) → is_hole (cell_shown s c) ≡ is_hole c
hole_shown s Hole = refl
hole_shown s Entered = refl
hole_shown s (Present n) = refl

holes_shown : (s : Store) (cells : List (Cell ℕ)) (a n r : ℕ) → count_by is_hole (take n (drop a (map (cell_shown s) cells ++ replicate r Hole)))
    ≡ count_by is_hole (take n (drop a (cells ++ replicate r Hole)))
holes_shown s [] a n r = ap (λ xs. count_by is_hole (take n xs)) (drop-replicate a r Hole) ∙ behind n (r - a) ∙ sym (ap (λ xs. count_by is_hole (take n xs)) (drop-replicate a r Hole))
  where
    behind : (n k : ℕ) → count_by (is_hole {P = Page}) (take n (replicate {A = Cell Page} k Hole)) ≡ count_by (is_hole {P = ℕ}) (take n (replicate {A = Cell ℕ} k Hole))
    behind zero k = refl
    behind (suc n) zero = refl
    behind (suc n) (suc k) = (let rest = behind n k in omega (
      arith,
      rest,
      count_cons is_hole Hole (take n (replicate {A = Cell Page} k Hole)),
      count_cons is_hole Hole (take n (replicate {A = Cell ℕ} k Hole)),
    ))
holes_shown s (c ∷ cells) zero zero r = refl
holes_shown s (c ∷ cells) zero (suc n) r =
    let rest = holes_shown s cells zero n r in
    let same = ap (λ b. cond {A = ℕ} b 1 0 + 0) (hole_shown s c) in
    omega (arith, rest, same, count_cons is_hole (cell_shown s c) (take n (map (cell_shown s) cells ++ replicate r Hole)), count_cons is_hole c (take n (cells ++ replicate r Hole)))
holes_shown s (c ∷ cells) (suc a) n r = holes_shown s cells a n r

pub asked_shown : (s : Store) (fs : List NumberedFile) (k a n b : ℕ) → k < length fs → b ≡ a + n →
    count_by is_hole (take (b - a) (drop a (at_least b (numbered_at fs k).cells))) ≡ asked Shared Reserve a n (file_at (files_shown s fs) k)
asked_shown s fs k a n b l e =
    let cells = (numbered_at fs k).cells in
    let wide : b - a ≡ n = omega (arith, e) in
    let long = length-map cells (cell_shown s) in
    ap (λ m. count_by is_hole (take m (drop a (at_least b cells)))) wide ∙ ap (λ m. count_by is_hole (take n (drop a (at_least m cells)))) e
    ∙ sym (holes_shown s cells a n (a + n - length cells))
    ∙ ap (λ m. count_by is_hole (take n (drop a (map (cell_shown s) cells ++ replicate (a + n - m) Hole)))) (sym long)
    ∙ ap (λ f. asked Shared Reserve a n f) (sym (file_is s fs k l))

-- what a shared map asks for: nothing, where it reserves nothing
pub wanted_shown : (reserving : Reserving) (s : Store) (fs : List NumberedFile) (k a n b : ℕ) → k < length fs → b ≡ a + n
    → count_by is_hole (take (b - entered_from Shared reserving a n) (drop (entered_from Shared reserving a n) (at_least b (numbered_at fs k).cells)))
    ≡ asked Shared reserving a n (file_at (files_shown s fs) k)
wanted_shown Reserve s fs k a n b l e = asked_shown s fs k a n b l e
wanted_shown NoReserve s fs k a n b l e =
    let none : b - (a + n) ≡ 0 = omega (arith, e) in
    ap (λ m. count_by is_hole (take m (drop (a + n) (at_least b (numbered_at fs k).cells)))) none

-- what a map asks for in a file without entries
pub asked_alone : (sharing : Sharing) (name : Option (List ℕ)) (a n : ℕ) → asked sharing Reserve a n (new_file name) ≡ n
asked_alone Private name a n = refl
asked_alone Shared name a n =
    let wide : n ≤ a + n - a = omega arith in
    let all : a + n - 0 ≡ a + n = omega arith in
    ap (λ m. count_by is_hole (take n (drop a (replicate {A = Cell Page} m Hole)))) all
    ∙ ap (λ (xs : List (Cell Page)). count_by is_hole (take n xs)) (drop-replicate a (a + n) Hole) ∙ ap (count_by is_hole) (take-replicate n (a + n - a) Hole wide) ∙ all_holes n
  where
    all_holes : (n : ℕ) → count_by is_hole (replicate {A = Cell Page} n Hole) ≡ n
    all_holes zero = refl
    all_holes (suc n) = (let rest = all_holes n in omega (arith, rest, count_cons is_hole Hole (replicate {A = Cell Page} n Hole)))
