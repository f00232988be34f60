use Rattle.std.proofs.lemmas.Grind.{common_steps}
-- Pages put at the lowest indices of a file that have none, by what is left to do.
use Rattle.std.proofs.Common.{◌≡◌, ◌≢◌, ℕ, zero, suc, ◌+◌, ◌-◌, ◌<◌, ◌≤◌, ⊎_elim, true, false, cond, not, List, [], ◌∷◌, ◌++◌, length, map, take, drop, refl, sym, ap, subst, ◌∙◌, arith, slice_set}
use Rattle.std.proofs.Common.{count_by}
use Rattle.std.specs.List.{position_or_len}
use Rattle.std.proofs.lemmas.Bool.{cases_eq, cases_lt}
use Rattle.std.proofs.lemmas.List.{drop-set-add, drop-set-lt, drop_more, get_or-drop, get_or-set_other, get_or-set_same}
use Rattle.std.proofs.lemmas.List.{length-drop, length-set, length-take, set-set, take-append-drop, take-set-le}
use Rattle.std.proofs.lemmas.List.Sums.{position_or_len_is}
use Rattle.std.proofs.Math.Seq.{drop-append_seam, take-append_seam}
use Rattle.hp_laws.proofs.Variants.{Cell, Entered, Hole, Present}
use Rattle.hp_model.proofs.Words.{Page, cell_in, cells_filled, edit_range, entered, has_page, is_entered, lacks_page, next_bare, part, zero_page}
use Rattle.hp_model.proofs.Counting.{count_cons}
use Rattle.hp_file.specs.declared.file.CellState.{CellState}
use Rattle.hp_file.specs.declared.file.CellState.TheVariants as state
use Rattle.hp_lookup.proofs.Words.{Files, file_at, filled_at}
use Rattle.hp_file.specs.States.{IsState}

abbrev pub zeros_of : (size : ℕ) → List Page → List Page
zeros_of size pages = map (λ (page : Page). zero_page size page.node) pages

-- ---- the loop that puts them

-- from a up to i all indices have pages; those from i up to b have entries, and so many no page as pages are left
pub record IsPutting (size a b i : ℕ) (old now : List (Cell Page)) (all left : List Page) : Type 0 where
  pub passed : (j : ℕ) → a ≤ j → j < i → has_page (cell_in now j) ≡ true
  pub ahead : (j : ℕ) → i ≤ j → j < b → is_entered (cell_in now j) ≡ true
  pub long : b ≤ length now
  pub filled : cells_filled a (zeros_of size left) now ≡ cells_filled a (zeros_of size all) old
  pub count : length left ≡ count_by lacks_page (part i b now)

-- the rest of a range, by its first index
part_first : (i b : ℕ) (xs : List (Cell Page)) → i < b → b ≤ length xs → count_by lacks_page (part i b xs) ≡ cond (lacks_page (cell_in xs i)) 1 0 + count_by lacks_page (part (i + 1) b xs)
part_first i b xs high long =
    let n : b - i ≡ suc (b - (i + 1)) = omega (arith, high) in
    ap (λ k. count_by lacks_page (take k (drop i xs))) n ∙ ap (λ ys. count_by lacks_page (take (suc (b - (i + 1))) ys)) (drop_more xs i Hole (omega (arith, high, long)))
    ∙ count_cons lacks_page (cell_in xs i) (part (i + 1) b xs)

module _ (size a b i : ℕ) (old now : List (Cell Page)) (all left : List Page) (is : IsPutting size a b i old now all left) (low : a ≤ i) (high : i < b) where
  below : i < length now
  below = (let long = is.long in omega (arith, high, long))

  first : length left ≡ cond (lacks_page (cell_in now i)) 1 0 + count_by lacks_page (part (i + 1) b now)
  first = is.count ∙ part_first i b now high is.long

  reach : (f : Cell Page) → cell_in now i ≡ f → has_page f ≡ true → (j : ℕ) → a ≤ j → j < i + 1 → has_page (cell_in now j) ≡ true
  reach f here has j from upto = ⊎_elim
      (λ (same : j ≡ i). ap (λ k. has_page (cell_in now k)) same ∙ ap has_page here ∙ has)
      (λ (other : j ≢ i). is.passed j from (before other)) (cases_eq j i)
    where
      before : j ≢ i → j < i
      before other = ⊎_elim (λ (l : j < i). l) (λ (l : i ≤ j). absurd (other (omega (arith, l, upto)))) (cases_lt j i)

  -- an index that has a page
  pub putting_passes : (p : Page) → cell_in now i ≡ Present p → IsPutting size a b (i + 1) old now all left
  putting_passes p here =
      let count = first in
      let none = ap (λ c. cond {A = ℕ} (lacks_page c) 1 0) here in
      record {
        passed = reach (Present p) here refl;
        ahead = λ j from to. is.ahead j (omega (arith, from)) to;
        long = is.long;
        filled = is.filled;
        count = omega (arith, count, none);
      }

  -- none is a hole
  pub putting_no_hole : cell_in now i ≡ Hole → ⊥
  putting_no_hole here = (let clash : false ≡ true = sym (ap is_entered here) ∙ is.ahead i (omega arith) high in cc)

  module _ (here : cell_in now i ≡ Entered) where
    -- there is a page for it
    pub putting_some : 0 < length left
    putting_some = (let count = first in let one = ap (λ c. cond {A = ℕ} (lacks_page c) 1 0) here in omega (arith, count, one))

    lowest : next_bare a now ≡ i
    lowest =
        let j : ℕ = i - a in
        let at : a + j ≡ i = omega (arith, low) in
        let within = below in
        let first = position_or_len_is lacks_page (drop a now) j Hole (omega (arith, within, low, length-drop a now))
        (λ k less. (let before : a + k < i = omega (arith, less) in ap lacks_page (get_or-drop a now k Hole) ∙ ap not (is.passed (a + k) (omega arith) before)))
        (λ l. ap lacks_page (get_or-drop a now j Hole ∙ ap (cell_in now) at ∙ here)) in
        ap (λ k. a + k) first ∙ at

    -- an index that has none gets the next
    module _ (p q : Page) (rest : List Page) (left_is : left ≡ p ∷ rest) (q_is : q ≡ zero_page size p.node) where
      abbrev next : List (Cell Page)
      next = slice_set now i (Present q)

      own : cell_in next i ≡ Present q
      own = get_or-set_same now i (Present q) Hole below

      other : (j : ℕ) → j ≢ i → cell_in next j ≡ cell_in now j
      other j apart = get_or-set_other now i j (Present q) Hole apart

      pub putting_puts : IsPutting size a b (i + 1) old next all rest
      putting_puts =
          let count = first in
          let one = ap (λ c. cond {A = ℕ} (lacks_page c) 1 0) here in
          let fewer = ap length left_is in
          let same = ap (λ ys. count_by lacks_page (take (b - (i + 1)) ys)) (drop-set-lt (i + 1) now i (Present q) (omega arith)) in
          let wide = length-set now i (Present q) in
          let enough = is.long in
          record {
            passed = λ j from upto. ⊎_elim
                (λ (e : j ≡ i). ap (λ k. has_page (cell_in next k)) e ∙ ap has_page own)
                (λ (apart : j ≢ i). ap has_page (other j apart) ∙ is.passed j from (earlier j upto apart)) (cases_eq j i);
            ahead = λ j from to. ap is_entered (other j (λ e. absurd (omega (arith, e, from)))) ∙ is.ahead j (omega (arith, from)) to;
            long = omega (arith, wide, enough);
            filled =
                ap (λ c. cells_filled a (zeros_of size rest) (slice_set now i (Present c))) q_is
                ∙ ap (λ k. cells_filled a (zeros_of size rest) (slice_set now k (Present (zero_page size p.node)))) (sym lowest)
                ∙ sym (ap (λ ps. cells_filled a (zeros_of size ps) now) left_is) ∙ is.filled;
            count = omega (arith, count, one, fewer, same);
          }
        where
          earlier : (j : ℕ) → j < i + 1 → j ≢ i → j < i
          earlier j upto apart = ⊎_elim (λ (l : j < i). l) (λ (l : i ≤ j). absurd (apart (omega (arith, l, upto)))) (cases_lt j i)

present_of : (c : Cell Page) → has_page c ≡ true → (p : Page) × (c ≡ Present p)
present_of Hole has = (let clash : false ≡ true = has in cc)
present_of Entered has = (let clash : false ≡ true = has in cc)
present_of (Present p) has = (p, refl)

-- indices that have pages
pub putting_skips : (size a b i : ℕ) (old now : List (Cell Page)) (all left : List Page) (n : ℕ) → IsPutting size a b i old now all left → a ≤ i → i + n ≤ b
    → ((j : ℕ) → i ≤ j → j < i + n → has_page (cell_in now j) ≡ true) → IsPutting size a b (i + n) old now all left
putting_skips size a b i old now all left zero is low high paged = subst (λ m. IsPutting size a b m old now all left) {x = i} {y = i + 0} (omega arith) is
putting_skips size a b i old now all left (suc n) is low high paged =
    let here = present_of (cell_in now i) (paged i (omega arith) (omega arith)) in
    let next = putting_passes size a b i old now all left is low (omega (arith, high)) here.0 here.1 in
    subst (λ m. IsPutting size a b m old now all left) {x = i + 1 + n} {y = i + suc n} (omega arith)
    (putting_skips size a b (i + 1) old now all left n next (omega (arith, low)) (omega (arith, high)) (λ j from below. paged j (omega (arith, from)) (omega (arith, below))))

-- an index that needs none
pub putting_stays : (size a b i : ℕ) (old now : List (Cell Page)) (all left : List Page) → IsPutting size a b i old now all left → a ≤ i → i < b
    → (r : CellState) → (r ≡ state.Entered → ⊥) → IsState r (cell_in now i) → IsPutting size a b (i + 1) old now all left
putting_stays size a b i old now all left is low high state.Hole other here = absurd (putting_no_hole size a b i old now all left is low high here)
putting_stays size a b i old now all left is low high state.Entered other here = absurd (other refl)
putting_stays size a b i old now all left is low high state.Present other here = putting_passes size a b i old now all left is low high here.0 here.1

-- the file that gets a page, and all files
module _ (k i : ℕ) (q : Page) (old now new : Files) (l : k < length old.files) (new_is : new ≡ filled_at k i q now)
    (now_is : now.files ≡ slice_set old.files k (record (file_at old.files k) { cells = (file_at now.files k).cells })) where
  abbrev cells : List (Cell Page)
  cells = (file_at now.files k).cells

  pub cells_put : (file_at new.files k).cells ≡ slice_set cells i (Present q)
  cells_put = grind (arith, common_steps, length-set, get_or-set_same)

  pub files_put : new.files ≡ slice_set old.files k (record (file_at old.files k) { cells = (file_at new.files k).cells })
  files_put = grind (arith, common_steps, get_or-set_same, set-set, cells_put)

-- ---- entries make no difference to indices that get pages

module _ {P : Type 0} where
  abbrev laid : List P → List (Cell P) → List (Cell P)
  laid ps [] = []
  laid [] (c ∷ cs) = c ∷ cs
  laid (p ∷ ps) (Present q ∷ cs) = Present q ∷ laid (p ∷ ps) cs
  laid (p ∷ ps) (Hole ∷ cs) = Present p ∷ laid ps cs
  laid (p ∷ ps) (Entered ∷ cs) = Present p ∷ laid ps cs

  laid_none : (cs : List (Cell P)) → laid [] cs ≡ cs
  laid_none [] = refl
  laid_none (c ∷ cs) = refl

  laid_past : (ps : List P) (q : P) (cs : List (Cell P)) → laid ps (Present q ∷ cs) ≡ Present q ∷ laid ps cs
  laid_past [] q cs = ap (λ ys. Present q ∷ ys) (sym (laid_none cs))
  laid_past (p ∷ ps) q cs = refl

  laid_more : (p : P) (ps : List P) (cs : List (Cell P)) → laid ps (slice_set cs (position_or_len lacks_page cs) (Present p)) ≡ laid (p ∷ ps) cs
  laid_more p [] [] = refl
  laid_more p (q ∷ ps) [] = refl
  laid_more p ps (Hole ∷ cs) = laid_past ps p cs
  laid_more p ps (Entered ∷ cs) = laid_past ps p cs
  laid_more p ps (Present q ∷ cs) =
      let j : ℕ = position_or_len lacks_page cs in
      let next : 1 + j ≡ suc j = omega arith in
      ap (λ k. laid ps (slice_set (Present q ∷ cs) k (Present p))) next ∙ laid_past ps q (slice_set cs j (Present p)) ∙ ap (λ ys. Present q ∷ ys) (laid_more p ps cs)

  filled_laid : (a : ℕ) (ps : List P) (cs : List (Cell P)) → cells_filled a ps cs ≡ take a cs ++ laid ps (drop a cs)
  filled_laid a [] cs = sym (take-append-drop a cs) ∙ ap (λ ys. take a cs ++ ys) (sym (laid_none (drop a cs)))
  filled_laid a (p ∷ ps) cs =
      let j : ℕ = position_or_len lacks_page (drop a cs) in
      filled_laid a ps (slice_set cs (a + j) (Present p))
      ∙ ap (λ ys. ys ++ laid ps (drop a (slice_set cs (a + j) (Present p)))) (take-set-le a cs (a + j) (Present p) (omega arith))
      ∙ ap (λ ys. take a cs ++ laid ps ys) (drop-set-add a cs j (Present p)) ∙ ap (λ ys. take a cs ++ ys) (laid_more p ps (drop a cs))

  laid_entered : (n : ℕ) (ps : List P) (ys : List (Cell P)) → length ps ≡ count_by lacks_page (take n ys) → laid ps (map entered (take n ys) ++ drop n ys) ≡ laid ps ys
  laid_entered zero ps [] e = refl
  laid_entered zero ps (y ∷ ys) e = refl
  laid_entered (suc n) ps [] e = refl
  laid_entered (suc n) [] (Hole ∷ ys) e = absurd (let step = count_cons lacks_page Hole (take n ys) in omega (arith, e, step))
  laid_entered (suc n) [] (Entered ∷ ys) e = absurd (let step = count_cons lacks_page Entered (take n ys) in omega (arith, e, step))
  laid_entered (suc n) (p ∷ ps) (Hole ∷ ys) e = ap (λ zs. Present p ∷ zs) (laid_entered n ps ys (let step = count_cons lacks_page Hole (take n ys) in omega (arith, e, step)))
  laid_entered (suc n) (p ∷ ps) (Entered ∷ ys) e = ap (λ zs. Present p ∷ zs) (laid_entered n ps ys (let step = count_cons lacks_page Entered (take n ys) in omega (arith, e, step)))
  laid_entered (suc n) ps (Present q ∷ ys) e =
      laid_past ps q (map entered (take n ys) ++ drop n ys)
      ∙ ap (λ zs. Present q ∷ zs) (laid_entered n ps ys (let step = count_cons lacks_page (Present q) (take n ys) in omega (arith, e, step)))
      ∙ sym (laid_past ps q ys)

  pub filled_entered : (a b : ℕ) (ps : List P) (xs : List (Cell P)) → a ≤ length xs → length ps ≡ count_by lacks_page (part a b xs)
      → cells_filled a ps (edit_range entered a b xs) ≡ cells_filled a ps xs
  filled_entered a b ps xs long count = grind (arith, common_steps, length-take, filled_laid, take-append_seam, drop-append_seam, laid_entered)

  pub lacks_entered : (c : Cell P) → lacks_page (entered c) ≡ lacks_page c
  lacks_entered Hole = refl
  lacks_entered Entered = refl
  lacks_entered (Present q) = refl
