-- Cells whose indices of a range get pages, each the lowest without one.
use Rattle.std.proofs.Common.{◌≡◌, ⊎_elim, inl, inr, ◌⊎◌, ℕ, zero, suc, ◌+◌, ◌-◌, ◌<◌, ◌≤◌, Bool, true, false, not, ◌==◌, List, [], ◌∷◌, length, take, drop, refl, sym, ap, ◌∙◌, cond, arith, subst}
use Rattle.std.proofs.Common.{All, count_by, slice_set}
use Rattle.std.specs.List.{position_or_len}
use Rattle.std.proofs.lemmas.Bool.{cases_eq, not-true}
use Rattle.std.proofs.lemmas.List.{drop-set-add, get_or-drop, get_or-set_other, get_or-set_same, get_or-take, length-drop, length-set, length-take}
use Rattle.std.proofs.lemmas.List.Elements.{All-head, All-tail}
use Rattle.std.proofs.lemmas.List.Sums.{passes_at_first, sum_by-set}
use Rattle.std.proofs.Math.Seq.{take-set-lt}
use Rattle.hp_laws.proofs.Variants.{Cell, Hole, Present}
use Rattle.hp_model.proofs.Words.{Page, cell_in, cells_filled, has_page, is_entered, is_hole, is_page_at, is_waiting, lacks_page, next_bare, part}
use Rattle.hp_model.proofs.Counting.{count_cons}
use Rattle.hp_laws.proofs.lists.AtMostOne.{bit, some_counted}

-- ---- cells

no_page : (c : Cell Page) → lacks_page c ≡ true → has_page c ≡ false
no_page c lacks = not-true (has_page c) lacks

none_at : (n : ℕ) (c : Cell Page) → has_page c ≡ false → is_page_at n c ≡ false
none_at n c none = grind arith

entered_or_hole : (c : Cell Page) → bit (is_entered c) + bit (is_hole c) ≡ 1
entered_or_hole c = grind arith

hole_lacks : (c : Cell Page) → bit (is_hole c) ≤ bit (lacks_page c)
hole_lacks c = grind arith

pub holes_lack : (xs : List (Cell Page)) → count_by is_hole xs ≤ count_by lacks_page xs
holes_lack [] = omega arith
holes_lack (x ∷ xs) = omega (arith, count_cons is_hole x xs, count_cons lacks_page x xs, hole_lacks x, holes_lack xs)

entry_kind : (c : Cell Page) → bit (is_entered c) ≡ bit (has_page c) + bit (is_waiting c)
entry_kind c = grind arith

-- an entry has a page, or waits for one
pub entries_are : (xs : List (Cell Page)) → count_by is_entered xs ≡ count_by has_page xs + count_by is_waiting xs
entries_are [] = refl
entries_are (x ∷ xs) = omega (arith, count_cons is_entered x xs, count_cons has_page x xs, count_cons is_waiting x xs, entry_kind x, entries_are xs)

-- ---- the lowest of a range

-- what passes among the first k stands there
first_before : {X : Type 0} (p : X → Bool) (k : ℕ) (ys : List X) → 1 ≤ count_by p (take k ys) → (position_or_len p ys < k) × (position_or_len p ys < length ys)
first_before p zero ys some = absurd (omega (arith, some))
first_before p (suc k) [] some = absurd (omega (arith, some))
first_before p (suc k) (y ∷ ys) some = by_test (p y) refl (first_before p k ys)
  where
    by_test : (b : Bool) → p y ≡ b → (1 ≤ count_by p (take k ys) → (position_or_len p ys < k) × (position_or_len p ys < length ys))
        → (cond (not b) (1 + position_or_len p ys) 0 < suc k) × (cond (not b) (1 + position_or_len p ys) 0 < suc (length ys))
    by_test true is rest = (omega arith, omega arith)
    by_test false is rest =
        let none = ap bit is in
        let later = rest (omega (arith, count_cons p y (take k ys), none, some)) in
        let before = later.0 in let there = later.1 in (omega (arith, before), omega (arith, there))

module _ (a b : ℕ) where
  -- how many of the range lack a page
  abbrev pub bare : List (Cell Page) → ℕ
  bare xs = count_by lacks_page (part a b xs)

  -- the lowest that does
  record IsNext (xs : List (Cell Page)) (i : ℕ) : Type 0 where
    pub low : a ≤ i
    pub high : i < b
    pub within : i < length xs
    pub lacks : has_page (cell_in xs i) ≡ false

  next_is : (xs : List (Cell Page)) → 1 ≤ bare xs → IsNext xs (next_bare a xs)
  next_is xs some = grind (arith, first_before, length-drop, no_page, get_or-drop, passes_at_first)

  -- a count over the range, where a cell of it changes
  part_set : (t : Cell Page → Bool) (xs : List (Cell Page)) (j : ℕ) (c : Cell Page) → j < b - a → a + j < length xs
      → count_by t (part a b (slice_set xs (a + j) c)) + bit (t (cell_in xs (a + j))) ≡ count_by t (part a b xs) + bit (t c)
  part_set t xs j c before there = grind (arith, drop-set-add, take-set-lt, sum_by-set, bit, length-take, length-drop, get_or-take, get_or-drop)

  -- one page, at the lowest index
  record Step (xs ys : List (Cell Page)) (p : Page) : Type 0 where
    pub long : length ys ≡ length xs
    pub pages : count_by has_page ys ≡ count_by has_page xs + 1
    pub entries : count_by is_entered ys + count_by is_hole (part a b ys) ≡ count_by is_entered xs + count_by is_hole (part a b xs)
    pub left : bare ys + 1 ≡ bare xs
    pub each : (n : ℕ) → count_by (is_page_at n) ys ≡ count_by (is_page_at n) xs + bit (p.node == n)

  step : (xs : List (Cell Page)) (p : Page) → 1 ≤ bare xs → Step xs (slice_set xs (next_bare a xs) (Present p)) p
  step xs p some = grind (arith, next_is, sum_by-set, bit, part_set, entered_or_hole, length-set, none_at)

  -- so many pages, one after another
  pub record Fill (xs ys : List (Cell Page)) (ps : List Page) : Type 0 where
    pub long : length ys ≡ length xs
    pub pages : count_by has_page ys ≡ count_by has_page xs + length ps
    pub entries : count_by is_entered ys + count_by is_hole (part a b ys) ≡ count_by is_entered xs + count_by is_hole (part a b xs)
    pub left : bare ys + length ps ≡ bare xs
    pub each : (n : ℕ) → count_by (is_page_at n) ys ≡ count_by (is_page_at n) xs + count_by (λ p. p.node == n) ps

  pub fills : (ps : List Page) (xs : List (Cell Page)) → length ps ≤ bare xs → Fill xs (cells_filled a ps xs) ps
  fills [] xs few = record { long = refl; pages = omega arith; entries = refl; left = omega arith; each = λ n. omega arith }
  fills (p ∷ ps) xs few =
      let one = step xs p (omega (arith, few)) in
      let left = one.left in
      let rest = fills ps (slice_set xs (next_bare a xs) (Present p)) (omega (arith, few, left)) in
      let pages = one.pages in
      let more = rest.pages in
      let after = rest.left in
      record {
        long = rest.long ∙ one.long;
        pages = omega (arith, pages, more);
        entries = rest.entries ∙ one.entries;
        left = omega (arith, left, after);
        each = λ n. (let here = one.each n in let then = rest.each n in omega (arith, here, then, count_cons (λ (q : Page). q.node == n) p ps));
      }

  -- ---- index by index

  pub record IsNew (P : Page → Type 0) (xs ys : List (Cell Page)) (j : ℕ) : Type 0 where
    pub low : a ≤ j
    pub high : j < b
    pub lacked : has_page (cell_in xs j) ≡ false
    pub page : Page
    pub is : cell_in ys j ≡ Present page
    pub holds : P page

  pub by_index : (P : Page → Type 0) (ps : List Page) (xs : List (Cell Page)) → All P ps → length ps ≤ bare xs → (j : ℕ)
      → (cell_in (cells_filled a ps xs) j ≡ cell_in xs j) ⊎ IsNew P xs (cells_filled a ps xs) j
  by_index P [] xs all few j = inl refl
  by_index P (p ∷ ps) xs all few j =
      let next = next_is xs (omega (arith, few)) in
      let i : ℕ = next_bare a xs in
      let one : List (Cell Page) = slice_set xs i (Present p) in
      let taken = step xs p (omega (arith, few)) in
      let left = taken.left in
      let end : List (Cell Page) = cells_filled a ps one in
      let here : cell_in one i ≡ Present p = get_or-set_same xs i (Present p) Hole next.within in
      let rest = by_index P ps one (All-tail P p ps all) (omega (arith, few, left)) j in
      elim (cases_eq j i) as (λ _. (cell_in end j ≡ cell_in xs j) ⊎ IsNew P xs end j) [
        | inl same ↦
            let at : cell_in one j ≡ Present p = ap (λ k. cell_in one k) same ∙ here in
            ⊎_elim
            (λ (stays : cell_in end j ≡ cell_in one j). inr (record {
              low = subst (λ k. a ≤ k) (sym same) next.low;
              high = subst (λ k. k < b) (sym same) next.high;
              lacked = ap (λ k. has_page (cell_in xs k)) same ∙ next.lacks;
              page = p;
              is = stays ∙ at;
              holds = All-head P p ps all;
            }))
            (λ new. (let had : has_page (Present p) ≡ false = sym (ap has_page at) ∙ new.lacked in cc)) rest
        | inr other ↦
            let at : cell_in one j ≡ cell_in xs j = get_or-set_other xs i j (Present p) Hole other in
            ⊎_elim (λ (stays : cell_in end j ≡ cell_in one j). inl (stays ∙ at))
            (λ new. inr (record {
              low = new.low;
              high = new.high;
              lacked = sym (ap has_page at) ∙ new.lacked;
              page = new.page;
              is = new.is;
              holds = new.holds;
            })) rest
      ]

  -- where none of the range lacks one, each index has its page
  pub all_there : (xs : List (Cell Page)) → bare xs ≡ 0 → (j : ℕ) → a ≤ j → j < b → j < length xs → has_page (cell_in xs j) ≡ true
  all_there xs none j low high there = by_page (has_page (cell_in xs j)) refl
    where
      by_page : (h : Bool) → has_page (cell_in xs j) ≡ h → has_page (cell_in xs j) ≡ true
      by_page true is = is
      by_page false is =
          let ys : List (Cell Page) = drop a xs in
          let before : j - a < b - a = omega (arith, low, high) in
          let at = get_or-take (b - a) ys (j - a) Hole before ∙ get_or-drop a xs (j - a) Hole ∙ ap (λ k. cell_in xs k) {x = a + (j - a)} {y = j} (omega (arith, low)) in
          let some = some_counted lacks_page Hole (part a b xs) (j - a) (omega (arith, low, high, there, length-take (b - a) ys, length-drop a xs)) (ap lacks_page at ∙ ap not is) in
          absurd (omega (arith, some, none))
