use Rattle.std.proofs.lemmas.Grind.{common_steps}
-- A page of a file, as it is put in and written.
use Rattle.std.proofs.Common.{◌≡◌, ◌≢◌, ℕ, ◌+◌, ◌<◌, ◌≤◌, ◌==◌, ⊎_elim, ◌⊎◌, true, false, Option, None, Some, List, [], length, map, refl, sym, ap, ◌∙◌, arith, slice_set, option_map}
use Rattle.std.proofs.Math.ListN as listn
use Rattle.std.proofs.lemmas.Bool.Decides.{eqb_tells}
use Rattle.std.proofs.lemmas.List.Sums.{sum_by-set}
use Rattle.std.proofs.lemmas.List.{get_or-set_same, get_or-set_other, map-set, get_or-map, length-set}
use Rattle.hp_laws.proofs.Variants.{Cell, Entered, Hole, Present}
use Rattle.hp_model.proofs.Words.{Page, cell_at, cell_in, cell_written, new_file, with_cell}
use Rattle.hp_store.specs.Store.{Store, Holding, page_at, holders_of, first_held, written_in, inserted}
use Rattle.hp_store.specs.Store as store
use Rattle.hp_lookup.proofs.Words.{IsHeld, NumberedFile, cell_shown, file_at, file_shown, files_shown, in_cell, in_cells, in_file, in_files, in_map, map_shown, more_in, numbered_at, page_in}
use Rattle.hp_lookup.proofs.Lifting.{map_same, map_but, at_most, Agree, is_it, is_other, cell_same, map_shows_same, file_same, files_same}

-- ---- one file of a list

abbrev pub no_file : NumberedFile
no_file = record { name = None; cells = []; maps = [] }

pub file_is : (s : Store) (fs : List NumberedFile) (k : ℕ) → k < length fs → file_at (files_shown s fs) k ≡ file_shown s (numbered_at fs k)
file_is s fs k l = get_or-map (file_shown s) fs k no_file (new_file None) l

pub cell_is : (s : Store) (f : NumberedFile) (i : ℕ) → cell_at (file_shown s f) i ≡ cell_shown s (cell_in f.cells i)
cell_is s f i = listn.get_or-map (cell_shown s) f.cells i Hole

pub none_in : (n : ℕ) (fs : List NumberedFile) (k : ℕ) → k < length fs → in_files n fs ≡ 0 → in_file n (numbered_at fs k) ≡ 0
none_in n fs k l e = (let most = at_most (λ (f : NumberedFile). f) (λ f. f) (in_file n) (λ f h. refl) fs k no_file l in omega (arith, most, e))

one_is_none : ◌≡◌ {A = ℕ} 1 0 → ⊥
one_is_none e = cc

-- each page has a holder still, where one more is put in
pub some_put : (n : ℕ) (s t : Store) (agree : Agree n s t) (page : Page) (is : page_at t n ≡ Some (first_held page)) →
    ((m : ℕ) → holders_of (page_at s m) ≡ 0 → page_at s m ≡ None) → (m : ℕ) → holders_of (page_at t m) ≡ 0 → page_at t m ≡ None
some_put n s t agree page is some m none = grind (arith, common_steps, one_is_none, eqb_tells)

abbrev pub with_number : NumberedFile → ℕ → ℕ → NumberedFile
with_number f i n = record f { cells = slice_set f.cells i (Present n) }

-- ---- a page is put in

module _ (n : ℕ) (s t : Store) (agree : Agree n s t) (page : Page) (is : page_at t n ≡ Some (first_held page)) (fs : List NumberedFile) (k i : ℕ) (l : k < length fs) (fresh : in_files n fs ≡ 0) where
  abbrev f : NumberedFile
  f = numbered_at fs k

  pub fill_shows : files_shown t (slice_set fs k (with_number f i n)) ≡ slice_set (files_shown s fs) k (with_cell (file_at (files_shown s fs) k) i (Present page))
  fill_shows = grind (arith, common_steps, file_same, none_in, file_is, map-set, files_same)

  in_cell_of : (m : ℕ) → i < length f.cells → cell_in f.cells i ≡ Entered → in_file m (with_number f i n) ≡ in_file m f + in_cell m (Present n)
  in_cell_of m below entered = grind (arith, common_steps, sum_by-set)

  in_cells_of : (m : ℕ) → i < length f.cells → cell_in f.cells i ≡ Entered → in_files m (slice_set fs k (with_number f i n)) ≡ in_files m fs + in_cell m (Present n)
  in_cells_of m below entered = grind (arith, common_steps, sum_by-set, in_cell_of)

  own_cells_of : (m : ℕ) → i < length f.cells → cell_in f.cells i ≡ Entered → in_cells m (slice_set fs k (with_number f i n)) ≡ in_cells m fs + in_cell m (Present n)
  own_cells_of m below entered = grind (arith, common_steps, sum_by-set)

  at_j : (m j : ℕ) → i < length f.cells → cell_in f.cells i ≡ Entered → j < length fs →
      ((j ≡ k) × (in_file m (numbered_at (slice_set fs k (with_number f i n)) j) ≡ in_file m (numbered_at fs j) + in_cell m (Present n)))
      ⊎ ((j ≢ k) × (in_file m (numbered_at (slice_set fs k (with_number f i n)) j) ≡ in_file m (numbered_at fs j)))
  at_j m j below entered lj = grind (arith, common_steps, get_or-set_same, in_cell_of, get_or-set_other, eqb_tells)

  fill_apart : (more : ℕ) → i < length f.cells → cell_in f.cells i ≡ Entered → IsHeld s more fs → (m j : ℕ) →
      j < length (slice_set fs k (with_number f i n)) → 0 < in_file m (numbered_at (slice_set fs k (with_number f i n)) j)
      → in_files m (slice_set fs k (with_number f i n)) ≡ in_file m (numbered_at (slice_set fs k (with_number f i n)) j)
  fill_apart more below entered h m j below_j some = grind (arith, common_steps, length-set, in_cells_of, none_in, at_j, is_other, eqb_tells)

  pub fill_held : (more : ℕ) → i < length f.cells → cell_in f.cells i ≡ Entered → more_in t.pages ≡ more_in s.pages → more ≤ t.room →
      IsHeld s more fs → IsHeld t more (slice_set fs k (with_number f i n))
  fill_held more below entered counted parts h = record {
    held = λ m. ⊎_elim
        (λ (e : ((m == n) ≡ true) × (m ≡ n)). (let here = ap holders_of (ap (page_at t) e.1 ∙ is) in let step = in_cells_of m below entered in
        let none = ap (λ x. in_files x fs) e.1 ∙ fresh in let one = ap (λ x. in_cell x (Present n)) e.1 ∙ is_it n in
        omega (arith, here, step, none, one)))
        (λ (e : ((m == n) ≡ false) × (m ≢ n)). (let here = ap holders_of (agree m e.1) in let step = in_cells_of m below entered in
        let had = h.held m in let none = is_other n m (λ x. e.1 (sym x)) in omega (arith, here, step, had, none)))
        (eqb_tells m n);
    some = some_put n s t agree page is h.some;
    alone = λ m some. ⊎_elim
        (λ (e : ((m == n) ≡ true) × (m ≡ n)). (let step = in_cells_of m below entered in let none = ap (λ x. in_files x fs) e.1 ∙ fresh in
        let one = ap (λ x. in_cell x (Present n)) e.1 ∙ is_it n in omega (arith, step, none, one)))
        (λ (e : ((m == n) ≡ false) × (m ≢ n)). (let step = in_cells_of m below entered in let own = own_cells_of m below entered in
        let none = is_other n m (λ x. e.1 (sym x)) in let had = h.alone m (omega (arith, own, none, some)) in omega (arith, step, had, none)))
        (eqb_tells m n);
    apart = λ m j below_j some. fill_apart more below entered h m j below_j some;
    counted = h.counted ∙ sym counted;
    parts = parts;
  }

-- what `insert` does to a store
pub inserted_agrees : (n : ℕ) (page : Page) (s : Store) → Agree n s (inserted n page s)
inserted_agrees n page s k other = get_or-set_other s.pages n k (Some (first_held page)) None other

pub inserted_is : (n : ℕ) (page : Page) (s : Store) → n < length s.pages → page_at (inserted n page s) n ≡ Some (first_held page)
inserted_is n page s l = get_or-set_same s.pages n (Some (first_held page)) None l

pub inserted_more : (n : ℕ) (page : Page) (s : Store) → n < length s.pages → page_at s n ≡ None → more_in (inserted n page s).pages ≡ more_in s.pages
inserted_more n page s l none = grind (arith, common_steps, sum_by-set)

-- a free number stands nowhere
pub free_is_fresh : (s : Store) (more : ℕ) (fs : List NumberedFile) (n : ℕ) → IsHeld s more fs → page_at s n ≡ None → in_files n fs ≡ 0
free_is_fresh s more fs n h e = sym (h.held n) ∙ ap holders_of e

-- ---- bytes are written into a page

module _ (n : ℕ) (s : Store) (offset : ℕ) (bytes : List ℕ) (some : Holding) (is : page_at s n ≡ Some some) (within : n < length s.pages) where
  abbrev t : Store
  t = store.overwritten n offset bytes s

  abbrev now : Holding
  now = written_in offset bytes some

  pub now_is : page_at t n ≡ Some now
  now_is = get_or-set_same s.pages n (option_map (written_in offset bytes) (page_at s n)) None within ∙ ap (option_map (written_in offset bytes)) is

  pub write_agrees : Agree n s t
  write_agrees k other = get_or-set_other s.pages n k (option_map (written_in offset bytes) (page_at s n)) None other

  pub write_holders : (m : ℕ) → holders_of (page_at t m) ≡ holders_of (page_at s m)
  write_holders m = grind (arith, common_steps, now_is, write_agrees, eqb_tells)

  write_some : ((m : ℕ) → holders_of (page_at s m) ≡ 0 → page_at s m ≡ None) → (m : ℕ) → holders_of (page_at t m) ≡ 0 → page_at t m ≡ None
  write_some each m none = ⊎_elim
      (λ (e : ((m == n) ≡ true) × (m ≡ n)). (let gone = each n (ap (λ x. holders_of (page_at s x)) (sym e.1) ∙ sym (write_holders m) ∙ none) in absurd (there (sym is ∙ gone))))
      (λ (e : ((m == n) ≡ false) × (m ≢ n)). write_agrees m e.1 ∙ each m (sym (write_holders m) ∙ none))
      (eqb_tells m n)
    where
      there : ◌≡◌ {A = Option Holding} (Some some) None → ⊥
      there e = cc

  pub write_held : (more : ℕ) (fs : List NumberedFile) → IsHeld s more fs → IsHeld t more fs
  write_held more fs h = grind (arith, common_steps, sum_by-set, write_holders, write_some)

  shown_now : cell_shown t (Present n) ≡ cell_written offset bytes (cell_shown s (Present n))
  shown_now = ap (λ h. Present (page_in h)) now_is ∙ sym (ap (λ h. cell_written offset bytes (Present (page_in h))) is)

  -- the number stands in one cell alone
  pub write_shows : (fs : List NumberedFile) (k i : ℕ) → k < length fs → i < length (numbered_at fs k).cells → cell_in (numbered_at fs k).cells i ≡ Present n → in_files n fs ≡ 1
      → files_shown t fs ≡ slice_set (files_shown s fs) k (with_cell (file_at (files_shown s fs) k) i (cell_written offset bytes (cell_at (file_at (files_shown s fs) k) i)))
  write_shows fs k i l below here once =
      let f : NumberedFile = numbered_at fs k in
      let agree = write_agrees in
      let one : in_cell n (cell_in f.cells i) ≡ 1 = ap (in_cell n) here ∙ is_it n in
      let cell_most = at_most (λ (c : Cell ℕ). c) (λ c. c) (in_cell n) (λ c h. refl) f.cells i Hole below in
      let file_most = at_most (λ (f : NumberedFile). f) (λ f. f) (in_file n) (λ f h. refl) fs k no_file l in
      let cells = map_but (cell_shown s) (cell_shown t) (in_cell n) (cell_same n s t agree) f.cells i Hole below (omega (arith, cell_most, file_most, one, once)) in
      let maps = map_same (map_shown s) (map_shown t) (in_map n) (map_shows_same n s t agree) f.maps (omega (arith, cell_most, file_most, one, once)) in
      let cell_now : cell_shown t (cell_in f.cells i) ≡ cell_written offset bytes (cell_at (file_shown s f) i) = ap (cell_shown t) here ∙ shown_now
      ∙ sym (ap (cell_written offset bytes) (cell_is s f i ∙ ap (cell_shown s) here)) in
      let file_now : file_shown t f ≡ with_cell (file_shown s f) i (cell_written offset bytes (cell_at (file_shown s f) i)) =
      ap (λ cs. record { name = f.name; cells = cs; maps = map (map_shown t) f.maps }) (cells ∙ ap (λ c. slice_set (map (cell_shown s) f.cells) i c) cell_now)
      ∙ ap (λ ms. record { name = f.name; cells = slice_set (map (cell_shown s) f.cells) i (cell_written offset bytes (cell_at (file_shown s f) i)); maps = ms }) maps in
      map_but (file_shown s) (file_shown t) (in_file n) (file_same n s t agree) fs k no_file l (omega (arith, cell_most, file_most, one, once))
      ∙ ap (λ x. slice_set (files_shown s fs) k x) (file_now ∙ ap (λ x. with_cell x i (cell_written offset bytes (cell_at x i))) (sym (file_is s fs k l)))
