-- What files show after a file or a map is made, or pages of a range.
use Rattle.std.proofs.Common.{if◌then◌else◌, ◌&&◌, ◌+◌, ◌-◌, ◌∙◌, ◌∷◌, ◌≡◌, Bool, List, None, Option, Some, [], ap, arith, length, nat_lt, not, refl, replicate, sym, ℕ}
use Rattle.std.proofs.lemmas.Bool.{cond_both}
use Rattle.std.proofs.lemmas.Grind.{common_steps}
use Rattle.hp_laws.proofs.Variants.{Cell, Gone, Hole, Place, Present, Reserving, Sharing}
use Rattle.hp_model.proofs.Words.{Copy, File, Map, Mount, Page, at_least, cell_in, copy_of, entered, has_page, is_in, is_shared, map_in, new_file, no_map, place_at, reserves, shown, value}
use Rattle.hp_model.proofs.Words.{with_file, with_new, zeros}
use Rattle.hp_model.specs.machine.Footprint.{entered_to, map_made, with_map_made, with_pages_there}
use Rattle.hp_laws.proofs.accesses.Shown.{by_place, look, marked, seen}
use Rattle.hp_laws.proofs.counts.MountMoves.{IsFileAt}
use Rattle.hp_laws.proofs.footprint.Ranges.{each_of}
use Rattle.hp_laws.proofs.lists.Looks.{same_more, same_none, same_one, same_put}
use Rattle.hp_laws.proofs.names.ByPlace.{Quiet}

-- ---- a file more, or another in a file's place, that shows the same

module _ (size : ℕ) (m : Mount) where
  new_quiet : (f : File) → ((x : ℕ) → look size x f ≡ look size x (new_file None)) → ((l x : ℕ) → seen size l x f ≡ seen size l x (new_file None))
      → ((l : ℕ) → marked l f ≡ marked l (new_file None)) → Quiet size m (with_new m f)
  new_quiet f looks sees marks = record {
    cells = λ j x. same_more (look size x) (new_file None) m.files (f ∷ []) (λ i. same_one (look size x) (new_file None) f (looks x) i) j;
    maps = λ j l x. same_more (seen size l x) (new_file None) m.files (f ∷ []) (λ i. same_one (seen size l x) (new_file None) f (sees l x) i) j;
    marks = λ j l. same_more (marked l) (new_file None) m.files (f ∷ []) (λ i. same_one (marked l) (new_file None) f (marks l) i) j;
  }

  put_quiet : (q : ℕ × File) (g : File) → IsFileAt m q.0 q.1 → ((x : ℕ) → look size x g ≡ look size x q.1) → ((l x : ℕ) → seen size l x g ≡ seen size l x q.1)
      → ((l : ℕ) → marked l g ≡ marked l q.1) → Quiet size m (with_file m q.0 g)
  put_quiet q g at looks sees marks = record {
    cells = λ j x. same_put (look size x) (new_file None) m.files q.0 g at.within (looks x ∙ sym (ap (look size x) (at.is (new_file None)))) j;
    maps = λ j l x. same_put (seen size l x) (new_file None) m.files q.0 g at.within (sees l x ∙ sym (ap (seen size l x) (at.is (new_file None)))) j;
    marks = λ j l. same_put (marked l) (new_file None) m.files q.0 g at.within (marks l ∙ sym (ap (marked l) (at.is (new_file None)))) j;
  }

-- ---- pages of a range

page_shows : (size node : ℕ) (b : Bool) (c : Cell Page) → shown size (if b && not (has_page c) then Present (record { node = node; bytes = zeros size }) else c) ≡ shown size c
page_shows size node b c = grind arith

longer_shows : (size n : ℕ) (f : File) (x : ℕ) → shown size (cell_in (at_least n f.cells) x) ≡ look size x f
longer_shows size n f x = same_more (shown size) Hole f.cells (replicate (n - length f.cells) Hole) (λ j. same_none (shown size) Hole (n - length f.cells) j) x

module _ (size a b : ℕ) (node : ℕ → ℕ) (f : File) where
  there_shows : (x : ℕ) → look size x (with_pages_there size a b node f) ≡ look size x f
  there_shows x =
      each_of (shown size) (λ i c. if is_in a b i && not (has_page c) then Present (record { node = node i; bytes = zeros size }) else c) Hole (λ n. page_shows size (node n) (is_in a b n) Hole) 0
      (at_least b f.cells) x x (omega arith)
      ∙ page_shows size (node x) (is_in a b x) (cell_in (at_least b f.cells) x) ∙ longer_shows size b f x

  pub there_quiet : (m : Mount) (k : ℕ) → IsFileAt m k f → Quiet size m (with_file m k (with_pages_there size a b node f))
  there_quiet m k at =
      put_quiet size m (k, f) (with_pages_there size a b node f) at there_shows (λ l x. ap (by_place size (place_at (map_in f l) x)) (there_shows x)) (λ l. refl)

-- ---- a map more

entered_shows : (size : ℕ) (b : Bool) (c : Cell Page) → shown size (if b then entered c else c) ≡ shown size c
entered_shows size b c = grind arith

none_past : (x : ℕ) → copy_of (place_at no_map x) ≡ None
none_past x = cond_both (nat_lt x 0) Gone Gone (λ (p : Place Copy). copy_of p ≡ None) (λ e. refl) (λ e. refl)

module _ (size task number a n : ℕ) (sharing : Sharing) (reserving : Reserving) (f : File) where
  abbrev made : File
  made = with_map_made task number a n sharing reserving f

  abbrev more : Map
  more = map_made task number a n sharing reserving

  none_at : (x : ℕ) → copy_of (place_at more x) ≡ None
  none_at x = grind (arith, common_steps)

  made_shows : (x : ℕ) → look size x made ≡ look size x f
  made_shows x =
      cond_both (is_shared sharing && reserves reserving) (entered_to a (a + n) f) (record f { cells = at_least (a + n) f.cells }) (λ g. look size x g ≡ look size x f)
      (λ e. each_of (shown size) (λ i c. if is_in a (a + n) i then entered c else c) Hole (λ i. entered_shows size (is_in a (a + n) i) Hole) 0 (at_least (a + n) f.cells) x x (omega arith)
      ∙ entered_shows size (is_in a (a + n) x) (cell_in (at_least (a + n) f.cells) x) ∙ longer_shows size (a + n) f x)
      (λ e. longer_shows size (a + n) f x)

  made_seen : (l x : ℕ) → seen size l x made ≡ seen size l x f
  made_seen l x =
      let by_copy : Option Copy → List ℕ = λ o. elim o [ None ↦ look size x f | Some copy ↦ copy.page.bytes ] in
      ap (by_place size (place_at (map_in made l) x)) (made_shows x)
      ∙ same_more (λ (y : Map). value size f y x) no_map f.maps (more ∷ []) (λ j. same_one (λ (y : Map). value size f y x) no_map more (ap by_copy (none_at x) ∙ sym (ap by_copy (none_past x))) j) l

  made_marks : (l : ℕ) → marked l made ≡ marked l f
  made_marks l = grind (arith, common_steps)

  pub made_quiet : (m : Mount) (k : ℕ) → IsFileAt m k f → Quiet size m (with_file m k made)
  made_quiet m k at = put_quiet size m (k, f) made at made_shows made_seen made_marks

pub file_quiet : (size : ℕ) (m : Mount) (name : List ℕ) → Quiet size m (with_new m (new_file (Some name)))
file_quiet size m name = new_quiet size m (new_file (Some name)) (λ x. refl) (λ l x. refl) (λ l. refl)

pub anon_quiet : (size : ℕ) (m : Mount) (task number a n : ℕ) (sharing : Sharing) (reserving : Reserving) → Quiet size m (with_new m (with_map_made task number a n sharing reserving (new_file None)))
anon_quiet size m task number a n sharing reserving =
    new_quiet size m (with_map_made task number a n sharing reserving (new_file None)) (made_shows size task number a n sharing reserving (new_file None))
    (made_seen size task number a n sharing reserving (new_file None)) (made_marks size task number a n sharing reserving (new_file None))
