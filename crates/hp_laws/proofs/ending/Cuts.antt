-- What files and maps show after a range of a file or of a map is gone.
use Rattle.std.proofs.lemmas.Grind.{common_steps}
use Rattle.std.proofs.Common.{◌≡◌, inl, inr, ◌⊎◌, subst, ℕ, ◌-◌, ◌<◌, ◌≤◌, ◌&&◌, ◌==◌, Bool, true, false, Option, None, Some, List, length, map, get_or, option_map, refl, sym}
use Rattle.std.proofs.Common.{ap, ◌∙◌, arith, if◌then◌else◌, nat_le}
use Rattle.std.specs.List.{list_any}
use Rattle.std.specs.Str.{bytes_eq}
use Rattle.std.proofs.lemmas.Slice.Eq.{bytes_eq-Decides}
use Rattle.std.proofs.lemmas.Bool.{cases_eq, cases_lt, eq-eqb, eqb-true, false_from_ne_true, leb-false, leb-true, ltb-false, ltb-true, cond_both}
use Rattle.std.proofs.lemmas.List.{get_or-set_other, get_or-set_same, get_or_past}
use Rattle.hp_laws.proofs.Variants.{Cell, Gone, Place, Hole}
use Rattle.hp_model.proofs.Words.{Copy, File, Map, Mount, Page, Spot, cell_punched, edit_range, file_in, file_named, found, has_name, is_in, is_map}
use Rattle.hp_model.proofs.Words.{map_in, new_file, no_map, place_at, shown, spot, spot_in, unlinked, value, with_file, without_copy, zeros, cell_at, cell_in, cells_to}
use Rattle.hp_model.specs.machine.Footprint.{cut_from, cut_out, with_places}
use Rattle.hp_laws.proofs.footprint.Ranges.{each_of, length-each, placed_each}
use Rattle.hp_laws.proofs.names.Changes.{Effect, IsIdle, Never}
use Rattle.hp_laws.specs.Follows.{means_file, shape_of}
use Rattle.hp_model.proofs.Editing.{get_or-edit_below, get_or-edit_in, get_or-edit_past, length-edit_range}
use Rattle.hp_laws.proofs.names.Accessed.{file_put, get_mapped, key_map, pages_same}
use Rattle.hp_laws.proofs.names.ByPlace.{PlaceKeeps}
use Rattle.hp_laws.proofs.names.Follows.{some_file}
use Rattle.hp_laws.proofs.names.Keys.{keys, places}
use Rattle.hp_laws.proofs.lists.Looks.{same_put}
use Rattle.hp_laws.proofs.making.FilesMade.{in_file, spot_in_file}
use Rattle.hp_laws.proofs.counts.MountMoves.{file_at, spot_is}
use Rattle.hp_laws.proofs.names.Placed.{found_set, lead_same, placed, put_at}
use Rattle.hp_laws.proofs.lists.Places.{found_place}
use Rattle.hp_laws.proofs.accesses.Shown.{by_place, look, seen}

-- ---- a range of a list

module _ {X : Type 0} (f : X → X) (a b : ℕ) (xs : List X) (k : ℕ) (d : X) where
  beyond : length xs ≤ k → get_or (edit_range f a b xs) k d ≡ d
  beyond past = (let same = length-edit_range f a b xs in get_or_past (edit_range f a b xs) k d (omega (arith, past, same)))

  pub ranged_in : f d ≡ d → a ≤ k → k < b → get_or (edit_range f a b xs) k d ≡ f (get_or xs k d)
  ranged_in none from to = grind (arith, get_or-edit_in, beyond, get_or_past, cases_lt)

  pub ranged_out : (k < a) ⊎ (b ≤ k) → get_or (edit_range f a b xs) k d ≡ get_or xs k d
  ranged_out out = grind (arith, get_or-edit_below, get_or-edit_past, cases_lt, beyond, get_or_past)

  pub ranged : f d ≡ d → get_or (edit_range f a b xs) k d ≡ (if is_in a b k then f (get_or xs k d) else get_or xs k d)
  ranged none = grind (arith, ranged_in, leb-true, ltb-true, ranged_out, ltb-false, leb-false)

-- of a map's places
pub place_ranged : (g : Place Copy → Place Copy) → g Gone ≡ Gone → (a b : ℕ) (y : Map) (i : ℕ)
    → place_at (record y { places = edit_range g (a - y.start) (b - y.start) y.places }) i ≡ (if is_in a b i then g (place_at y i) else place_at y i)
place_ranged g none a b y i = grind (arith, leb-true, ltb-true, ranged_in, ltb-false, ranged_out, leb-false)

-- ---- a file of which indices are cut off

abbrev pub cut_map : (ℕ → Bool) → Map → Map
cut_map cut y = with_places (λ i p. if cut i then without_copy p else p) y

-- it shows zeros there
pub record IsCut (size : ℕ) (f g : File) (cut : ℕ → Bool) : Type 0 where
  pub maps : g.maps ≡ map (cut_map cut) f.maps
  pub name : g.name ≡ f.name
  pub cells : (x : ℕ) → look size x g ≡ (if cut x then zeros size else look size x f)

module _ (size : ℕ) (cut : ℕ → Bool) where
  cell_shows : (b : Bool) (c : Cell Page) → shown size (if b then cell_punched c else c) ≡ (if b then zeros size else shown size c)
  cell_shows b c = grind arith

  hole_shows : (b : Bool) → shown size (if b then cell_punched Hole else Hole) ≡ zeros size
  hole_shows b = grind arith

  out_cells : (f : File) (x : ℕ) → look size x (cut_out cut f) ≡ (if cut x then zeros size else look size x f)
  out_cells f x =
      each_of (shown size) (λ i c. if cut i then cell_punched c else c) Hole (λ n. hole_shows (cut n)) 0 f.cells x x (omega arith)
      ∙ cell_shows (cut x) (cell_at f x)

  pub out_cut : (f : File) → IsCut size f (cut_out cut f) cut
  out_cut f = record { maps = refl; name = refl; cells = out_cells f }

  place_cut : (b : Bool) (p : Place Copy) (v w : List ℕ) → v ≡ (if b then zeros size else w) → by_place size (if b then without_copy p else p) v ≡ (if b then zeros size else by_place size p w)
  place_cut b p v w e = grind arith

  -- and so do its maps
  pub map_cut : (f g : File) → IsCut size f g cut → (y : Map) (x : ℕ) → value size g (cut_map cut y) x ≡ (if cut x then zeros size else value size f y x)
  map_cut f g is y x =
      ap (λ p. by_place size p (look size x g)) (placed_each (λ i p. if cut i then without_copy p else p) (λ n. cond_both (cut n) Gone Gone (λ p. p ≡ Gone) (λ e. refl) (λ e. refl)) y x)
      ∙ place_cut (cut x) (place_at y x) (look size x g) (look size x f) (is.cells x)

-- from n on
pub from_cut : (size n : ℕ) (f : File) → IsCut size f (cut_from n f) (nat_le n)
from_cut size n f = record { maps = refl; name = refl; cells = λ x. out_cells size (nat_le n) (record f { cells = cells_to n f.cells }) x ∙ before x (nat_le n x) refl }
  where
    before : (x : ℕ) (c : Bool) → nat_le n x ≡ c → (if c then zeros size else shown size (cell_in (cells_to n f.cells) x)) ≡ (if c then zeros size else look size x f)
    before x c past = grind (arith, common_steps)

-- ---- its mount

module _ (size : ℕ) (m : Mount) (name : List ℕ) (q : ℕ × File) (named : file_named m name ≡ Some q) (g : File) (cut : ℕ → Bool) (is : IsCut size q.1 g cut) where
  abbrev after : Mount
  after = with_file m q.0 g

  abbrev cut_off : Bool → List ℕ → List ℕ
  cut_off b old = if b then zeros size else old

  file_was : file_in m q.0 ≡ q.1
  file_was = (file_at m (has_name name) q named).is (new_file None)

  file_now : file_in after q.0 ≡ g
  file_now = get_or-set_same m.files q.0 g (new_file None) (file_at m (has_name name) q named).within

  file_other : (j : ℕ) → (j ≡ q.0 → ⊥) → file_in after j ≡ file_in m j
  file_other j other = get_or-set_other m.files q.0 j g (new_file None) other

  means : (j : ℕ) → means_file (Some m) name j ≡ (q.0 == j)
  means j = ap (λ (o : Option (ℕ × File)). elim o [ None ↦ false | Some f ↦ f.0 == j ]) named

  -- the test of what is cut off, there and elsewhere
  cut_here : (x : ℕ) (old : List ℕ) → cut_off (cut x) old ≡ cut_off (means_file (Some m) name q.0 && cut x) old
  cut_here x old = ap (λ b. cut_off (b && cut x) old) (sym (means q.0 ∙ eq-eqb q.0 q.0 refl))

  cut_there : (j x : ℕ) → (j ≡ q.0 → ⊥) → (old : List ℕ) → old ≡ cut_off (means_file (Some m) name j && cut x) old
  cut_there j x other old = ap (λ b. cut_off (b && cut x) old) (sym (means j ∙ false_from_ne_true (q.0 == j) (λ e. other (sym (eqb-true q.0 j e)))))

  cells_cut : (j x : ℕ) → look size x (file_in after j) ≡ cut_off (means_file (Some m) name j && cut x) (look size x (file_in m j))
  cells_cut j x = grind (arith, cases_eq, look, file_now, file_was, cut_here, file_other, cut_there)

  -- the map at a place of the file
  module _ (l : ℕ) (within : l < length q.1.maps) where
    map_now : map_in (file_in after q.0) l ≡ cut_map cut (map_in q.1 l)
    map_now = ap (λ f. map_in f l) file_now ∙ ap (λ ms. get_or ms l no_map) is.maps ∙ get_mapped (cut_map cut) q.1.maps l no_map within

    seen_cut : (x : ℕ) → seen size l x (file_in after q.0) ≡ cut_off (means_file (Some m) name q.0 && cut x) (seen size l x (file_in m q.0))
    seen_cut x =
        ap (λ y. value size (file_in after q.0) y x) map_now ∙ ap (λ f. value size f (cut_map cut (map_in q.1 l)) x) file_now ∙ map_cut size cut q.1 g is (map_in q.1 l) x
        ∙ ap (λ f. cut_off (cut x) (seen size l x f)) (sym file_was) ∙ cut_here x (seen size l x (file_in m q.0))

  within_file : (p : Spot) (test : Map → Bool) → spot m test ≡ Some p → p.file_no ≡ q.0 → p.map_no < length q.1.maps
  within_file p test found same =
      let at = spot_is m test p found in
      let file : p.file ≡ q.1 = sym (at.file.is (new_file None)) ∙ ap (file_in m) same ∙ file_was in
      subst (λ f. p.map_no < length f.maps) file at.map.within

  maps_cut : (test : Map → Bool) (x : ℕ) (p : Spot) → spot m test ≡ Some p
      → seen size p.map_no x (file_in after p.file_no) ≡ cut_off (means_file (Some m) name p.file_no && cut x) (seen size p.map_no x (file_in m p.file_no))
  maps_cut test x p found =
      elim (cases_eq p.file_no q.0) as
      (λ _. seen size p.map_no x (file_in after p.file_no) ≡ cut_off (means_file (Some m) name p.file_no && cut x) (seen size p.map_no x (file_in m p.file_no))) [
        | inl same ↦ subst (λ k. seen size p.map_no x (file_in after k) ≡ cut_off (means_file (Some m) name k && cut x) (seen size p.map_no x (file_in m k))) (sym same)
            (seen_cut p.map_no (within_file p test found same) x)
        | inr other ↦ ap (seen size p.map_no x) (file_other p.file_no other) ∙ cut_there p.file_no x other (seen size p.map_no x (file_in m p.file_no))
      ]

  marks_cut : (test : Map → Bool) (p : Spot) → spot m test ≡ Some p → (map_in (file_in m p.file_no) p.map_no).unmapped ≡ true → (map_in (file_in after p.file_no) p.map_no).unmapped ≡ true
  marks_cut test p found marked = grind (arith, cases_eq, map_now, within_file, file_was, file_other)

  pub same_keys : keys after ≡ keys m
  same_keys =
      file_put m q.0 q.1 g (file_at m (has_name name) q named).is
      (ap (λ n. (n, map shape_of g.maps)) is.name
      ∙ ap (λ ks. (q.1.name, ks)) (ap (map shape_of) is.maps ∙ key_map shape_of (cut_map cut) (λ y. pages_same y y.unmapped _ (length-each _ y.start y.places)) q.1.maps))

  pub cut_keeps : (e : Effect) → ((j x : ℕ) (old : List ℕ) → cut_off (means_file (Some m) name j && cut x) old ≡ e.stored j x old)
      → ((j l x : ℕ) (old : List ℕ) → cut_off (means_file (Some m) name j && cut x) old ≡ e.seen j l x old) → PlaceKeeps size m e after Never
  cut_keeps e stores sees =
      let stays = placed m after (lead_same (keys m) (keys after) same_keys) in
      record {
        names = λ name f goes_on e. stays.names name f e;
        numbers = λ task number p goes_on e. stays.numbers task number p e;
        cells = λ j x. cells_cut j x ∙ stores j x (look size x (file_in m j));
        maps = λ task number x p r found there same. inl (maps_cut (is_map task number) x p found ∙ sees p.file_no p.map_no x (seen size p.map_no x (file_in m p.file_no)));
        marks = λ task number p found marked. marks_cut (is_map task number) p found marked;
      }

-- ---- a file that loses its name

module _ (size : ℕ) (m : Mount) (name : List ℕ) (q : ℕ × File) (named : file_named m name ≡ Some q) where
  abbrev left : Mount
  left = with_file m q.0 (unlinked q.1)

  same_look : {Y : Type 0} (v : File → Y) → v (unlinked q.1) ≡ v q.1 → (j : ℕ) → v (file_in left j) ≡ v (file_in m j)
  same_look v same j =
      let at = file_at m (has_name name) q named in
      same_put v (new_file None) m.files q.0 (unlinked q.1) at.within (same ∙ sym (ap v (at.is (new_file None)))) j

  -- another name is not that of the file
  not_named : (other : List ℕ) → bytes_eq name other ≡ false → has_name other q.1 ≡ false
  not_named other apart = grind (arith, found_place, bytes_eq-Decides)

  -- the file that was found, and its maps
  abbrev moved : ℕ × File → ℕ × File
  moved f = put_at q.0 (unlinked q.1) f

  maps_same : (test : File → Bool) (f : ℕ × File) → found test m.files ≡ Some f → (moved f).1.maps ≡ f.1.maps
  maps_same test f e = by_place (f.0 == q.0) refl
    where
      by_place : (b : Bool) → (f.0 == q.0) ≡ b → (if b then unlinked q.1 else f.1).maps ≡ f.1.maps
      by_place false other = refl
      by_place true same =
          ap (λ (g : File). g.maps)
          (sym ((file_at m (has_name name) q named).is (new_file None)) ∙ ap (file_in m) (sym (eqb-true f.0 q.0 same)) ∙ (file_at m test f e).is (new_file None))

  number_stays : (test : Map → Bool) (p : Spot) → spot m test ≡ Some p → (r : Spot) × (spot left test ≡ Some r) × (places r ≡ places p)
  number_stays test p e =
      let has = λ (f : File). list_any test f.maps in
      let there = some_file m test (found has m.files) p (sym (spot_in_file m test) ∙ e) in
      let f = there.0 in
      let w = there.2.0 in
      let was : has (unlinked q.1) ≡ has (get_or m.files q.0 (unlinked q.1)) = sym (ap has ((file_at m (has_name name) q named).is (unlinked q.1))) in (
        spot_in (moved f) w,
        spot_in_file left test ∙ ap (in_file test) (found_set has m.files q.0 (unlinked q.1) was ∙ ap (option_map (put_at q.0 (unlinked q.1))) there.1)
            ∙ ap (option_map (spot_in (moved f))) (ap (found test) (maps_same has f there.1) ∙ there.2.1),
        ap places there.2.2,
      )

  pub unlink_keeps : (e : Effect) → IsIdle e → ((other : List ℕ) → e.ends_name other ≡ false → bytes_eq name other ≡ false) → PlaceKeeps size m e left Never
  unlink_keeps e idle ends = record {
    names = λ other f goes_on e. (
      (f.0, if f.0 == q.0 then unlinked q.1 else f.1),
      found_set (has_name other) m.files q.0 (unlinked q.1) (sym (ap (has_name other) ((file_at m (has_name name) q named).is (unlinked q.1)) ∙ not_named other (ends other goes_on)))
          ∙ ap (option_map (put_at q.0 (unlinked q.1))) e,
      refl,
    );
    numbers = λ task number p goes_on e. number_stays (is_map task number) p e;
    cells = λ j x. same_look (look size x) refl j ∙ idle.stored j x (look size x (file_in m j));
    maps = λ task number x p r found there same. inl (same_look (seen size p.map_no x) refl p.file_no ∙ idle.seen p.file_no p.map_no x (seen size p.map_no x (file_in m p.file_no)));
    marks = λ task number p found marked. same_look (λ f. (map_in f p.map_no).unmapped) refl p.file_no ∙ marked;
  }
