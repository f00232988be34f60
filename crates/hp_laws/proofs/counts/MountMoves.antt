-- How the counts of a mount change with one of its files.
use Rattle.std.proofs.lemmas.Grind.{common_steps}
use Rattle.std.proofs.Common.{◌≡◌, ◌==◌, ℕ, ◌+◌, ◌<◌, ◌≤◌, Bool, Option, None, Some, List, length, map, refl, sym, ap, ◌∙◌, cond, arith, slice_index_or, option_map}
use Rattle.std.specs.List.{list_any}
use Rattle.std.proofs.lemmas.List.Sums.{sum_by-set}
use Rattle.hp_model.proofs.Words.{File, Map, Mount, Spot, edit_at, file_pages, file_pages_at, file_reserves, found, is_kept, new_file, pages_at, pages_of, spot, spot_in, swept, usage_of, with_file}
use Rattle.hp_model.proofs.Words.{with_new}
use Rattle.hp_laws.proofs.counts.Falls.{FileFalls}
use Rattle.hp_laws.proofs.counts.FileMoves.{FileGrows, IsMapAt}
use Rattle.hp_laws.proofs.counts.Filled.{FileFills}
use Rattle.hp_laws.proofs.lists.NodesOf.{count_of}
use Rattle.hp_laws.proofs.lists.Places.{found_place, sum_by-edit_at, sum_by-map_le, sum_by-filter_le}

-- k pages more at the node, and the usage u more
pub record MountGrows (m n : Mount) (node k u : ℕ) : Type 0 where
  pub pages : pages_of n ≡ pages_of m + k
  pub usage : usage_of n ≡ usage_of m + u
  pub each : (x : ℕ) → pages_at x n ≡ pages_at x m + cond (node == x) k 0
  pub limits : n.limits ≡ m.limits

-- a page more at each of these nodes, and the usage u more
pub record MountFills (m n : Mount) (nodes : List ℕ) (u : ℕ) : Type 0 where
  pub pages : pages_of n ≡ pages_of m + length nodes
  pub usage : usage_of n ≡ usage_of m + u
  pub each : (x : ℕ) → pages_at x n ≡ pages_at x m + count_of x nodes
  pub limits : n.limits ≡ m.limits

pub record IsFileAt (m : Mount) (at_no : ℕ) (f : File) : Type 0 where
  pub within : at_no < length m.files
  pub is : (d : File) → slice_index_or m.files at_no d ≡ f

pub file_grows : (m : Mount) (at_no : ℕ) (f g : File) (node k u : ℕ) → IsFileAt m at_no f → FileGrows f g node k u → MountGrows m (with_file m at_no g) node k u
file_grows m at_no f g node k u at grows =
    let pages = sum_by-set file_pages m.files at_no g f at.within in
    let reserves = sum_by-set file_reserves m.files at_no g f at.within in
    let was = ap file_pages (at.is f) in
    let had = ap file_reserves (at.is f) in
    record {
      pages = omega (arith, pages, was, grows.pages);
      usage = omega (arith, pages, was, reserves, had, grows.usage);
      each = λ x. omega (arith, sum_by-set (file_pages_at x) m.files at_no g f at.within, ap (file_pages_at x) (at.is f), grows.each x);
      limits = refl;
    }

pub file_fills : (m : Mount) (at_no : ℕ) (f g : File) (nodes : List ℕ) (u : ℕ) → IsFileAt m at_no f → FileFills f g nodes u → MountFills m (with_file m at_no g) nodes u
file_fills m at_no f g nodes u at fills =
    let pages = sum_by-set file_pages m.files at_no g f at.within in
    let reserves = sum_by-set file_reserves m.files at_no g f at.within in
    let was = ap file_pages (at.is f) in
    let had = ap file_reserves (at.is f) in
    record {
      pages = omega (arith, pages, was, fills.pages);
      usage = omega (arith, pages, was, reserves, had, fills.usage);
      each = λ x. omega (arith, sum_by-set (file_pages_at x) m.files at_no g f at.within, ap (file_pages_at x) (at.is f), fills.each x);
      limits = refl;
    }

-- a file more, by what it has above an empty one
pub new_grows : (m : Mount) (name : Option (List ℕ)) (g : File) (u : ℕ) → FileGrows (new_file name) g 0 0 u → MountGrows m (with_new m g) 0 0 u
new_grows m name g u grows = grind (arith, common_steps)

pub nothing_more : (b : Bool) (n : ℕ) → n ≡ n + cond b 0 0
nothing_more b n = grind arith

-- a change of one file that no count sees
pub edit_grows : (m : Mount) (at_no : ℕ) (h : File → File) → ((f : File) → FileGrows f (h f) 0 0 0) → MountGrows m (record m { files = edit_at h m.files at_no }) 0 0 0
edit_grows m at_no h same =
    let pages = sum_by-edit_at file_pages h (λ f. (let s = (same f).pages in omega (arith, s))) m.files at_no in
    let reserves = sum_by-edit_at file_reserves h (λ f. (let s = (same f).pages in let t = (same f).usage in omega (arith, s, t))) m.files at_no in
    record {
      pages = omega (arith, pages);
      usage = omega (arith, pages, reserves);
      each = λ x. sum_by-edit_at (file_pages_at x) h (λ f. (same f).each x ∙ sym (nothing_more (0 == x) (file_pages_at x f))) m.files at_no ∙ nothing_more (0 == x) (pages_at x m);
      limits = refl;
    }

-- ---- what only gives back

pub record MountFalls (m n : Mount) : Type 0 where
  pub usage : usage_of n ≤ usage_of m
  pub each : (x : ℕ) → pages_at x n ≤ pages_at x m
  pub limits : n.limits ≡ m.limits

pub file_sweeps : (m : Mount) (at_no : ℕ) (f g : File) → IsFileAt m at_no f → FileFalls f g → MountFalls m (swept (with_file m at_no g))
file_sweeps m at_no f g at falls =
    let next : Mount = with_file m at_no g in
    let pages = sum_by-set file_pages m.files at_no g f at.within in
    let reserves = sum_by-set file_reserves m.files at_no g f at.within in
    let was = ap file_pages (at.is f) in
    let had = ap file_reserves (at.is f) in
    record {
      usage = omega (arith, pages, was, reserves, had, falls.pages, falls.reserves, sum_by-filter_le file_pages is_kept next.files, sum_by-filter_le file_reserves is_kept next.files);
      each = λ x. omega (arith, sum_by-set (file_pages_at x) m.files at_no g f at.within, ap (file_pages_at x) (at.is f), falls.each x, sum_by-filter_le (file_pages_at x) is_kept next.files);
      limits = refl;
    }

pub files_sweep : (m : Mount) (h : File → File) → ((f : File) → FileFalls f (h f)) → MountFalls m (swept (record m { files = map h m.files }))
files_sweep m h falls =
    let next : List File = map h m.files in
    let pages = sum_by-map_le file_pages h (λ f. (falls f).pages) m.files in
    let reserves = sum_by-map_le file_reserves h (λ f. (falls f).reserves) m.files in
    record {
      usage = omega (arith, pages, reserves, sum_by-filter_le file_pages is_kept next, sum_by-filter_le file_reserves is_kept next);
      each = λ x. omega (arith, sum_by-map_le (file_pages_at x) h (λ f. (falls f).each x) m.files, sum_by-filter_le (file_pages_at x) is_kept next);
      limits = refl;
    }

-- ---- where a map is found

pub record IsSpot (m : Mount) (s : Spot) : Type 0 where
  pub file : IsFileAt m s.file_no s.file
  pub map : IsMapAt s.file s.map_no s.map

pub file_at : (m : Mount) (test : File → Bool) (q : ℕ × File) → found test m.files ≡ Some q → IsFileAt m q.0 q.1
file_at m test q e = let p = found_place test m.files q e in record { within = p.within; is = p.is }

map_at : (test : Map → Bool) (f : File) (q : ℕ × Map) → found test f.maps ≡ Some q → IsMapAt f q.0 q.1
map_at test f q e = let p = found_place test f.maps q e in record { within = p.within; is = p.is }

spot_of_map : (m : Mount) (test : Map → Bool) (f : ℕ × File) (s : Spot) → IsFileAt m f.0 f.1 → (o : Option (ℕ × Map)) → found test f.1.maps ≡ o → option_map (spot_in f) o ≡ Some s → IsSpot m s
spot_of_map m test f s at None w e = cc
spot_of_map m test f s at (Some q) w e = grind (arith, map_at)

spot_of_file : (m : Mount) (test : Map → Bool) (s : Spot) (o : Option (ℕ × File)) → found (λ f. list_any test f.maps) m.files ≡ o
    → (elim o [ None ↦ None | Some f ↦ option_map (spot_in f) (found test f.1.maps) ]) ≡ Some s → IsSpot m s
spot_of_file m test s None w e = cc
spot_of_file m test s (Some f) w e = spot_of_map m test f s (file_at m (λ f. list_any test f.maps) f w) (found test f.1.maps) refl e

pub spot_is : (m : Mount) (test : Map → Bool) (s : Spot) → spot m test ≡ Some s → IsSpot m s
spot_is m test s e = spot_of_file m test s (found (λ f. list_any test f.maps) m.files) refl e
