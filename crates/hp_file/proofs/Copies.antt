use Rattle.std.proofs.lemmas.Grind.{common_steps}
-- A private copy, as its page is put in under a number that was free.
use Rattle.std.proofs.Common.{◌≡◌, ◌≢◌, ℕ, ◌+◌, ◌<◌, ◌≤◌, ◌==◌, ⊎_elim, Bool, true, false, None, Some, List, [], ◌∷◌, length, map, refl, sym, ap, ◌∙◌, arith, slice_set, slice_index_or, ◌||◌, sum_by}
use Rattle.std.proofs.Common.{flat_map}
use Rattle.std.specs.List.{list_any}
use Rattle.std.proofs.lemmas.Bool.Decides.{eqb_tells}
use Rattle.std.proofs.lemmas.List.Sums.{sum_by-cons}
use Rattle.std.proofs.lemmas.List.{map-set}
use Rattle.hp_laws.proofs.Variants.{Gone, Live, Place}
use Rattle.hp_model.proofs.Words.{Copy, Map, Mapping, Page, is_among, is_stamp, map_has, place_has, stamps_of, with_map}
use Rattle.hp_model.proofs.Distinct.{is_among-append}
use Rattle.hp_laws.proofs.counts.CopiesHeld.{stamps_are}
use Rattle.hp_store.specs.Store.{Store, page_at, holders_of, first_held}
use Rattle.hp_lookup.proofs.Words.{IsHeld, NumberedFile, file_at, file_shown, files_shown, in_cells, in_file, in_files, in_map, in_place, map_shown, mapping_at, more_in, no_mapping, numbered_at}
use Rattle.hp_lookup.proofs.Words.{page_in, place_shown}
use Rattle.hp_lookup.proofs.Lifting.{at_most, Agree, is_it, is_other, not_it, map_shows_same, file_same, files_same}
use Rattle.hp_lookup.proofs.Cells.{file_is, none_in, some_put}
use Rattle.hp_lookup.proofs.GivingBack.{in_all}
use Rattle.hp_file.proofs.Placing.{place_held}

-- ---- a number that stands nowhere is the stamp of no copy

pub any_none : {X Y : Type 0} (f : X → Y) (c : X → ℕ) (p : Y → Bool) → ((x : X) → c x ≡ 0 → p (f x) ≡ false) → (xs : List X) → sum_by c xs ≡ 0 → list_any p (map f xs) ≡ false
any_none f c p h [] e = refl
any_none f c p h (x ∷ xs) e =
    let parts = sum_by-cons c x xs in
    ap (λ b. b || list_any p (map f xs)) (h x (omega (arith, parts, e))) ∙ any_none f c p h xs (omega (arith, parts, e))

other_number : (k n : ℕ) → k ≢ n → (k == n) ≡ false
other_number k n other = ⊎_elim (λ (l : ((k == n) ≡ true) × (k ≡ n)). absurd (other l.1)) (λ (r : ((k == n) ≡ false) × (k ≢ n)). r.0) (eqb_tells k n)

place_none : (s : Store) (n : ℕ) (p : Place ℕ) → in_place n p ≡ 0 → place_has (is_stamp n) (place_shown s p) ≡ false
place_none s n Gone e = refl
place_none s n (Live c None) e = refl
place_none s n (Live c (Some k)) e = other_number k n (not_it k n e)

map_none : (s : Store) (n : ℕ) (m : Mapping ℕ) → in_map n m ≡ 0 → map_has (is_stamp n) (map_shown s m) ≡ false
map_none s n m e = any_none (place_shown s) (in_place n) (place_has (is_stamp n)) (place_none s n) m.places e

pub file_none : (s : Store) (n : ℕ) (f : NumberedFile) → in_file n f ≡ 0 → is_among n (stamps_of (file_shown s f)) ≡ false
file_none s n f e = stamps_are (file_shown s f) n ∙ any_none (map_shown s) (in_map n) (map_has (is_stamp n)) (map_none s n) f.maps (omega (arith, e))

pub number_is_fresh : (s : Store) (n : ℕ) (fs : List NumberedFile) → in_files n fs ≡ 0 → is_among n (flat_map stamps_of (files_shown s fs)) ≡ false
number_is_fresh s n [] e = refl
number_is_fresh s n (f ∷ fs) e =
    let parts = sum_by-cons (in_file n) f fs in
    is_among-append n (stamps_of (file_shown s f)) (flat_map stamps_of (files_shown s fs))
    ∙ ap (λ b. b || is_among n (flat_map stamps_of (files_shown s fs))) (file_none s n f (omega (arith, parts, e))) ∙ number_is_fresh s n fs (omega (arith, parts, e))

-- ---- a copy is put in

-- a number that stands nowhere may stand at one place
pub fresh_stands : (n : ℕ) (fs : List NumberedFile) (k : ℕ) → k < length fs → in_files n fs ≡ 0 → (consumed : Bool) (m : ℕ) →
    0 < in_place m (Live consumed (Some n)) → (in_cells m fs ≡ 0) × (in_files m fs ≡ in_file m (numbered_at fs k))
fresh_stands n fs k l fresh consumed m some = grind (arith, common_steps, in_all, none_in, is_other, eqb_tells)

-- the place o of the map has the number as its copy
abbrev pub with_copy_at : Mapping ℕ → ℕ → Bool → ℕ → Mapping ℕ
with_copy_at y o consumed n = record y { places = slice_set y.places o (Live consumed (Some n)) }

module _ (n : ℕ) (s t : Store) (agree : Agree n s t) (page : Page) (is : page_at t n ≡ Some (first_held page)) (fs : List NumberedFile) (k j o : ℕ)
    (consumed : Bool) (l : k < length fs) (jl : j < length (numbered_at fs k).maps) (fresh : in_files n fs ≡ 0) where
  abbrev f : NumberedFile
  f = numbered_at fs k

  abbrev y : Mapping ℕ
  y = mapping_at f j

  abbrev g : NumberedFile
  g = record f { maps = slice_set f.maps j (with_copy_at y o consumed n) }

  -- what the machine's map is before
  abbrev was : Map
  was = map_shown s y

  abbrev copy : Copy
  copy = record { stamp = n; page = page }

  none_in_map : in_map n y ≡ 0
  none_in_map = (let most = at_most (λ (m : Mapping ℕ). m) (λ m. m) (in_map n) (λ m h. refl) f.maps j no_mapping jl in let none = none_in n fs k l fresh in omega (arith, most, none))

  pub copy_shows : files_shown t (slice_set fs k g) ≡ slice_set (files_shown s fs) k
      (with_map (file_at (files_shown s fs) k) j (record was { places = slice_set was.places o (Live consumed (Some copy)) }))
  copy_shows =
      let same : file_shown t f ≡ file_at (files_shown s fs) k = file_same n s t agree f (none_in n fs k l fresh) ∙ sym (file_is s fs k l) in
      let map_same : map_shown t y ≡ was = map_shows_same n s t agree y none_in_map in
      map-set (file_shown t) fs k g
      ∙ ap (λ xs. slice_set xs k (file_shown t g)) (files_same n s t agree fs fresh)
      ∙ ap (λ ms. slice_set (files_shown s fs) k (record (file_shown t f) { maps = ms })) (map-set (map_shown t) f.maps j (with_copy_at y o consumed n))
      ∙ ap (λ ps. slice_set (files_shown s fs) k (with_map (file_shown t f) j (record (map_shown t y) { places = ps }))) (map-set (place_shown t) y.places o (Live consumed (Some n)))
      ∙ ap (λ h. slice_set (files_shown s fs) k (with_map (file_shown t f) j (record (map_shown t y) {
        places = slice_set (map (place_shown t) y.places) o (Live consumed (Some (record { stamp = n; page = page_in h })));
      }))) is
      ∙ ap (λ (m : Map). slice_set (files_shown s fs) k (with_map (file_shown t f) j (record m { places = slice_set m.places o (Live consumed (Some copy)) }))) map_same
      ∙ ap (λ x. slice_set (files_shown s fs) k (with_map x j (record was { places = slice_set was.places o (Live consumed (Some copy)) }))) same

  -- where there was no copy
  module _ (below : o < length y.places) (was_consumed : Bool) (empty : slice_index_or y.places o Gone ≡ Live was_consumed None) where
    holders : (more : ℕ) → IsHeld s more fs → (m : ℕ) → holders_of (page_at t m) + in_place m (slice_index_or y.places o Gone) ≡ holders_of (page_at s m) + in_place m (Live consumed (Some n))
    holders more h m = grind (arith, common_steps, is_it, is_other, eqb_tells)

    pub copy_held : (more : ℕ) → more_in t.pages ≡ more_in s.pages → more ≤ t.room → IsHeld s more fs → IsHeld t more (slice_set fs k g)
    copy_held more counted parts h =
        place_held fs k j o l jl below (Live consumed (Some n)) s t more more h (holders more h) (some_put n s t agree page is h.some)
        (fresh_stands n fs k l fresh consumed) (h.counted ∙ sym counted) parts
