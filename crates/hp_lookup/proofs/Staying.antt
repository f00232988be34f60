-- What files show where each number that stands in them has the page that it had.
use Rattle.std.proofs.Common.{◌≡◌, ℕ, ◌<◌, None, Some, List, [], ◌∷◌, map, refl, ap, ◌∙◌, arith, sum_by}
use Rattle.std.proofs.lemmas.List.Sums.{sum_by-cons}
use Rattle.hp_laws.proofs.Variants.{Cell, Entered, Gone, Hole, Live, Place, Present}
use Rattle.hp_model.proofs.Words.{Mapping}
use Rattle.hp_store.specs.Store.{Store, page_at}
use Rattle.hp_lookup.proofs.Words.{NumberedFile, cell_shown, file_shown, files_shown, in_cell, in_file, in_files, in_map, in_place, map_shown, page_in, place_shown}
use Rattle.hp_lookup.proofs.Lifting.{is_it}

module _ {X Y : Type 0} (f g : X → Y) (c : ℕ → X → ℕ) (P : ℕ → Type 0) (each : (x : X) → ((n : ℕ) → 0 < c n x → P n) → g x ≡ f x) where
  all_stay : (xs : List X) → ((n : ℕ) → 0 < sum_by (c n) xs → P n) → map g xs ≡ map f xs
  all_stay [] e = refl
  all_stay (x ∷ xs) e =
      ap (λ y. y ∷ map g xs) (each x (λ n l. e n (let parts = sum_by-cons (c n) x xs in omega (arith, parts, l))))
      ∙ ap (λ ys. f x ∷ ys) (all_stay xs (λ n l. e n (let parts = sum_by-cons (c n) x xs in omega (arith, parts, l))))

module _ (s t : Store) where
  -- the number's page is the same
  abbrev pub Stays : ℕ → Type 0
  Stays n = page_in (page_at t n) ≡ page_in (page_at s n)

  here : (k : ℕ) → 0 < in_cell k (Present k)
  here k = (let one = is_it k in omega (arith, one))

  cell_stays : (c : Cell ℕ) → ((n : ℕ) → 0 < in_cell n c → Stays n) → cell_shown t c ≡ cell_shown s c
  cell_stays Hole e = refl
  cell_stays Entered e = refl
  cell_stays (Present k) e = ap (λ p. Present p) (e k (here k))

  place_stays : (p : Place ℕ) → ((n : ℕ) → 0 < in_place n p → Stays n) → place_shown t p ≡ place_shown s p
  place_stays Gone e = refl
  place_stays (Live c None) e = refl
  place_stays (Live c (Some k)) e = ap (λ p. Live c (Some (record { stamp = k; page = p }))) (e k (here k))

  map_stays : (m : Mapping ℕ) → ((n : ℕ) → 0 < in_map n m → Stays n) → map_shown t m ≡ map_shown s m
  map_stays m e = ap (λ ps. record (map_shown s m) { places = ps }) (all_stay (place_shown s) (place_shown t) in_place Stays place_stays m.places e)

  file_stays : (f : NumberedFile) → ((n : ℕ) → 0 < in_file n f → Stays n) → file_shown t f ≡ file_shown s f
  file_stays f e =
      ap (λ cs. record { name = f.name; cells = cs; maps = map (map_shown t) f.maps }) (all_stay (cell_shown s) (cell_shown t) in_cell Stays cell_stays f.cells (λ n l. e n (omega (arith, l))))
      ∙ ap (λ ms. record (file_shown s f) { maps = ms }) (all_stay (map_shown s) (map_shown t) in_map Stays map_stays f.maps (λ n l. e n (omega (arith, l))))

  pub files_stay : (fs : List NumberedFile) → ((n : ℕ) → 0 < in_files n fs → Stays n) → files_shown t fs ≡ files_shown s fs
  files_stay fs e = all_stay (file_shown s) (file_shown t) in_file Stays file_stays fs e
