use Rattle.std.proofs.lemmas.Grind.{common_steps}
-- What a change of the store under one number shows.
use Rattle.std.proofs.Common.{◌≡◌, ◌≢◌, ℕ, zero, suc, ◌<◌, ◌≤◌, ◌==◌, ⊎_elim, Bool, cond, None, Some, List, [], ◌∷◌, length, map, refl, sym, ap, ◌∙◌, arith, slice_set, slice_index_or, sum_by}
use Rattle.std.proofs.lemmas.Bool.{eq-eqb}
use Rattle.std.proofs.lemmas.Bool.Decides.{eqb_tells}
use Rattle.std.proofs.lemmas.List.Sums.{sum_by-cons}
use Rattle.hp_laws.proofs.Variants.{Cell, Entered, Gone, Hole, Live, Place, Present}
use Rattle.hp_model.proofs.Words.{Mapping}
use Rattle.hp_store.specs.Store.{Store, page_at}
use Rattle.hp_lookup.proofs.Words.{NumberedFile, cell_shown, file_shown, files_shown, in_cell, in_file, in_files, in_map, in_place, map_shown, page_in, place_shown}

-- ---- lists

zero_one : ◌≡◌ {A = ℕ} 1 0 → ⊥
zero_one e = cc

none_below : (k : ℕ) → k < 0 → ⊥
none_below k l = omega (arith, l)

module _ {X Y : Type 0} (f g : X → Y) (c : X → ℕ) (same : (x : X) → c x ≡ 0 → g x ≡ f x) where
  -- no element counts
  pub map_same : (xs : List X) → sum_by c xs ≡ 0 → map g xs ≡ map f xs
  map_same [] e = refl
  map_same (x ∷ xs) e =
      let parts = sum_by-cons c x xs in
      ap (λ y. y ∷ map g xs) (same x (omega (arith, parts, e))) ∙ ap (λ ys. f x ∷ ys) (map_same xs (omega (arith, parts, e)))

  pub at_most : (xs : List X) (k : ℕ) (d : X) → k < length xs → c (slice_index_or xs k d) ≤ sum_by c xs
  at_most [] k d l = omega (arith, l)
  at_most (x ∷ xs) zero d l = (let parts = sum_by-cons c x xs in omega (arith, parts))
  at_most (x ∷ xs) (suc k) d l = (let parts = sum_by-cons c x xs in let rest = at_most xs k d (omega (arith, l)) in omega (arith, parts, rest))

  -- one element alone counts
  pub map_but : (xs : List X) (k : ℕ) (d : X) → k < length xs → sum_by c xs ≡ c (slice_index_or xs k d) → map g xs ≡ slice_set (map f xs) k (g (slice_index_or xs k d))
  map_but [] k d l e = absurd (none_below k l)
  map_but (x ∷ xs) zero d l e =
      let parts = sum_by-cons c x xs in
      ap (λ ys. g x ∷ ys) (map_same xs (omega (arith, parts, e)))
  map_but (x ∷ xs) (suc k) d l e =
      let parts = sum_by-cons c x xs in
      let rest = at_most xs k d (omega (arith, l)) in
      ap (λ y. y ∷ map g xs) (same x (omega (arith, parts, rest, e))) ∙ ap (λ ys. f x ∷ ys) (map_but xs k d (omega (arith, l)) (omega (arith, parts, rest, e)))

-- ---- two stores that differ under one number

abbrev pub Agree : ℕ → Store → Store → Type 0
Agree n s t = (k : ℕ) → k ≢ n → page_at t k ≡ page_at s k

abbrev pub bit : Bool → ℕ
bit b = cond b 1 0

pub not_it : (k n : ℕ) → ◌≡◌ {A = ℕ} (bit (k == n)) 0 → k ≢ n
not_it k n e = ⊎_elim (λ l. (let one : ◌≡◌ {A = ℕ} 1 (bit (k == n)) = sym (ap bit l.0) in absurd (zero_one (one ∙ e)))) (λ r. r.1) (eqb_tells k n)

pub is_it : (n : ℕ) → ◌≡◌ {A = ℕ} (bit (n == n)) 1
is_it n = ap bit (eq-eqb n n refl)

pub is_other : (k n : ℕ) → k ≢ n → ◌≡◌ {A = ℕ} (bit (k == n)) 0
is_other k n other = ⊎_elim (λ l. absurd (other l.1)) (λ r. ap bit r.0) (eqb_tells k n)

module _ (n : ℕ) (s t : Store) (agree : Agree n s t) where
  pub cell_same : (c : Cell ℕ) → in_cell n c ≡ 0 → cell_shown t c ≡ cell_shown s c
  cell_same Hole e = refl
  cell_same Entered e = refl
  cell_same (Present k) e = ap (λ h. Present (page_in h)) (agree k (not_it k n e))

  pub place_same : (p : Place ℕ) → in_place n p ≡ 0 → place_shown t p ≡ place_shown s p
  place_same Gone e = refl
  place_same (Live c None) e = refl
  place_same (Live c (Some k)) e = ap (λ h. Live c (Some (record { stamp = k; page = page_in h }))) (agree k (not_it k n e))

  pub map_shows_same : (m : Mapping ℕ) → in_map n m ≡ 0 → map_shown t m ≡ map_shown s m
  map_shows_same m e = ap (λ ps. record (map_shown s m) { places = ps }) (map_same (place_shown s) (place_shown t) (in_place n) place_same m.places e)

  pub file_same : (f : NumberedFile) → in_file n f ≡ 0 → file_shown t f ≡ file_shown s f
  file_same f e = grind (arith, common_steps, map_same, cell_same, map_shows_same)

  pub files_same : (fs : List NumberedFile) → in_files n fs ≡ 0 → files_shown t fs ≡ files_shown s fs
  files_same fs e = map_same (file_shown s) (file_shown t) (in_file n) file_same fs e
