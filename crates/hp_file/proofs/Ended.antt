use Rattle.std.proofs.lemmas.Grind.{common_steps}
-- A map that has no index left, and a file without it.
use Rattle.std.proofs.Common.{◌≡◌, ℕ, zero, suc, ◌+◌, ◌<◌, ◌≤◌, Bool, true, false, cond, List, [], ◌∷◌, ◌++◌, length, map, take, drop, refl, sym, ap, ◌∙◌, arith, slice_set, count_by, remove, sum_by}
use Rattle.std.specs.List.{list_any}
use Rattle.std.proofs.lemmas.List.{get_or-set_same, length-set}
use Rattle.std.proofs.lemmas.List.Sums.{sum_by-cons, sum_by-remove}
use Rattle.hp_laws.proofs.Variants.{Gone, Live, Place}
use Rattle.hp_model.proofs.Words.{Mapping, is_live, is_mapped, is_unconsumed, without_range}
use Rattle.hp_lookup.proofs.Words.{NumberedFile, cut_at, file_owed, in_file, in_map, in_place, left_at, mapping_at, owed}

-- ---- all its indices leave

gone_to : (b : ℕ) (ps : List (Place ℕ)) → length ps ≤ b → list_any is_live (map (λ p. Gone) (take b ps) ++ drop b ps) ≡ false
gone_to zero [] l = refl
gone_to (suc b) [] l = refl
gone_to zero (p ∷ ps) l = absurd (omega (arith, l))
gone_to (suc b) (p ∷ ps) l = gone_to b ps (omega (arith, l))

gone_all : (b : ℕ) (ps : List (Place ℕ)) → length ps ≤ b → list_any is_live (take 0 ps ++ map (λ p. Gone) (take b (drop 0 ps)) ++ drop b (drop 0 ps)) ≡ false
gone_all b [] l = gone_to b [] l
gone_all b (p ∷ ps) l = gone_to b (p ∷ ps) l

pub all_gone : (a b : ℕ) (m : Mapping ℕ) → a ≤ m.start → m.start + length m.places ≤ b → is_mapped (without_range a b m) ≡ false
all_gone a b m low high = grind (arith, common_steps, gone_all)

-- ---- it holds nothing and owes nothing

bare_places : (c : Place ℕ → ℕ) → c Gone ≡ 0 → (ps : List (Place ℕ)) → list_any is_live ps ≡ false → sum_by c ps ≡ 0
bare_places c none [] e = refl
bare_places c none (Gone ∷ ps) e = (let rest = bare_places c none ps e in omega (arith, none, rest, sum_by-cons c Gone ps))
bare_places c none (Live t o ∷ ps) e = cc

pub bare_holds : (n : ℕ) (m : Mapping ℕ) → is_mapped m ≡ false → in_map n m ≡ 0
bare_holds n m e = bare_places (in_place n) refl m.places e

pub bare_owes : (m : Mapping ℕ) → is_mapped m ≡ false → owed m ≡ 0
bare_owes m e = either m.owner
  where
    either : (t : Bool) → cond t (count_by is_unconsumed m.places) 0 ≡ 0
    either true = bare_places (λ (p : Place ℕ). cond {A = ℕ} (is_unconsumed p) 1 0) refl m.places e
    either false = refl

-- ---- it goes

pub removed_set : {X : Type 0} (xs : List X) (i : ℕ) (v : X) → remove (slice_set xs i v) i ≡ remove xs i
removed_set [] i v = refl
removed_set (x ∷ xs) zero v = refl
removed_set (x ∷ xs) (suc i) v = ap (λ ys. x ∷ ys) (removed_set xs i v)

module _ (a b j : ℕ) (f : NumberedFile) (jl : j < length f.maps) (gone : is_mapped (without_range a b (mapping_at f j)) ≡ false) where
  abbrev z : Mapping ℕ
  z = without_range a b (mapping_at f j)

  pub left_without : left_at j a b f ≡ record f { maps = remove f.maps j }
  left_without = ap (λ t. record f { maps = cond t (slice_set f.maps j z) (remove f.maps j) }) gone

  sum_without : (c : Mapping ℕ → ℕ) → c z ≡ 0 → sum_by c (remove f.maps j) ≡ sum_by c (slice_set f.maps j z)
  sum_without c none = grind (arith, common_steps, length-set, sum_by-remove, get_or-set_same, removed_set)

  -- the indices go first, and then the map
  module _ (y left : NumberedFile) (y_is : y ≡ cut_at j a b f) (left_is : left ≡ record y { maps = remove y.maps j }) where
    without : left ≡ record f { maps = remove f.maps j }
    without = left_is ∙ ap (λ (g : NumberedFile). record g { maps = remove g.maps j }) y_is ∙ ap (λ ms. record f { maps = ms }) (removed_set f.maps j z)

    pub cut_left : left ≡ left_at j a b f
    cut_left = without ∙ sym left_without

    pub cut_holds : (n : ℕ) → in_file n left ≡ in_file n y
    cut_holds n = (let is = ap (in_file n) without in let was = ap (in_file n) y_is in let maps = sum_without (in_map n) (bare_holds n z gone) in omega (arith, is, was, maps))

    pub cut_owes : file_owed left ≡ file_owed y
    cut_owes = (let is = ap file_owed without in let was = ap file_owed y_is in let maps = sum_without owed (bare_owes z gone) in omega (arith, is, was, maps))
