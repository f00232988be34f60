use Rattle.std.proofs.lemmas.Grind.{common_steps}
-- The first copy of a place: an owner's reservation is consumed.
use Rattle.std.proofs.Common.{◌≡◌, ℕ, zero, suc, ◌-◌, ◌<◌, ◌≤◌, Bool, true, false, cond, nat_lt, List, [], ◌∷◌, length, refl, ap, arith, slice_index_or, slice_set}
use Rattle.std.proofs.lemmas.Bool.{ltb-false}
use Rattle.std.proofs.lemmas.List.{get_or-set_same, set-set}
use Rattle.hp_mapping.specs.Mapped.{at_place, consumed, with_copy}
use Rattle.hp_laws.proofs.Variants.{Gone, Live, Place}
use Rattle.hp_model.proofs.Words.{Mapping, is_live, place_at, with_place}
use Rattle.hp_file.specs.Taking.{first_copy}

live_within : (ps : List (Place ℕ)) (o : ℕ) → is_live (slice_index_or ps o Gone) ≡ true → o < length ps
live_within [] o e = cc
live_within (p ∷ ps) zero e = omega arith
live_within (p ∷ ps) (suc o) e = (let rest = live_within ps o e in omega (arith, rest))

-- a live place lies in the map
pub live_inside : (m : Mapping ℕ) (i : ℕ) → is_live (place_at m i) ≡ true → (m.start ≤ i) × (i - m.start < length m.places)
live_inside m i live = either (nat_lt i m.start) refl live
  where
    either : (b : Bool) → nat_lt i m.start ≡ b → is_live (cond b Gone (slice_index_or m.places (i - m.start) Gone)) ≡ true → (m.start ≤ i) × (i - m.start < length m.places)
    either true from e = cc
    either false from e = (ltb-false i m.start from, live_within m.places (i - m.start) e)

-- what is put at a live place stands there
pub place_put : (m : Mapping ℕ) (i : ℕ) (p : Place ℕ) → is_live (place_at m i) ≡ true → place_at (with_place m i p) i ≡ p
place_put m i p live = either (nat_lt i m.start) live
  where
    either : (b : Bool) → is_live (cond b Gone (slice_index_or m.places (i - m.start) Gone)) ≡ true → cond b Gone (slice_index_or (slice_set m.places (i - m.start) p) (i - m.start) Gone) ≡ p
    either true e = cc
    either false e = get_or-set_same m.places (i - m.start) p Gone (live_within m.places (i - m.start) e)

owned : (number : ℕ) (p : Place ℕ) → consumed (with_copy number p) ≡ first_copy true number p
owned number Gone = refl
owned number (Live was copy) = refl

unowned : (number : ℕ) (p : Place ℕ) → with_copy number p ≡ first_copy false number p
unowned number Gone = refl
unowned number (Live was copy) = refl

module _ (m : Mapping ℕ) (i number : ℕ) where
  pub first_consumed : is_live (place_at m i) ≡ true → at_place consumed i (at_place (with_copy number) i m) ≡ at_place (first_copy true number) i m
  first_consumed live = grind (arith, common_steps, place_put, set-set, owned)

  pub first_put : at_place (with_copy number) i m ≡ at_place (first_copy false number) i m
  first_put = ap (with_place m i) (unowned number (place_at m i))
