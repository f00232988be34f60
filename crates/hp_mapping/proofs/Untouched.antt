use Rattle.std.proofs.lemmas.Grind.{common_steps}
-- Places of which only the first were ever touched.
use Rattle.std.proofs.Common.{◌≡◌, ℕ, zero, suc, ◌+◌, ◌-◌, ◌<◌, ◌≤◌, true, is_some, List, ◌∷◌, ◌++◌, length, map, replicate, slice_index_or, slice_set, refl, sym, ◌∙◌, ap, inl, inr, arith}
use Rattle.std.proofs.lemmas.Bool.{cases_lt}
use Rattle.std.proofs.lemmas.List.{append_assoc, get_or_append_left, get_or-append_right, get_or_default, length-append, length-map}
use Rattle.std.proofs.lemmas.List.{length-replicate, length-set, map-append, replicate-append-replicate, set-append_left}
use Rattle.hp_model.specs.declared.place.Place.{Place}
use Rattle.hp_model.specs.declared.place.Place.TheVariants.{Gone}
use Rattle.hp_model.proofs.Words.{copy_of, unconsumed}
use Rattle.hp_mapping.specs.Mapped.{fresh, with_fresh}

module _ (count : ℕ) (first : List (Place ℕ)) where
  abbrev rest : List (Place ℕ)
  rest = replicate (count - length first) fresh

  pub long : length first ≤ count → length (with_fresh count first) ≡ count
  long fits = omega (arith, length-append first rest, length-replicate (count - length first) fresh, fits)

  pub get_touched : (at : ℕ) → at < length first → (d : Place ℕ) → slice_index_or first at d ≡ slice_index_or (with_fresh count first) at Gone
  get_touched at less d = get_or_default first at d Gone less ∙ sym (get_or_append_left first rest Gone at less)

  pub set_touched : (at : ℕ) (p : Place ℕ) → at < length first → with_fresh count (slice_set first at p) ≡ slice_set (with_fresh count first) at p
  set_touched at p less = ap (λ n. slice_set first at p ++ replicate (count - n) fresh) (length-set first at p) ∙ sym (set-append_left first rest at p less)

  -- a place that has a copy was touched
  pub copied_touched : (at : ℕ) → is_some (copy_of (slice_index_or (with_fresh count first) at Gone)) ≡ true → at < length first
  copied_touched at some =
      elim (cases_lt at (length first)) as (λ _. at < length first) [
        | inl less ↦ less
        | inr le ↦ let here = ap (λ p. is_some (copy_of p)) (get_or-append_right first rest (length first) at Gone refl le) in
            absurd (bare (count - length first) (at - length first) (sym here ∙ some))
      ]
    where
      bare : (n k : ℕ) → is_some (copy_of (slice_index_or (replicate n fresh) k Gone)) ≡ true → ⊥
      bare zero k e = cc
      bare (suc n) zero e = cc
      bare (suc n) (suc k) e = bare n k e

  -- more of them are written
  pub with_more : (more : ℕ) → length first + more ≤ count → with_fresh count (first ++ replicate more fresh) ≡ with_fresh count first
  with_more more fits = grind (arith, common_steps, length-replicate, length-append, append_assoc, replicate-append-replicate)

-- a place is touched first, and then read or changed
module _ (count : ℕ) (first now : List (Place ℕ)) (at : ℕ) (fits : length first ≤ count) (less : at < count) (now_is : now ≡ first ++ replicate (at + 1 - length first) fresh) where
  within : at < length now
  within = (let long = ap length now_is in omega (arith, long, length-append first (replicate (at + 1 - length first) fresh), length-replicate (at + 1 - length first) fresh))

  same : with_fresh count now ≡ with_fresh count first
  same = ap (with_fresh count) now_is ∙ with_more count first (at + 1 - length first) (omega (arith, fits, less))

  pub get_after : (d : Place ℕ) → slice_index_or now at d ≡ slice_index_or (with_fresh count first) at Gone
  get_after d = get_touched count now at within d ∙ ap (λ xs. slice_index_or xs at Gone) same

  pub set_after : (p : Place ℕ) → with_fresh count (slice_set now at p) ≡ slice_set (with_fresh count first) at p
  set_after p = set_touched count now at p within ∙ ap (λ xs. slice_set xs at p) same

-- the places of a child's map
pub forked_fresh : (count : ℕ) (first : List (Place ℕ)) → with_fresh count (map unconsumed first) ≡ map unconsumed (with_fresh count first)
forked_fresh count first =
    ap (λ n. map unconsumed first ++ replicate (count - n) fresh) (length-map first unconsumed)
    ∙ sym (map-append unconsumed first (replicate (count - length first) fresh) ∙ ap (λ xs. map unconsumed first ++ xs) (each (count - length first)))
  where
    each : (n : ℕ) → map unconsumed (replicate n fresh) ≡ replicate n fresh
    each zero = refl
    each (suc n) = ap (λ xs. fresh ∷ xs) (each n)
