use Rattle.std.proofs.lemmas.Grind.{common_steps}
-- What an index of entries says of the keys that were put in.
use Rattle.std.proofs.Common.{◌≡◌, ◌||◌, ℕ, zero, suc, ◌+◌, ◌<◌, Bool, true, false, cond, List, [], ◌∷◌, get_or, length, map, slice_get, Option, None, Some, refl, sym, ap, ◌∙◌, arith, position}
use Rattle.std.proofs.Common.{sum_by, swap_remove, unwrap_or}
use Rattle.std.specs.List.{list_any}
use Rattle.std.specs.Map.{keys_of as map_keys, lookup}
use Rattle.std.proofs.lemmas.List.{get_or-map, length-map}
use Rattle.std.proofs.lemmas.List.Quantifiers.{position-Some}
use Rattle.std.proofs.lemmas.List.Sums.{sum_by-cons, sum_by-swap_remove}
use Rattle.indexmap.proofs.MapLemmas.{swap_remove_entry-found, swap_remove_entry-missing}
use Rattle.indexmap.specs.IndexMap.{insert_entry, swap_remove_entry}

none_of : (a b : Bool) → (a || b) ≡ false → (a ≡ false) × (b ≡ false)
none_of true b e = cc
none_of false b e = (refl, e)

or_left : (a b : Bool) → a ≡ true → (a || b) ≡ true
or_left true b e = refl
or_left false b e = cc

or_right : (a b : Bool) → b ≡ true → (a || b) ≡ true
or_right true b e = refl
or_right false b e = e

-- f is what is seen of a key
module _ {K Y X : Type 0} (f : K → Y) (test : Y → Bool) where
  abbrev pub noted : List (K × X) → Bool
  noted es = list_any test (map (λ e. f e.0) es)

  -- a key that is not found was not put in
  pub not_found : (own : K → Bool) → ((k : K) → own k ≡ test (f k)) → (es : List (K × X)) → lookup own es ≡ None → noted es ≡ false
  not_found own same [] e = refl
  not_found own same (x ∷ es) e = at (own x.0) (same x.0) (not_found own same es) e
    where
      at : (b : Bool) → b ≡ test (f x.0) → (lookup own es ≡ None → noted es ≡ false) → cond b (Some x.1) (lookup own es) ≡ None → (test (f x.0) || noted es) ≡ false
      at true is rest e = cc
      at false is rest e = ap (λ b. b || noted es) (sym is) ∙ rest e

  none_noted : (es : List (K × X)) → noted es ≡ false → sum_by (λ e. cond {A = ℕ} (test (f e.0)) 1 0) es ≡ 0
  none_noted [] e = refl
  none_noted (x ∷ es) e =
      let parts = none_of (test (f x.0)) (noted es) e in
      let here = ap (λ b. cond {A = ℕ} b 1 0 + 0) parts.0 in
      let rest = none_noted es parts.1 in
      omega (arith, here, rest, sum_by-cons (λ e. cond {A = ℕ} (test (f e.0)) 1 0) x es)

  noted_none : (es : List (K × X)) → sum_by (λ e. cond {A = ℕ} (test (f e.0)) 1 0) es ≡ 0 → noted es ≡ false
  noted_none [] e = refl
  noted_none (x ∷ es) e = (let step = sum_by-cons (λ e. cond {A = ℕ} (test (f e.0)) 1 0) x es in at (test (f x.0)) refl (noted_none es (omega (arith, step, e))) step)
    where
      at : (b : Bool) → test (f x.0) ≡ b → noted es ≡ false → sum_by (λ e. cond {A = ℕ} (test (f e.0)) 1 0) (x ∷ es) ≡ cond {A = ℕ} (test (f x.0)) 1 0
          + sum_by (λ e. cond {A = ℕ} (test (f e.0)) 1 0) es → (test (f x.0) || noted es) ≡ false
      at true is rest step = (let here = ap (λ b. cond {A = ℕ} b 1 0 + 0) is in absurd (omega (arith, here, step, e)))
      at false is rest step = ap (λ b. b || noted es) is ∙ rest

  -- an entry goes, and the last one stands in its place
  pub rest_stay : (es : List (K × X)) (i : ℕ) (d : K × X) → i < length es → test (f (get_or es i d).0) ≡ false → noted (swap_remove es i d) ≡ false → noted es ≡ false
  rest_stay es i d inside out e = grind (arith, common_steps, sum_by-swap_remove, none_noted, noted_none)

  -- nothing is put in by that
  pub still_out : (es : List (K × X)) (i : ℕ) (d : K × X) → i < length es → noted es ≡ false → noted (swap_remove es i d) ≡ false
  still_out es i d inside e = grind (arith, common_steps, sum_by-swap_remove, none_noted, noted_none)

  pub key_still_out : (own : K → Bool) (es : List (K × X)) → noted es ≡ false → noted (swap_remove_entry own es) ≡ false
  key_still_out own [] e = e
  key_still_out own (x ∷ es) e = by (position own (map_keys (x ∷ es))) refl
    where
      by : (o : Option ℕ) → position own (map_keys (x ∷ es)) ≡ o → noted (swap_remove_entry own (x ∷ es)) ≡ false
      by None h = ap noted (swap_remove_entry-missing own (x ∷ es) h) ∙ e
      by (Some i) h =
          let below = (position-Some own (map_keys (x ∷ es)) i x.0 h).0 in
          let long = length-map (x ∷ es) (λ (p : K × X). p.0) in
          let inside : i < length (x ∷ es) = omega (arith, below, long) in
          ap noted (swap_remove_entry-found own (x ∷ es) i x h) ∙ still_out (x ∷ es) i x inside e

  -- the same of a key
  pub others_stay : (own : K → Bool) → ((k : K) → own k ≡ true → test (f k) ≡ false) → (es : List (K × X)) → noted (swap_remove_entry own es) ≡ false → noted es ≡ false
  others_stay own out [] e = e
  others_stay own out (x ∷ es) e = by (position own (map_keys (x ∷ es))) refl
    where
      by : (o : Option ℕ) → position own (map_keys (x ∷ es)) ≡ o → noted (x ∷ es) ≡ false
      by None h = sym (ap noted (swap_remove_entry-missing own (x ∷ es) h)) ∙ e
      by (Some i) h =
          let at = position-Some own (map_keys (x ∷ es)) i x.0 h in
          let below = at.0 in
          let long = length-map (x ∷ es) (λ (p : K × X). p.0) in
          let inside : i < length (x ∷ es) = omega (arith, below, long) in
          let key = get_or-map (λ (p : K × X). p.0) (x ∷ es) i x x.0 inside in
          rest_stay (x ∷ es) i x inside (out (get_or (x ∷ es) i x).0 (ap own (sym key) ∙ at.1)) (sym (ap noted (swap_remove_entry-found own (x ∷ es) i x h)) ∙ e)

  module _ (eq : K → K → Bool) (k : K) (v : X) where
    pub stays : (es : List (K × X)) → noted (insert_entry eq es k v) ≡ false → noted es ≡ false
    stays [] e = refl
    stays (x ∷ es) e = at (eq k x.0) (stays es) e
      where
        at : (b : Bool) → (noted (insert_entry eq es k v) ≡ false → noted es ≡ false) → noted (cond b ((x.0, v) ∷ es) (x ∷ insert_entry eq es k v)) ≡ false → noted (x ∷ es) ≡ false
        at true rest e = e
        at false rest e = (let parts = none_of (test (f x.0)) (noted (insert_entry eq es k v)) e in ap (λ b. b || noted es) parts.0 ∙ rest parts.1)

    -- another key is put in
    pub other_in : test (f k) ≡ false → (es : List (K × X)) → noted es ≡ false → noted (insert_entry eq es k v) ≡ false
    other_in out [] e = ap (λ b. b || false) out
    other_in out (x ∷ es) e = (let parts = none_of (test (f x.0)) (noted es) e in at (eq k x.0) parts.0 parts.1 (other_in out es parts.1))
      where
        at : (b : Bool) → test (f x.0) ≡ false → noted es ≡ false → noted (insert_entry eq es k v) ≡ false → noted (cond b ((x.0, v) ∷ es) (x ∷ insert_entry eq es k v)) ≡ false
        at true here left rest = ap (λ b. b || noted es) here ∙ left
        at false here left rest = ap (λ b. b || noted (insert_entry eq es k v)) here ∙ rest

    pub put_in : ((y : K) → eq k y ≡ true → test (f y) ≡ true) → test (f k) ≡ true → (es : List (K × X)) → noted (insert_entry eq es k v) ≡ true
    put_in alike own [] = or_left (test (f k)) false own
    put_in alike own (x ∷ es) = at (eq k x.0) refl (put_in alike own es)
      where
        at : (b : Bool) → eq k x.0 ≡ b → noted (insert_entry eq es k v) ≡ true → noted (cond b ((x.0, v) ∷ es) (x ∷ insert_entry eq es k v)) ≡ true
        at true e rest = or_left (test (f x.0)) (noted es) (alike x.0 e)
        at false e rest = or_right (test (f x.0)) (noted (insert_entry eq es k v)) rest

-- what stands at the place of a key
pub keyed_at : {K X : Type 0} (es : List (K × X)) (i : ℕ) (k : K) → slice_get (map (λ e. e.0) es) i ≡ Some k → (x : X) × (slice_get es i ≡ Some (k, x))
keyed_at [] i k e = cc
keyed_at (x ∷ es) zero k e = (x.1, ap (λ k. Some (k, x.1)) (ap (λ o. unwrap_or o x.0) e))
keyed_at (x ∷ es) (suc i) k e = keyed_at es i k e
