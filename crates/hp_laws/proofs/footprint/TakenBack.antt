-- An owner that takes its copy back: it keeps its place, and all other maps lose the copy at that index, the only one where it stands.
use Rattle.std.proofs.Common.{arith, ◌≡◌, inl, inr, ◌⊎◌, subst, ℕ, ◌+◌, ◌-◌, ◌<◌, ◌≤◌, ◌==◌, Bool, true, false, None, Option, Some, length, map, nat_lt, refl, sym, ap, ◌∙◌, if◌then◌else◌}
use Rattle.std.proofs.Common.{slice_index_or}
use Rattle.std.specs.List.{list_any}
use Rattle.std.proofs.lemmas.Bool.{cases_lt, eq-eqb, eqb-true, false_from_ne_true}
use Rattle.std.proofs.lemmas.List.{get_or_default, get_or_past, length-map}
use Rattle.std.proofs.lemmas.List.Folds.{list_any_at, list_any_none}
use Rattle.hp_laws.proofs.Variants.{Gone, Place}
use Rattle.hp_model.proofs.Words.{Copy, File, IsSoundFile, Map, copy_of, drop_stamp, holds, map_in, no_map, place_at, robbed, without_copy}
use Rattle.hp_laws.proofs.lists.Looks.{get_map}
use Rattle.hp_model.specs.machine.Footprint.{at_each, losing, with_places}
use Rattle.hp_laws.proofs.footprint.Ranges.{at_each_is, map_at}
use Rattle.hp_laws.proofs.footprint.Truncates.{at_index}

module _ (stamp i : ℕ) (x : Map) (only : (l n : ℕ) → n ≡ x.start + l → holds stamp (slice_index_or x.places l Gone) ≡ true → n ≡ i) where
  -- where it holds the copy there
  record Held : Type 0 where
    pub at : ℕ
    pub index : i ≡ x.start + at
    pub within : at < length x.places
    pub holds : holds stamp (slice_index_or x.places at Gone) ≡ true

  held : holds stamp (place_at x i) ≡ true → Held
  held e = by_start (nat_lt i x.start) refl e
    where
      by_length : (l : ℕ) → i ≡ x.start + l → holds stamp (slice_index_or x.places l Gone) ≡ true → (l < length x.places) ⊎ (length x.places ≤ l) → Held
      by_length l index e (inl low) = record { at = l; index = index; within = low; holds = e }
      by_length l index e (inr past) = (let never : false ≡ true = sym (ap (holds stamp) (get_or_past x.places l Gone past)) ∙ e in cc)

      by_start : (b : Bool) → nat_lt i x.start ≡ b → holds stamp (if b then Gone else slice_index_or x.places (i - x.start) Gone) ≡ true → Held
      by_start true is e = (let never : false ≡ true = e in cc)
      by_start false is e = by_length (i - x.start) (low_enough is) e (cases_lt (i - x.start) (length x.places))
        where
          low_enough : nat_lt i x.start ≡ false → i ≡ x.start + (i - x.start)
          low_enough is = grind arith

  dropped : (n : ℕ) (p : Place Copy) → (holds stamp p ≡ true → n ≡ i) → (n ≡ i → holds stamp p ≡ true) → drop_stamp stamp p ≡ (if n == i then without_copy p else p)
  dropped n p to from = by_test (holds stamp p) refl
    where
      by_test : (b : Bool) → holds stamp p ≡ b → (if b then without_copy p else p) ≡ (if n == i then without_copy p else p)
      by_test true is = sym (ap (λ b. if b then without_copy p else p) (eq-eqb n i (to is)))
      by_test false is =
          sym (ap (λ b. if b then without_copy p else p)
          (false_from_ne_true (n == i) (λ e. (let never : false ≡ true = sym is ∙ from (eqb-true n i e) in cc))))

  all_dropped : Held → map (drop_stamp stamp) x.places ≡ at_each (λ n p. if n == i then without_copy p else p) x.start x.places
  all_dropped h =
      at_each_is (λ n p. if n == i then without_copy p else p) Gone x.start x.places (map (drop_stamp stamp) x.places) (length-map x.places (drop_stamp stamp))
      (λ l n e low. get_map (drop_stamp stamp) Gone refl x.places l
      ∙ dropped n (slice_index_or x.places l Gone) (λ holds. only l n e holds)
      (λ same. (let place : l ≡ h.at = (let index = h.index in omega (arith, same, e, index)) in subst (λ y. holds stamp (slice_index_or x.places y Gone) ≡ true) (sym place) h.holds)))

  none_held : holds stamp (place_at x i) ≡ false → list_any (holds stamp) x.places ≡ false
  none_held is =
      list_any_none (holds stamp) x.places
      (λ l d low. false_from_ne_true (holds stamp (slice_index_or x.places l d)) (λ e.
      (let there : holds stamp (slice_index_or x.places l Gone) ≡ true = subst (λ p. holds stamp p ≡ true) (get_or_default x.places l d Gone low) e in
      let same : x.start + l ≡ i = only l (x.start + l) refl there in
      let never : true ≡ false = sym there ∙ ap (holds stamp) (sym (at_index x l i (sym same))) ∙ is in cc)))

  pub robbed_is : robbed stamp x ≡ losing stamp i x
  robbed_is = by_held (holds stamp (place_at x i)) refl
    where
      by_held : (b : Bool) → holds stamp (place_at x i) ≡ b
          → robbed stamp x ≡ (if b then record (with_places (λ j p. if j == i then without_copy p else p) x) { unmapped = true } else x)
      by_held true is =
          let h = held is in
          ap (λ b. if b then record x { unmapped = true; places = map (drop_stamp stamp) x.places } else x) (list_any_at (holds stamp) x.places h.at Gone h.within h.holds)
          ∙ ap (λ ps. record x { unmapped = true; places = ps }) (all_dropped h)
      by_held false is = ap (λ b. if b then record x { unmapped = true; places = map (drop_stamp stamp) x.places } else x) (none_held is)

-- ---- on a sound file

module _ (f : File) (sound : IsSoundFile f) (i : ℕ) (copy : Copy) (l : ℕ) (here : copy_of (place_at (map_in f l) i) ≡ Some copy) where
  held_copy : (p : Place Copy) → holds copy.stamp p ≡ true → (c : Copy) × ((copy_of p ≡ Some c) × (c.stamp ≡ copy.stamp))
  held_copy p e = by_copy (copy_of p) refl e
    where
      by_copy : (o : Option Copy) → copy_of p ≡ o → (elim o [ None ↦ false | Some c ↦ c.stamp == copy.stamp ]) ≡ true → (c : Copy) × ((copy_of p ≡ Some c) × (c.stamp ≡ copy.stamp))
      by_copy None is e = cc
      by_copy (Some c) is e = (c, (is, eqb-true c.stamp copy.stamp e))

  only_there : (x j n : ℕ) → n ≡ (map_in f x).start + j → holds copy.stamp (slice_index_or (map_in f x).places j Gone) ≡ true → n ≡ i
  only_there x j n e h =
      let at = held_copy (slice_index_or (map_in f x).places j Gone) h in
      (sound.copies n i at.0 copy (x, ap copy_of (at_index (map_in f x) j n e) ∙ at.1.0) (l, here) at.1.1).0

  pub all_robbed : map (robbed copy.stamp) f.maps ≡ map (losing copy.stamp i) f.maps
  all_robbed = map_at (robbed copy.stamp) (losing copy.stamp i) no_map f.maps (λ x low. robbed_is copy.stamp i (map_in f x) (only_there x))
