use Rattle.std.proofs.lemmas.Grind.{common_steps}
-- Places in chunks of which some were never written.
use Rattle.std.proofs.Common.{◌≡◌, ◌≢◌, ℕ, ◌+◌, ◌-◌, ◌*◌, ◌/◌, ◌%◌, ◌<◌, ◌≤◌, inl, inr, true, nat_lt, is_some, List, ◌++◌, length, map, replicate, take, drop, slice_index, slice_index_or, slice_set}
use Rattle.std.proofs.Common.{cond, refl, sym, ◌∙◌, ap, arith, count_by}
use Rattle.std.proofs.lemmas.Bool.{cases_eq, cases_lt, lt-ltb}
use Rattle.std.proofs.lemmas.List.{same_lists, get_or-set_same, get_or-set_other, get_or-replicate, get_or_append_left, get_or-append_right, get_or-drop, get_or-take}
use Rattle.std.proofs.lemmas.List.{get_or_default, get_or_past, length-append, length-drop, length-map, length-replicate, length-set, length-take}
use Rattle.std.proofs.lemmas.List.Folds.{sum_by-replicate}
use Rattle.std.proofs.lemmas.List.FromFn.{fill_by_all, get_or-map-range_with_len, length-map-range_with_len}
use Rattle.std.proofs.lemmas.List.Sums.{count_by-le-length, sum_by-set}
use Rattle.hp_model.specs.declared.place.Place.{Place}
use Rattle.hp_model.specs.declared.place.Place.TheVariants.{Gone}
use Rattle.hp_model.proofs.Words.{copy_of, unconsumed}
use Rattle.hp_mapping.specs.Mapped.{fresh, IsPlaceRun}
use Rattle.hp_mapping.specs.Chunks.{all_places, slot_of, IsChunked, IsSame}
use Rattle.hp_mapping.proofs.MarkedPlaces.{forked_at}

-- ---- what is read

module _ (count : ℕ) (homes : List ℕ) (places : List (Place ℕ)) where
  abbrev all : List (Place ℕ)
  all = all_places count homes places

  abbrev here : ℕ → Place ℕ
  here k = slice_index_or places (slot_of homes k) Gone

  pub long : length all ≡ count
  long = length-map-range_with_len here 0 count

  pub get_place : (k : ℕ) → k < count → slice_index_or all k Gone ≡ here k
  get_place k less = get_or-map-range_with_len here 0 count k k Gone less (omega arith)

  pub get_none : (k : ℕ) → count ≤ k → slice_index_or all k Gone ≡ Gone
  get_none k past = get_or_past all k Gone (omega (arith, long))

  pub same_as : (xs : List (Place ℕ)) → length xs ≡ count → ((k : ℕ) → k < count → slice_index_or xs k Gone ≡ here k) → xs ≡ all
  same_as xs len same = fill_by_all here xs count Gone len same

  pub some_within : (k : ℕ) → is_some (copy_of (slice_index_or all k Gone)) ≡ true → k < count
  some_within k some =
      elim (cases_lt k count) as (λ _. k < count) [
        | inl less ↦ less
        | inr past ↦ let none = ap (λ p. is_some (copy_of p)) (get_none k past) in absurd (clash (sym none ∙ some))
      ]
    where
      clash : is_some (copy_of {C = ℕ} Gone) ≡ true → ⊥
      clash e = cc

-- ---- a chunk of its own

module _ (count : ℕ) (homes : List ℕ) (places : List (Place ℕ)) (chunked : IsChunked homes places) where
  pub slot_within : (k : ℕ) → slot_of homes k < length places
  slot_within k = (let fits = chunked.within (k / 64) in omega (arith, fits))

  pub place_is : (at slot : ℕ) → at < count → slot ≡ slot_of homes at → (d : Place ℕ) → slice_index_or places slot d ≡ slice_index_or (all_places count homes places) at Gone
  place_is at slot less slot_is d =
      ap (λ s. slice_index_or places s d) slot_is ∙ get_or_default places (slot_of homes at) d Gone (slot_within at) ∙ sym (get_place count homes places at less)

  -- a place that has a copy stands in one
  pub copied_own : (at : ℕ) → is_some (copy_of (slice_index_or (all_places count homes places) at Gone)) ≡ true → 0 < slice_index homes (at / 64)
  copied_own at some =
      elim (cases_lt 0 (slice_index homes (at / 64))) as (λ _. 0 < slice_index homes (at / 64)) [
        | inl own ↦ own
        | inr none ↦
            let slot : slot_of homes at ≡ at % 64 = omega (arith, none) in
            let blank = get_place count homes places at (some_within count homes places at some) ∙ ap (λ s. slice_index_or places s Gone) slot ∙ chunked.blank (at % 64) (omega arith) in
            absurd (clash (sym (ap (λ p. is_some (copy_of p)) blank) ∙ some))
      ]
    where
      clash : is_some (copy_of fresh) ≡ true → ⊥
      clash e = cc

  module _ (at : ℕ) (p : Place ℕ) (own : 0 < slice_index homes (at / 64)) where
    abbrev slot : ℕ
    slot = slot_of homes at

    slots_apart : (k : ℕ) → k ≢ at → slot_of homes k ≢ slot
    slots_apart k other same = grind (arith, common_steps, own)

    pub set_place : at < count → all_places count homes (slice_set places slot p) ≡ slice_set (all_places count homes places) at p
    set_place less =
        let old = all_places count homes places in
        sym (same_as count homes (slice_set places slot p) (slice_set old at p) (length-set old at p ∙ long count homes places)
        (λ k below. elim (cases_eq k at) as (λ _. slice_index_or (slice_set old at p) k Gone ≡ slice_index_or (slice_set places slot p) (slot_of homes k) Gone) [
          | inl e ↦ rw e (get_or-set_same old at p Gone (omega (arith, less, long count homes places)) ∙ sym (get_or-set_same places slot p Gone (slot_within at)))
          | inr other ↦ get_or-set_other old at k p Gone other ∙ get_place count homes places k below ∙ sym (get_or-set_other places slot (slot_of homes k) p Gone (slots_apart k other))
        ]))

-- a place comes into a chunk of its own, and is read or changed
module _ (count : ℕ) (homes : List ℕ) (places : List (Place ℕ)) (new : List ℕ) (now : List (Place ℕ)) (at slot : ℕ) (chunked : IsChunked new now)
    (same : IsSame homes places new now) (less : at < count) (slot_is : slot ≡ slot_of new at) where
  as_before : all_places count new now ≡ all_places count homes places
  as_before = same_as count homes places (all_places count new now) (long count new now) (λ k below. get_place count new now k below ∙ same k)

  pub get_touched : (d : Place ℕ) → slice_index_or now slot d ≡ slice_index_or (all_places count homes places) at Gone
  get_touched d = place_is count new now chunked at slot less slot_is d ∙ ap (λ xs. slice_index_or xs at Gone) as_before

  module _ (p : Place ℕ) (own : 0 < slice_index new (at / 64)) where
    pub set_touched : all_places count new (slice_set now slot p) ≡ slice_set (all_places count homes places) at p
    set_touched =
        ap (λ s. all_places count new (slice_set now s p)) slot_is ∙ set_place count new now chunked at p own less ∙ ap (λ xs. slice_set xs at p) as_before

-- ---- all are fresh

no_home : (n w : ℕ) → slice_index (replicate n 0) w ≡ 0
no_home n w = grind (arith, common_steps, cases_lt, get_or-replicate, get_or_past, length-replicate)

pub chunked_fresh : (n : ℕ) → IsChunked (replicate n 0) (replicate 64 fresh)
chunked_fresh n = record {
  blank = λ k less. get_or-replicate 64 k fresh Gone less;
  within = λ w. (let none = no_home n w in omega (arith, none, length-replicate 64 fresh));
  apart = λ v w same own. (let none = no_home n v in absurd (omega (arith, none, own)));
  used = (let none = sum_by-replicate (λ home. cond {A = ℕ} (nat_lt 0 home) 1 0) n 0 in omega (arith, none, length-replicate 64 fresh));
}

pub all_fresh : (count n : ℕ) → all_places count (replicate n 0) (replicate 64 fresh) ≡ replicate count fresh
all_fresh count n =
    sym (same_as count (replicate n 0) (replicate 64 fresh) (replicate count fresh) (length-replicate count fresh)
    (λ k less. (let none = no_home n (k / 64) in get_or-replicate count k fresh Gone less ∙ sym (get_or-replicate 64 (slot_of (replicate n 0) k) fresh Gone (omega (arith, none))))))

-- ---- a child's

pub chunked_forked : (homes : List ℕ) (places : List (Place ℕ)) → IsChunked homes places → IsChunked homes (map unconsumed places)
chunked_forked homes places chunked = grind (arith, common_steps, forked_at, length-map)

pub all_forked : (count : ℕ) (homes : List ℕ) (places : List (Place ℕ)) → all_places count homes (map unconsumed places) ≡ map unconsumed (all_places count homes places)
all_forked count homes places =
    let old = all_places count homes places in
    sym (same_as count homes (map unconsumed places) (map unconsumed old) (length-map old unconsumed ∙ long count homes places)
    (λ k less. forked_at old k ∙ ap unconsumed (get_place count homes places k less) ∙ sym (forked_at places (slot_of homes k))))

-- ---- a chunk comes

module _ (homes : List ℕ) (places : List (Place ℕ)) (index home : ℕ) (chunked : IsChunked homes places) (none : slice_index homes index ≡ 0)
    (within : index < length homes) (home_is : home ≡ length places / 64) where
  abbrev is_own : ℕ → ℕ
  is_own h = cond (nat_lt 0 h) 1 0

  abbrev more : List ℕ
  more = slice_set homes index home

  abbrev longer : List (Place ℕ)
  longer = places ++ replicate 64 fresh

  own : 0 < home
  own = (let used = chunked.used in omega (arith, used, home_is))

  whole : length places ≡ 64 * home
  whole = (let used = chunked.used in omega (arith, used, home_is))

  length_longer : length longer ≡ 64 * home + 64
  length_longer = omega (arith, whole, length-append places (replicate 64 fresh), length-replicate 64 fresh)

  counted : count_by (λ h. nat_lt 0 h) more ≡ count_by (λ h. nat_lt 0 h) homes + 1
  counted = grind (arith, common_steps, sum_by-set, lt-ltb, own)

  -- there was room for it
  pub home_few : home ≤ length homes
  home_few = (let used = chunked.used in omega (arith, used, home_is, counted, count_by-le-length (λ h. nat_lt 0 h) more, length-set homes index home))

  at_index : slice_index more index ≡ home
  at_index = get_or-set_same homes index home 0 within

  elsewhere : (w : ℕ) → w ≢ index → slice_index more w ≡ slice_index homes w
  elsewhere w other = get_or-set_other homes index w home 0 other

  lower : (w : ℕ) → slice_index homes w < home
  lower w = (let fits = chunked.within w in omega (arith, fits, whole))

  pub chunked_more : IsChunked more longer
  chunked_more = grind (arith, common_steps, get_or_append_left, whole, own, cases_eq, at_index, length_longer, elsewhere, lower, counted)

  -- all are as they were
  pub same_more : (k : ℕ) → slice_index_or longer (slot_of more k) Gone ≡ slice_index_or places (slot_of homes k) Gone
  same_more k =
      elim (cases_eq (k / 64) index) as (λ _. slice_index_or longer (slot_of more k) Gone ≡ slice_index_or places (slot_of homes k) Gone) [
        | inl e ↦
            let now : slice_index more (k / 64) ≡ home = ap (slice_index more) e ∙ at_index in
            let was : slice_index homes (k / 64) ≡ 0 = ap (slice_index homes) e ∙ none in
            let slot : slot_of homes k ≡ k % 64 = omega (arith, was) in
            get_or-append_right places (replicate 64 fresh) (length places) (slot_of more k) Gone refl (omega (arith, now, whole))
            ∙ get_or-replicate 64 (slot_of more k - length places) fresh Gone (omega (arith, now, whole))
            ∙ sym (ap (λ s. slice_index_or places s Gone) slot ∙ chunked.blank (k % 64) (omega arith))
        | inr other ↦
            let same : slot_of more k ≡ slot_of homes k = ap (λ h. 64 * h + k % 64) (elsewhere (k / 64) other) in
            ap (λ s. slice_index_or longer s Gone) same ∙ get_or_append_left places (replicate 64 fresh) Gone (slot_of homes k) (let fits = chunked.within (k / 64) in omega (arith, fits))
      ]

-- ---- a run

module _ (count : ℕ) (homes : List ℕ) (places : List (Place ℕ)) (chunked : IsChunked homes places) (at n : ℕ) (less : at < count) (some : 0 < n)
    (in_chunk : at % 64 + n ≤ 64) (in_count : at + n ≤ count) where
  abbrev run : List (Place ℕ)
  run = take n (drop (slot_of homes at) places)

  pub run_fits : slot_of homes at + n ≤ length places
  run_fits = (let fits = chunked.within (at / 64) in omega (arith, fits, in_chunk))

  run_long : length run ≡ n
  run_long = (let a = length-take n (drop (slot_of homes at) places) in let b = length-drop (slot_of homes at) places in omega (arith, a, b, run_fits))

  abbrev part : List (Place ℕ)
  part = take (length run) (drop at (all_places count homes places))

  part_long : length part ≡ n
  part_long = (let a = length-take (length run) (drop at (all_places count homes places)) in let b = length-drop at (all_places count homes places) in
      let c = long count homes places in omega (arith, a, b, c, run_long, in_count))

  pub is_run : IsPlaceRun at (all_places count homes places) run
  is_run = record {
    some = omega (arith, run_long, some);
    run_is = same_lists run part (run_long ∙ sym part_long) (λ k d below. (
        let small : k < n = omega (arith, below, run_long) in
        let index : (at + k) / 64 ≡ at / 64 = omega (arith, in_chunk, small) in
        let slot : slot_of homes at + k ≡ slot_of homes (at + k) = (let home = ap (slice_index homes) index in omega (arith, home, in_chunk, small)) in
        let all = all_places count homes places in
        get_or_default run k d Gone below
        ∙ get_or-take n (drop (slot_of homes at) places) k Gone small ∙ get_or-drop (slot_of homes at) places k Gone ∙ ap (λ s. slice_index_or places s Gone) slot
        ∙ sym (get_or_default part k d Gone (omega (arith, part_long, small)) ∙ get_or-take (length run) (drop at all) k Gone below
        ∙ get_or-drop at all k Gone ∙ get_place count homes places (at + k) (omega (arith, in_count, small)))));
  }
