-- The least number that is not used, and which numbers a task's maps have.
use Rattle.std.proofs.Common.{◌≡◌, ℕ, ◌+◌, ◌-◌, ◌<◌, ◌≤◌, ◌==◌, ◌&&◌, ◌||◌, Bool, true, false, not, cond, Option, None, Some, List, [], ◌∷◌, ◌++◌, length, map, refl, sym, ap, ◌∙◌}
use Rattle.std.proofs.Common.{arith, is_some, filter, option_map, true≢false}
use Rattle.std.specs.List.{list_any, position_or_len, range_with_len}
use Rattle.std.proofs.lemmas.List.{map-append}
use Rattle.std.proofs.lemmas.List.Elements.{filter-append}
use Rattle.std.proofs.lemmas.List.FromFn.{get_or-range_with_len, length-range_with_len}
use Rattle.std.proofs.lemmas.List.Sums.{position_or_len_is}
use Rattle.hp_laws.proofs.Variants.{Limits}
use Rattle.hp_model.proofs.Words.{File, Map, found, is_among, is_map, is_of, least_unused, numbers_of, one_on, spot, spot_in}
use Rattle.hp_model.proofs.Counting.{count_not, count_outside}
use Rattle.hp_model.proofs.Distinct.{is_among-append}
use Rattle.hp_store.specs.Store.{Store}
use Rattle.hp_lookup.proofs.Words.{IsFiles, IsFound, IsMissing, Noted, NumberedFile, all_maps, files_shown, has_it, has_key, mount_with}
use Rattle.hp_lookup.proofs.MapNumbers.{few_among, numbers_shown}
use Rattle.hp_lookup.proofs.NewKey.{none_in_files}
use Rattle.hp_lookup.proofs.Unique.{no_map_here}

-- ---- the numbers below n are used

module _ (xs : List ℕ) (n : ℕ) (one : 1 ≤ n) (used : (k : ℕ) → 1 ≤ k → k < n → is_among k xs ≡ true) where
  pub used_few : n ≤ length xs + 1
  used_few =
      let few = few_among xs 1 (n - 1) in
      let none = count_outside (λ k. not (is_among k xs)) 1 (n - 1) (λ k low high. ap not (used k low (omega (arith, high, one)))) in
      let both = count_not (λ k. is_among k xs) (range_with_len 1 (n - 1)) in
      let long = length-range_with_len 1 (n - 1) in
      omega (arith, few, none, both, long, one)

  -- and n is not
  pub least_is : is_among n xs ≡ false → n ≡ least_unused xs
  least_is free =
      let i : ℕ = n - 1 in
      let most = used_few in
      let len = length-range_with_len 1 (length xs + 1) in
      let at : (k j : ℕ) → k < length xs + 1 → j ≡ 1 + k → _ = λ k j l e. get_or-range_with_len 1 (length xs + 1) k 0 l ∙ sym e in
      let place : position_or_len (λ m. not (is_among m xs)) (range_with_len 1 (length xs + 1)) ≡ i =
      position_or_len_is (λ m. not (is_among m xs)) (range_with_len 1 (length xs + 1)) i 0 (omega (arith, len, most, one))
      (λ k l. ap (λ m. not (is_among m xs)) (at k (1 + k) (omega (arith, l, most, one)) refl) ∙ ap not (used (1 + k) (omega arith) (omega (arith, l, one))))
      (λ l. ap (λ m. not (is_among m xs)) (at i n (omega (arith, l, len)) (omega (arith, one))) ∙ ap not free) in
      omega (arith, place, one)

-- ---- a task's map of a number

among_maps : (task number : ℕ) (ms : List Map) → list_any (is_map task number) ms ≡ is_among number (numbers_of task ms)
among_maps task number [] = refl
among_maps task number (m ∷ ms) = at (m.task == task) (among_maps task number ms)
  where
    at : (b : Bool) → list_any (is_map task number) ms ≡ is_among number (numbers_of task ms)
        → ((b && (m.number == number)) || list_any (is_map task number) ms) ≡ is_among number (map (λ (x : Map). x.number) (cond b (m ∷ filter (is_of task) ms) (filter (is_of task) ms)))
    at true rest = ap (λ b. (m.number == number) || b) rest
    at false rest = rest

numbers_both : (task : ℕ) (xs ys : List Map) → numbers_of task (xs ++ ys) ≡ numbers_of task xs ++ numbers_of task ys
numbers_both task xs ys = ap (map (λ m. m.number)) (filter-append (is_of task) xs ys) ∙ map-append (λ m. m.number) (filter (is_of task) xs) (filter (is_of task) ys)

among_files : (task number : ℕ) (fs : List File) → list_any (has_it task number) fs ≡ is_among number (numbers_of task (all_maps fs))
among_files task number [] = refl
among_files task number (f ∷ fs) =
    ap (λ b. b || list_any (has_it task number) fs) (among_maps task number f.maps) ∙ ap (λ b. is_among number (numbers_of task f.maps) || b) (among_files task number fs)
    ∙ sym (ap (is_among number) (numbers_both task f.maps (all_maps fs)) ∙ is_among-append number (numbers_of task f.maps) (numbers_of task (all_maps fs)))

some_found : {X : Type 0} (test : X → Bool) (xs : List X) → is_some (found test xs) ≡ list_any test xs
some_found test [] = refl
some_found {X} test (x ∷ xs) = at (test x) (some_found test xs)
  where
    through : (o : Option (ℕ × X)) → is_some (option_map one_on o) ≡ is_some o
    through None = refl
    through (Some q) = refl

    at : (b : Bool) → is_some (found test xs) ≡ list_any test xs → is_some (cond b (Some (0, x)) (option_map one_on (found test xs))) ≡ (b || list_any test xs)
    at true rest = refl
    at false rest = through (found test xs) ∙ rest

found_passes : {X : Type 0} (test : X → Bool) (xs : List X) (q : ℕ × X) → found test xs ≡ Some q → test q.1 ≡ true
found_passes test [] q e = cc
found_passes {X} test (x ∷ xs) q e = at (test x) (found_passes test xs) refl e
  where
    passes : Option (ℕ × X) → Bool
    passes None = true
    passes (Some p) = test p.1

    behind : ((p : ℕ × X) → found test xs ≡ Some p → test p.1 ≡ true) → (o : Option (ℕ × X)) → found test xs ≡ o → option_map one_on o ≡ Some q → test q.1 ≡ true
    behind rest None is e = cc
    behind rest (Some p) is e = sym (ap passes e) ∙ rest p is

    at : (b : Bool) → ((p : ℕ × X) → found test xs ≡ Some p → test p.1 ≡ true) → test x ≡ b → cond b (Some (0, x)) (option_map one_on (found test xs)) ≡ Some q → test q.1 ≡ true
    at true rest is e = sym (ap passes e) ∙ is
    at false rest is e = behind rest (found test xs) refl e

-- it is found where it is
pub used_if_found : (fs : List File) (task number : ℕ) (limits : Limits) → is_some (spot (mount_with limits fs) (is_map task number)) ≡ is_among number (numbers_of task (all_maps fs))
used_if_found fs task number limits = by_found (found (has_it task number) fs) refl ∙ some_found (has_it task number) fs ∙ among_files task number fs
  where
    through : (q : ℕ × File) (o : Option (ℕ × Map)) → is_some (option_map (spot_in q) o) ≡ is_some o
    through q None = refl
    through q (Some p) = refl

    by_found : (o : Option (ℕ × File)) → found (has_it task number) fs ≡ o → is_some (elim o [ None ↦ None | Some q ↦ option_map (spot_in q) (found (is_map task number) q.1.maps) ]) ≡ is_some o
    by_found None e = refl
    by_found (Some q) e = through q (found (is_map task number) q.1.maps) ∙ some_found (is_map task number) q.1.maps ∙ found_passes (has_it task number) fs q e

no_limits : Limits
no_limits = record { max = None; min = 0; inodes = None }

-- ---- as the table of tasks tells

module _ (n : Noted) (s : Store) (more maps : ℕ) (tally : ℕ → ℕ) (fs : List NumberedFile) (is : IsFiles n s more maps tally fs) (task number : ℕ) where
  abbrev used : Bool
  used = is_among number (numbers_of task (all_maps (files_shown s fs)))

  missing : has_key task number n ≡ false → IsMissing (files_shown s fs) task number
  missing none = no_map_here s maps tally fs is.keyed task number (is.noted.keys task number none)

  pub key_free : has_key task number n ≡ false → used ≡ false
  key_free none = sym (used_if_found (files_shown s fs) task number no_limits) ∙ ap is_some (missing none no_limits)

  pub key_fresh : used ≡ false → has_key task number n ≡ false
  key_fresh free = is.noted.no_key task number (none_in_files task number fs (ap (is_among number) (numbers_shown s task fs) ∙ free))

  pub key_used : has_key task number n ≡ true → used ≡ true
  key_used known = by used refl
    where
      by : (b : Bool) → used ≡ b → b ≡ true
      by true e = refl
      by false e = absurd (true≢false (sym known ∙ key_fresh e))

  pub key_found : (file map : ℕ) → IsFound (files_shown s fs) task number file map → has_key task number n ≡ true
  key_found file map found = by (has_key task number n) refl
    where
      by : (b : Bool) → has_key task number n ≡ b → b ≡ true
      by true e = refl
      by false e = absurd (true≢false (ap is_some (sym (found.is no_limits) ∙ missing e no_limits)))
