-- A task and number that no map has.
use Rattle.std.proofs.Common.{◌≡◌, ℕ, ◌+◌, ◌<◌, ◌≤◌, Bool, true, false, cond, ◌&&◌, ◌||◌, ◌==◌, List, [], ◌∷◌, length, map, refl, sym, ap, subst, ◌∙◌, arith, count_by, filter, flat_map, sum_by}
use mir.Val.{bool_byte}
use Rattle.std.proofs.lemmas.Bool.{and_parts, eqb-true}
use Rattle.std.proofs.lemmas.Bool.Decides.{nat_tests}
use Rattle.std.proofs.lemmas.List.Sums.{sum_by-cons}
use Rattle.hp_model.proofs.Words.{Mapping, is_among, is_of, numbers_of}
use Rattle.hp_model.proofs.Counting.{count_cons}
use Rattle.hp_model.proofs.Distinct.{is_among-append}
use Rattle.hp_store.specs.Store.{Store}
use Rattle.hp_lookup.proofs.Words.{IsFiles, Noted, NumberedFile, all_maps, files_shown, has_key, is_key, is_pair, key_of, keys_in, label_of, labels_of, numbers_in}
use Rattle.hp_lookup.proofs.MapNumbers.{numbers_append, numbers_shown}
use Rattle.hp_lookup.proofs.Unique.{maps_counted}

-- ---- a number that the task's maps do not have

neither : (b c : Bool) → (b || c) ≡ false → (b ≡ false) × (c ≡ false)
neither true c e = cc
neither false c e = (refl, e)

none_in_maps : (task number : ℕ) (ms : List (Mapping ℕ)) → is_among number (numbers_in task ms) ≡ false → count_by (is_key task number) (map key_of ms) ≡ 0
none_in_maps task number [] e = refl
none_in_maps task number (m ∷ ms) e = (let step = count_cons (is_key task number) (key_of m) (map key_of ms) in either (m.task == task) step e (none_in_maps task number ms))
  where
    either : (b : Bool) → count_by (is_key task number) (map key_of (m ∷ ms)) ≡ cond {A = ℕ} (b && (m.number == number)) 1 0 + count_by (is_key task number) (map key_of ms)
        → is_among number (map (λ (x : Mapping ℕ). x.number) (cond b (m ∷ filter (is_of task) ms) (filter (is_of task) ms))) ≡ false
        → (is_among number (numbers_in task ms) ≡ false → count_by (is_key task number) (map key_of ms) ≡ 0) → count_by (is_key task number) (map key_of (m ∷ ms)) ≡ 0
    either true step e rest =
        let parts = neither (m.number == number) (is_among number (numbers_in task ms)) e in
        let here = ap (λ b. cond {A = ℕ} b 1 0 + 0) parts.0 in
        let there = rest parts.1 in
        omega (arith, step, here, there)
    either false step e rest = (let there = rest e in omega (arith, step, there))

pub none_in_files : (task number : ℕ) (fs : List NumberedFile) → is_among number (numbers_in task (flat_map (λ (f : NumberedFile). f.maps) fs)) ≡ false
    → sum_by (keys_in task number) (labels_of fs) ≡ 0
none_in_files task number [] e = refl
none_in_files task number (f ∷ fs) e =
    let rest = flat_map (λ (f : NumberedFile). f.maps) fs in
    let split = sym (is_among-append number (numbers_in task f.maps) (numbers_in task rest)) ∙ ap (is_among number) (sym (numbers_append task f.maps rest)) ∙ e in
    let parts = neither (is_among number (numbers_in task f.maps)) (is_among number (numbers_in task rest)) split in
    let here = none_in_maps task number f.maps parts.0 in
    let there = none_in_files task number fs parts.1 in
    omega (arith, here, there, sum_by-cons (keys_in task number) (label_of f) (labels_of fs))

module _ (task number : ℕ) where
  module _ (s : Store) (fs : List NumberedFile) (fresh : is_among number (numbers_of task (all_maps (files_shown s fs))) ≡ false) where
    pub keys_few : (t m : ℕ) (b : Bool) → is_key t m (task, number) ≡ b → sum_by (keys_in t m) (labels_of fs) ≤ 1 → sum_by (keys_in t m) (labels_of fs) + cond {A = ℕ} b 1 0 ≤ 1
    keys_few t m true e most =
        let parts = and_parts (task == t) (number == m) e in
        let none = none_in_files task number fs (ap (is_among number) (numbers_shown s task fs) ∙ fresh) in
        let same = ap (λ q. sum_by (keys_in q m) (labels_of fs)) (eqb-true task t parts.0) in
        let also = ap (λ q. sum_by (keys_in task q) (labels_of fs)) (eqb-true number m parts.1) in
        omega (arith, none, same, also)
    keys_few t m false e most = omega (arith, most)

  -- a key is one or another
  pub key_pair : (t m : ℕ) → is_key t m (task, number) ≡ false → is_pair t m (task, number) ≡ false
  key_pair t m e = grind (arith, nat_tests, e)

  pub no_pair : (t m k : ℕ) → k ≡ cond {A = ℕ} (is_key t m (task, number)) 1 0 → k ≡ 0 → is_pair t m (task, number) ≡ false
  no_pair t m k is none = at (is_key t m (task, number)) refl
    where
      at : (b : Bool) → is_key t m (task, number) ≡ b → is_pair t m (task, number) ≡ false
      at true e = (let one = ap (λ b. cond {A = ℕ} b 1 0 + 0) e in absurd (omega (arith, one, is, none)))
      at false e = key_pair t m e

  -- a key that was not noted is another
  module _ (now : Noted) (own : has_key task number now ≡ true) where
    pub other_key : (t m : ℕ) (b : Bool) → is_key t m (task, number) ≡ b → has_key t m now ≡ false → b ≡ false
    other_key t m true e none =
        let parts = and_parts (task == t) (number == m) e in
        let known = subst (λ q. has_key q m now ≡ true) (eqb-true task t parts.0) (subst (λ q. has_key task q now ≡ true) (eqb-true number m parts.1) own) in
        cc
    other_key t m false e none = refl

-- ---- one more fits

module _ (n : Noted) (s : Store) (more maps : ℕ) (tally : ℕ → ℕ) (fs : List NumberedFile) (is : IsFiles n s more maps tally fs) (few : length (all_maps (files_shown s fs)) < 4096) where
  pub maps_few : maps < 4096
  maps_few = (let count = is.keyed.map_count ∙ maps_counted s fs in omega (arith, count, few))

pub byte_is : (b : Bool) → bool_byte b ≡ cond {A = ℕ} b 1 0
byte_is true = refl
byte_is false = refl

pub byte_few : (b : Bool) → bool_byte b ≤ 1
byte_few true = omega arith
byte_few false = omega arith
