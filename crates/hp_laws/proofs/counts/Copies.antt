-- Where copies stand: by their places, and by the tests that find them.
use Rattle.std.proofs.lemmas.Grind.{common_steps}
use Rattle.std.proofs.Common.{◌≡◌, ℕ, ◌+◌, ◌-◌, ◌<◌, Bool, true, ◌==◌, None, Some, List, length, get_or, arith, refl, sym, ap, ◌∙◌, subst, nat_lt, if◌then◌else◌, slice_index_or}
use Rattle.std.proofs.lemmas.Bool.{and_parts, cond_both, eqb-true, le-ltb}
use Rattle.std.proofs.lemmas.List.{get_or_default}
use Rattle.std.proofs.lemmas.List.Folds.{Any-from_list_any, list_any_at}
use Rattle.hp_model.proofs.Words.{Copy, File, HasCopy, IsSoundFile, Map, Mount, copy_of, file_has, file_in, map_has, map_in, no_map, place_at, place_has}
use Rattle.hp_laws.proofs.Variants.{Gone, Live, Place}
use Rattle.hp_laws.proofs.counts.CopiesHeld.{IsAgreed, is_stamp_at}

-- ---- by places

pub live_of : (p : Place Copy) (a : Copy) → copy_of p ≡ Some a → (c : Bool) × (p ≡ Live c (Some a))
live_of p a e = grind arith

pub none_copied : (i : ℕ) → copy_of (place_at no_map i) ≡ None
none_copied i = cond_both (nat_lt i 0) Gone (slice_index_or no_map.places (i - 0) Gone) (λ p. copy_of p ≡ None) (λ e. refl) (λ e. refl)

no_copy : (i : ℕ) (a : Copy) → HasCopy no_map i a → ⊥
no_copy i a has = (let none = sym (none_copied i) ∙ has in cc)

-- below a length, or the element is the default
within : {X : Type 0} (xs : List X) (k : ℕ) (d : X) → (get_or xs k d ≡ d → ⊥) → k < length xs
within xs k d h = grind (arith, common_steps)

-- a map that has a copy is there, and so is its file
pub map_there : (f : File) (k i : ℕ) (a : Copy) → HasCopy (map_in f k) i a → k < length f.maps
map_there f k i a has = within f.maps k no_map (λ none. no_copy i a (subst (λ m. HasCopy m i a) none has))

pub file_there : (m : Mount) (j k i : ℕ) (a : Copy) → HasCopy (map_in (file_in m j) k) i a → j < length m.files
file_there m j k i a has = grind (arith, common_steps)

-- ---- by tests

module _ (t : ℕ → ℕ → Bool) where
  pub has_stamp : (m : Map) (i : ℕ) (a : Copy) → HasCopy m i a → t a.stamp a.page.node ≡ true → map_has t m ≡ true
  has_stamp m i a has e = grind (arith, common_steps)

  pub file_has_stamp : (f : File) (k i : ℕ) (a : Copy) → HasCopy (map_in f k) i a → t a.stamp a.page.node ≡ true → file_has t f ≡ true
  file_has_stamp f k i a has e = list_any_at (map_has t) f.maps k no_map (map_there f k i a has) (has_stamp (map_in f k) i a has e)

  place_copy : (p : Place Copy) → place_has t p ≡ true → (a : Copy) × (copy_of p ≡ Some a) × (t a.stamp a.page.node ≡ true)
  place_copy p e = grind arith

  -- the place of one that passes
  pub map_copy : (m : Map) → map_has t m ≡ true → (i : ℕ) × (a : Copy) × HasCopy m i a × (t a.stamp a.page.node ≡ true)
  map_copy m e =
      let any = Any-from_list_any (place_has t) m.places e in
      let one = place_copy any.1 any.4 in
      let start : ℕ = m.start in
      let k : ℕ = any.0 in
      let place : place_at m (k + start) ≡ any.1 =
      ap (λ b. if b then Gone else slice_index_or m.places (k + start - start) Gone) (le-ltb (k + start) start (omega arith))
      ∙ ap (λ j. slice_index_or m.places j Gone) {x = k + start - start} {y = k} (omega arith) ∙ get_or_default m.places k Gone any.1 any.2 ∙ any.3 in
      (k + start, one.0, ap copy_of place ∙ one.1, one.2)

  pub record FileCopy (f : File) : Type 0 where
    pub map : ℕ
    pub index : ℕ
    pub copy : Copy
    pub has : HasCopy (map_in f map) index copy
    pub passes : t copy.stamp copy.page.node ≡ true

  pub file_copy : (f : File) → file_has t f ≡ true → FileCopy f
  file_copy f e =
      let any = Any-from_list_any (map_has t) f.maps e in
      let one = map_copy any.1 any.4 in
      let is : map_in f any.0 ≡ any.1 = get_or_default f.maps any.0 no_map any.1 any.2 ∙ any.3 in
      record { map = any.0; index = one.0; copy = one.1; has = subst (λ m. HasCopy m one.0 one.1) (sym is) one.2; passes = one.3 }

-- ---- one node

pub agreed_file : (f : File) → IsSoundFile f → IsAgreed f
agreed_file f sound q m n a b =
    let x = file_copy (is_stamp_at m q) f a in
    let y = file_copy (is_stamp_at n q) f b in
    let left = and_parts (x.copy.page.node == m) (x.copy.stamp == q) x.passes in
    let right = and_parts (y.copy.page.node == n) (y.copy.stamp == q) y.passes in
    let stamps : x.copy.stamp ≡ y.copy.stamp = eqb-true x.copy.stamp q left.1 ∙ sym (eqb-true y.copy.stamp q right.1) in
    let same = sound.copies x.index y.index x.copy y.copy (x.map, x.has) (y.map, y.has) stamps in
    sym (eqb-true x.copy.page.node m left.0) ∙ ap (λ c. c.page.node) same.1 ∙ eqb-true y.copy.page.node n right.0
