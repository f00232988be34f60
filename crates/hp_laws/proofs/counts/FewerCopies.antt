-- Maps without some of the copies of others: what holds of the copies of those holds of theirs.
use Rattle.std.proofs.lemmas.Grind.{common_steps}
use Rattle.std.proofs.Common.{◌≡◌, ℕ, ◌-◌, ◌<◌, ◌≤◌, Bool, true, false, Some, List, [], ◌∷◌, ◌++◌, length, map, get_or, cond, arith, refl, sym, ◌∙◌, subst, if◌then◌else◌, All, count_by, filter}
use Rattle.std.proofs.lemmas.Bool.{and_from, and_parts}
use Rattle.std.proofs.lemmas.List.{get_or-map, get_or_default, length-map}
use Rattle.std.proofs.lemmas.List.Elements.{All-append, All-filter, All-map}
use Rattle.std.proofs.lemmas.List.Sums.{sum_by-append, sum_by-cons}
use Rattle.hp_model.proofs.Words.{Copy, File, FileHasCopy, HasCopy, IsSoundFile, IsSoundMap, Map, copy_of, edit_range, file_has, is_shared, is_stamp, is_unconsumed, map_for, map_has, map_punched}
use Rattle.hp_model.proofs.Words.{no_map, owns_stamp, place_at, robbed, without_copy, without_range}
use Rattle.hp_laws.proofs.Variants.{Gone, Place}
use Rattle.hp_laws.proofs.counts.Copies.{file_copy, file_has_stamp, has_stamp, map_copy, map_there}
use Rattle.hp_laws.proofs.lists.Looks.{related_edit_range}
use Rattle.hp_laws.proofs.lists.Places.{sum_by-filter_le}
use Rattle.hp_laws.proofs.lists.AtMostOne.{few, single}

-- ---- one map

-- where y has a copy x has it too, and y has consumed where x has
pub record IsLess (x y : Map) : Type 0 where
  pub sharing : y.sharing ≡ x.sharing
  pub copies : (i : ℕ) (a : Copy) → HasCopy y i a → HasCopy x i a
  pub owner : y.owner ≡ true → x.owner ≡ true
  pub consumed : y.owner ≡ true → (i : ℕ) (a : Copy) → HasCopy y i a → is_unconsumed (place_at x i) ≡ false → is_unconsumed (place_at y i) ≡ false

pub less_same : (x : Map) → IsLess x x
less_same x = record { sharing = refl; copies = λ i a h. h; owner = λ o. o; consumed = λ o i a h e. e }

-- a place that has a copy is as it was
abbrev Stays : Place Copy → Place Copy → Type 0
Stays p q = (a : Copy) → copy_of p ≡ Some a → p ≡ q

stays_if : (b : Bool) (p q : Place Copy) → Stays p q → Stays (if b then Gone else p) (if b then Gone else q)
stays_if b p q h a e = grind arith

less_by : (x : Map) (mark : Bool) (ps : List (Place Copy)) → ((k : ℕ) → Stays (get_or ps k Gone) (get_or x.places k Gone)) → IsLess x (record x { unmapped = mark; places = ps })
less_by x mark ps h = grind (arith, stays_if)

without_stays : (p : Place Copy) → Stays (without_copy p) p
without_stays p a e = grind arith

pub less_range : (a b : ℕ) (x : Map) → IsLess x (without_range a b x)
less_range a b x =
    less_by x x.unmapped (edit_range (λ p. Gone) (a - x.start) (b - x.start) x.places)
    (related_edit_range Stays (λ p q e. refl) Gone (λ p. Gone) (λ p q e. cc) (a - x.start) (b - x.start) x.places)

pub less_punched : (a b : ℕ) (x : Map) → IsLess x (map_punched a b x)
less_punched a b x =
    less_by x x.unmapped (edit_range without_copy (a - x.start) (b - x.start) x.places)
    (related_edit_range Stays (λ p q e. refl) Gone without_copy without_stays (a - x.start) (b - x.start) x.places)

pub less_robbed : (stamp : ℕ) (x : Map) → IsLess x (robbed stamp x)
less_robbed stamp x = grind (arith, common_steps)

child_at : (child i : ℕ) (x : Map) → copy_of (place_at (map_for child x) i) ≡ copy_of (place_at x i)
child_at child i x = grind (arith, common_steps)

pub less_child : (child : ℕ) (x : Map) → IsLess x (map_for child x)
less_child child x = record { sharing = refl; copies = λ i a h. sym (child_at child i x) ∙ h; owner = λ o. cc; consumed = λ o. cc }

pub less_owns : (stamp : ℕ) (x y : Map) → IsLess x y → owns_stamp stamp y ≡ true → owns_stamp stamp x ≡ true
less_owns stamp x y less e =
    let parts = and_parts y.owner (map_has (is_stamp stamp) y) e in
    let one = map_copy (is_stamp stamp) y parts.1 in
    and_from x.owner (map_has (is_stamp stamp) x) (less.owner parts.0) (has_stamp (is_stamp stamp) x one.0 one.1 (less.copies one.0 one.1 one.2) one.3)

-- ---- lists of maps

-- each of ys has no more than one of xs
pub record AreLess (xs ys : List Map) : Type 0 where
  pub each : All (λ y. (k : ℕ) × (k < length xs) × IsLess (get_or xs k no_map) y) ys
  pub owners : (stamp : ℕ) → count_by (owns_stamp stamp) xs ≤ 1 → count_by (owns_stamp stamp) ys ≤ 1

-- place by place
pub less_placed : (xs ys : List Map) → length ys ≡ length xs → ((k : ℕ) → k < length xs → IsLess (get_or xs k no_map) (get_or ys k no_map)) → AreLess xs ys
less_placed xs ys long h = record {
  each = λ k d l. (let there : k < length xs = omega (arith, long, l) in (k, there, subst (IsLess (get_or xs k no_map)) (get_or_default ys k no_map d l) (h k there)));
  owners = λ stamp one. few (owns_stamp stamp) no_map ys
      (λ j k lj lk a b. (let first : j < length xs = omega (arith, long, lj) in
      let second : k < length xs = omega (arith, long, lk) in
      single (owns_stamp stamp) no_map xs one j k first second
      (less_owns stamp (get_or xs j no_map) (get_or ys j no_map) (h j first) a) (less_owns stamp (get_or xs k no_map) (get_or ys k no_map) (h k second) b)));
}

pub less_all : (xs : List Map) → AreLess xs xs
less_all xs = less_placed xs xs refl (λ k l. less_same (get_or xs k no_map))

pub less_mapped : (h : Map → Map) → ((x : Map) → IsLess x (h x)) → (xs : List Map) → AreLess xs (map h xs)
less_mapped h less xs =
    less_placed xs (map h xs) (length-map xs h) (λ k l. subst (IsLess (get_or xs k no_map)) (sym (get_or-map h xs k no_map no_map l)) (less (get_or xs k no_map)))

pub less_filtered : (p : Map → Bool) (xs ys : List Map) → AreLess xs ys → AreLess xs (filter p ys)
less_filtered p xs ys less = record {
  each = All-filter p (λ y. (k : ℕ) × (k < length xs) × IsLess (get_or xs k no_map) y) ys less.each;
  owners = λ stamp one. (let fewer = sum_by-filter_le (λ y. cond (owns_stamp stamp y) 1 0) p ys in let first = less.owners stamp one in omega (arith, fewer, first));
}

children_own : (stamp child : ℕ) (xs : List Map) → count_by (owns_stamp stamp) (map (map_for child) xs) ≡ 0
children_own stamp child [] = refl
children_own stamp child (x ∷ xs) =
    omega (arith, sum_by-cons (λ y. cond (owns_stamp stamp y) 1 0) (map_for child x) (map (map_for child) xs), children_own stamp child xs)

-- some of the maps, and children of some
pub less_forked : (p q : Map → Bool) (child : ℕ) (xs : List Map) → AreLess xs (filter p xs ++ map (map_for child) (filter q xs))
less_forked p q child xs =
    let kept = less_filtered p xs xs (less_all xs) in
    let Less : Map → Type 0 = λ y. (k : ℕ) × (k < length xs) × IsLess (get_or xs k no_map) y in
    let children = All-map Less (map_for child) (filter q xs)
    (All-filter q (λ x. Less (map_for child x)) xs (λ k d l. (k, l, subst (λ x. IsLess x (map_for child (get_or xs k d))) (get_or_default xs k d no_map l) (less_child child (get_or xs k d))))) in
    record {
      each = All-append Less (filter p xs) (map (map_for child) (filter q xs)) kept.each children;
      owners = λ stamp one.
          (let both = sum_by-append (λ y. cond (owns_stamp stamp y) 1 0) (filter p xs) (map (map_for child) (filter q xs)) in
          let first = kept.owners stamp one in
          omega (arith, both, first, children_own stamp child (filter q xs)));
    }

-- ---- a file

-- g is sound where f is, and has no copy that f has not
pub record KeepsFile (f g : File) : Type 0 where
  pub sound : IsSoundFile f → IsSoundFile g
  pub copies : (i : ℕ) (a : Copy) → FileHasCopy g i a → FileHasCopy f i a

module _ (f g : File) (less : AreLess f.maps g.maps) where
  file_copies : (i : ℕ) (a : Copy) → FileHasCopy g i a → FileHasCopy f i a
  file_copies i a has = let e = less.each has.0 no_map (map_there g has.0 i a has.1) in (e.0, e.2.copies i a has.1)

  -- but for the length, all that makes a file sound
  pub keeps_by : (IsSoundFile f → All (IsSoundMap (length g.cells)) g.maps) → KeepsFile f g
  keeps_by h = record {
    sound = λ sound. record {
      maps = h sound;
      copies = λ i j a b x y same. sound.copies i j a b (file_copies i a x) (file_copies j b y) same;
      owners = λ stamp. less.owners stamp (sound.owners stamp);
    };
    copies = file_copies;
  }

  pub keeps_less : length f.cells ≤ length g.cells → KeepsFile f g
  keeps_less long =
      keeps_by (λ sound k d l i a has. (let e = less.each k d l in
      let at = sound.maps e.0 no_map e.1 i a (e.2.copies i a has) in
      let is = at.below in
      record {
        private = subst (λ x. is_shared x ≡ false) (sym e.2.sharing) at.private;
        below = omega (arith, is, long);
        consumed = λ o. e.2.consumed o i a has (at.consumed (e.2.owner o));
      }))

-- a stamp of g is one of f
pub keeps_stamps : (f g : File) (stamp : ℕ) → KeepsFile f g → file_has (is_stamp stamp) g ≡ true → file_has (is_stamp stamp) f ≡ true
keeps_stamps f g stamp keeps e =
    let one = file_copy (is_stamp stamp) g e in
    let held = keeps.copies one.index one.copy (one.map, one.has) in
    file_has_stamp (is_stamp stamp) f held.0 one.index one.copy held.1 one.passes
