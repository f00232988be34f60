-- Which copies a file's maps hold, by tests of a stamp and a node; and what that says of the counts of stamps.
use Rattle.std.proofs.Common.{◌≡◌, ℕ, ◌+◌, ◌≤◌, Bool, true, false, ◌&&◌, ◌||◌, ◌==◌, None, Some, List, [], ◌∷◌, ◌++◌, length, map, refl, sym, ap, ◌∙◌, cond, arith, if◌then◌else◌, filter_map, flat_map}
use Rattle.std.specs.List.{list_any, cons_option}
use Rattle.std.proofs.lemmas.List.{map-append}
use Rattle.std.proofs.lemmas.Bool.{and_parts, both_ways, false_from_ne_true}
use Rattle.std.proofs.lemmas.List.Elements.{filter_map-append}
use Rattle.hp_model.proofs.Words.{Copy, File, Map, copies_of, copy_of, distinct, file_has, is_among, is_stamp, map_has, place_has, stamp_at, stamps_of}
use Rattle.hp_laws.proofs.Variants.{Gone, Live, Place}
use Rattle.hp_model.proofs.Distinct.{same_members, is_among-append, distinct_put, length_if}

-- ---- stamps at a node

abbrev pub is_stamp_at : ℕ → ℕ → ℕ → ℕ → Bool
is_stamp_at n q stamp node = (node == n) && (stamp == q)

-- copies with one stamp are pages of one node: what the counts by node rest on
abbrev pub IsAgreed : File → Type 0
IsAgreed f = (q m n : ℕ) → file_has (is_stamp_at m q) f ≡ true → file_has (is_stamp_at n q) f ≡ true → m ≡ n

-- ---- how many different numbers a list has

at_least_if : (b : Bool) (n : ℕ) → n ≤ cond b n (n + 1)
at_least_if b n = grind arith

grows_left : (ys xs : List ℕ) → length (distinct xs) ≤ length (distinct (ys ++ xs))
grows_left [] xs = omega arith
grows_left (y ∷ ys) xs =
    let more = at_least_if (is_among y (ys ++ xs)) (length (distinct (ys ++ xs))) in
    let is = length_if (is_among y (ys ++ xs)) y (distinct (ys ++ xs)) in
    omega (arith, more, is, grows_left ys xs)

absorbed : (a b : Bool) → (b ≡ true → a ≡ true) → (a || b) ≡ a
absorbed a b h = grind arith

pub fewer_members : (xs ys : List ℕ) → ((q : ℕ) → is_among q xs ≡ true → is_among q ys ≡ true) → length (distinct xs) ≤ length (distinct ys)
fewer_members xs ys within =
    let same = same_members (ys ++ xs) ys (λ q. is_among-append q ys xs ∙ absorbed (is_among q ys) (is_among q xs) (within q)) in
    omega (arith, same, grows_left ys xs)

pub one_more_member : (x : ℕ) (xs ys : List ℕ) → ((q : ℕ) → is_among q ys ≡ ((x == q) || is_among q xs)) → is_among x xs ≡ false → length (distinct ys) ≡ length (distinct xs) + 1
one_more_member x xs ys same new = same_members ys (x ∷ xs) same ∙ distinct_put x [] xs new

-- ---- the stamps of a file, and those at a node

places_stamp : (q : ℕ) (ps : List (Place Copy)) → is_among q (map (λ c. c.stamp) (filter_map copy_of ps)) ≡ list_any (place_has (is_stamp q)) ps
places_stamp q [] = refl
places_stamp q (Gone ∷ ps) = places_stamp q ps
places_stamp q (Live c None ∷ ps) = places_stamp q ps
places_stamp q (Live c (Some copy) ∷ ps) = ap (λ b. (copy.stamp == q) || b) (places_stamp q ps)

maps_stamp : (q : ℕ) (ms : List Map) → is_among q (map (λ c. c.stamp) (flat_map (λ m. filter_map copy_of m.places) ms)) ≡ list_any (map_has (is_stamp q)) ms
maps_stamp q [] = refl
maps_stamp q (m ∷ ms) =
    let here : List Copy = filter_map copy_of m.places in
    let rest : List Copy = flat_map (λ m. filter_map copy_of m.places) ms in
    ap (is_among q) (map-append (λ c. c.stamp) here rest)
    ∙ is_among-append q (map (λ c. c.stamp) here) (map (λ c. c.stamp) rest)
    ∙ ap (λ b. b || is_among q (map (λ c. c.stamp) rest)) (places_stamp q m.places)
    ∙ ap (λ b. map_has (is_stamp q) m || b) (maps_stamp q ms)

pub stamps_are : (f : File) (q : ℕ) → is_among q (stamps_of f) ≡ file_has (is_stamp q) f
stamps_are f q = maps_stamp q f.maps

one_at : (b : Bool) (q s : ℕ) (rest : List ℕ) → is_among q (cons_option (if b then Some s else None) rest) ≡ ((b && (s == q)) || is_among q rest)
one_at b q s rest = grind arith

places_at : (n q : ℕ) (ps : List (Place Copy)) → is_among q (filter_map (stamp_at n) (filter_map copy_of ps)) ≡ list_any (place_has (is_stamp_at n q)) ps
places_at n q [] = refl
places_at n q (Gone ∷ ps) = places_at n q ps
places_at n q (Live c None ∷ ps) = places_at n q ps
places_at n q (Live c (Some copy) ∷ ps) =
    one_at (copy.page.node == n) q copy.stamp (filter_map (stamp_at n) (filter_map copy_of ps))
    ∙ ap (λ b. ((copy.page.node == n) && (copy.stamp == q)) || b) (places_at n q ps)

maps_at : (n q : ℕ) (ms : List Map) → is_among q (filter_map (stamp_at n) (flat_map (λ m. filter_map copy_of m.places) ms)) ≡ list_any (map_has (is_stamp_at n q)) ms
maps_at n q [] = refl
maps_at n q (m ∷ ms) =
    let here : List Copy = filter_map copy_of m.places in
    let rest : List Copy = flat_map (λ m. filter_map copy_of m.places) ms in
    ap (is_among q) (filter_map-append (stamp_at n) here rest)
    ∙ is_among-append q (filter_map (stamp_at n) here) (filter_map (stamp_at n) rest)
    ∙ ap (λ b. b || is_among q (filter_map (stamp_at n) rest)) (places_at n q m.places)
    ∙ ap (λ b. map_has (is_stamp_at n q) m || b) (maps_at n q ms)

-- the stamps of copies at a node
abbrev pub stamps_at : ℕ → File → List ℕ
stamps_at n f = filter_map (stamp_at n) (copies_of f)

pub stamps_at_are : (n : ℕ) (f : File) (q : ℕ) → is_among q (stamps_at n f) ≡ file_has (is_stamp_at n q) f
stamps_at_are n f q = maps_at n q f.maps

-- ---- the counts by what is held

pub stamps_fall : (f g : File) → ((t : ℕ → ℕ → Bool) → file_has t g ≡ true → file_has t f ≡ true) → length (distinct (stamps_of g)) ≤ length (distinct (stamps_of f))
stamps_fall f g h = fewer_members (stamps_of g) (stamps_of f) (λ q e. stamps_are f q ∙ h (is_stamp q) (sym (stamps_are g q) ∙ e))

pub stamps_at_fall : (n : ℕ) (f g : File) → ((t : ℕ → ℕ → Bool) → file_has t g ≡ true → file_has t f ≡ true) → length (distinct (stamps_at n g)) ≤ length (distinct (stamps_at n f))
stamps_at_fall n f g h = fewer_members (stamps_at n g) (stamps_at n f) (λ q e. stamps_at_are n f q ∙ h (is_stamp_at n q) (sym (stamps_at_are n g q) ∙ e))

pub stamps_stay : (f g : File) → ((t : ℕ → ℕ → Bool) → file_has t g ≡ file_has t f) → length (distinct (stamps_of g)) ≡ length (distinct (stamps_of f))
stamps_stay f g h = same_members (stamps_of g) (stamps_of f) (λ q. stamps_are g q ∙ h (is_stamp q) ∙ sym (stamps_are f q))

pub stamps_at_stay : (n : ℕ) (f g : File) → ((t : ℕ → ℕ → Bool) → file_has t g ≡ file_has t f) → length (distinct (stamps_at n g)) ≡ length (distinct (stamps_at n f))
stamps_at_stay n f g h = same_members (stamps_at n g) (stamps_at n f) (λ q. stamps_at_are n g q ∙ h (is_stamp_at n q) ∙ sym (stamps_at_are n f q))

-- one copy more, with a stamp that no map holds
pub stamps_grow : (stamp node : ℕ) (f g : File) → ((t : ℕ → ℕ → Bool) → file_has t g ≡ (t stamp node || file_has t f)) → is_among stamp (stamps_of f) ≡ false
    → length (distinct (stamps_of g)) ≡ length (distinct (stamps_of f)) + 1
stamps_grow stamp node f g h new = grind (arith, one_more_member, stamps_are)

or_weaker : (a b c d : Bool) → (a ≡ true → c ≡ true) → (b ≡ true → d ≡ true) → (a || b) ≡ true → (c || d) ≡ true
or_weaker a b c d f g e = grind arith

pub any_weaker : {X : Type 0} (p q : X → Bool) → ((x : X) → p x ≡ true → q x ≡ true) → (xs : List X) → list_any p xs ≡ true → list_any q xs ≡ true
any_weaker p q h [] e = e
any_weaker p q h (x ∷ xs) e = or_weaker (p x) (list_any p xs) (q x) (list_any q xs) (h x) (any_weaker p q h xs) e

place_weaker : (t u : ℕ → ℕ → Bool) → ((s n : ℕ) → t s n ≡ true → u s n ≡ true) → (p : Place Copy) → place_has t p ≡ true → place_has u p ≡ true
place_weaker t u h n e = grind arith

-- a weaker test finds a copy too
pub weaker : (t u : ℕ → ℕ → Bool) (f : File) → ((s n : ℕ) → t s n ≡ true → u s n ≡ true) → file_has t f ≡ true → file_has u f ≡ true
weaker t u f h = any_weaker (map_has t) (map_has u) (λ m. any_weaker (place_has t) (place_has u) (place_weaker t u h) m.places) f.maps

new_at : (n stamp : ℕ) (f : File) → is_among stamp (stamps_of f) ≡ false → is_among stamp (stamps_at n f) ≡ false
new_at n stamp f new = grind (arith, false_from_ne_true, both_ways, stamps_are, weaker, and_parts, stamps_at_are)

at_grow : (b : Bool) (n stamp node : ℕ) (f g : File) → (node == n) ≡ b → ((t : ℕ → ℕ → Bool) → file_has t g ≡ (t stamp node || file_has t f)) → is_among stamp (stamps_of f) ≡ false
    → length (distinct (stamps_at n g)) ≡ length (distinct (stamps_at n f)) + cond b 1 0
at_grow true n stamp node f g e h new =
    one_more_member stamp (stamps_at n f) (stamps_at n g)
    (λ q. stamps_at_are n g q ∙ h (is_stamp_at n q) ∙ ap (λ b. (b && (stamp == q)) || file_has (is_stamp_at n q) f) e ∙ ap (λ b. (stamp == q) || b) (sym (stamps_at_are n f q)))
    (new_at n stamp f new)
at_grow false n stamp node f g e h new = grind (arith, same_members, stamps_at_are)

pub stamps_at_grow : (n stamp node : ℕ) (f g : File) → ((t : ℕ → ℕ → Bool) → file_has t g ≡ (t stamp node || file_has t f)) → is_among stamp (stamps_of f) ≡ false
    → length (distinct (stamps_at n g)) ≡ length (distinct (stamps_at n f)) + cond (node == n) 1 0
stamps_at_grow n stamp node f g h new = at_grow (node == n) n stamp node f g refl h new
