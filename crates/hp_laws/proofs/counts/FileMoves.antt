-- How the counts of a file change with one page: filled, copied, copied on a write.
use Rattle.std.proofs.lemmas.Grind.{common_steps}
use Rattle.std.proofs.Common.{◌≡◌, ⊎_elim, ◌++◌, ℕ, ◌+◌, ◌-◌, ◌<◌, Bool, true, false, ◌||◌, ◌==◌, Option, None, Some, List, [], ◌∷◌, length, map, refl, sym, ap, ◌∙◌, cond, arith, slice_index_or}
use Rattle.std.proofs.Common.{sum_by, count_by, filter_map, flat_map}
use Rattle.std.specs.List.{list_any}
use Rattle.std.proofs.lemmas.List.{map-append}
use Rattle.std.proofs.lemmas.Bool.{or_parts, or_cases, or_left, or_right, and_from, and_parts, eq-eqb, eqb-true}
use Rattle.std.proofs.lemmas.List.Sums.{sum_by-set, sum_by-cons, sum_by-append}
use Rattle.hp_model.proofs.Words.{Copy, File, Map, Page, cell_at, copy_of, file_has, file_pages, file_pages_at, file_reserves, is_among, is_stamp, is_unconsumed, map_has, owner_reserves, place_at}
use Rattle.hp_model.proofs.Words.{place_has, stamps_of, with_cell, with_map, with_place}
use Rattle.hp_laws.proofs.Variants.{Entered, Gone, Hole, Live, Place, Present}
use Rattle.hp_laws.proofs.counts.CopiesHeld.{is_stamp_at, IsAgreed, stamps_grow, stamps_at_grow, weaker}
use Rattle.hp_laws.proofs.lists.Places.{any_set}
use Rattle.hp_laws.proofs.lists.AtMostOne.{bit}

-- k pages more at the node, and the usage u more
pub record FileGrows (f g : File) (node k u : ℕ) : Type 0 where
  pub pages : file_pages g ≡ file_pages f + k
  pub usage : file_pages g + file_reserves g ≡ file_pages f + file_reserves f + u
  pub each : (n : ℕ) → file_pages_at n g ≡ file_pages_at n f + cond (node == n) k 0

-- ---- a page of the file

pub fill_entry : (f : File) (i : ℕ) (page : Page) → i < length f.cells → cell_at f i ≡ Entered → FileGrows f (with_cell f i (Present page)) page.node 1 0
fill_entry f i page l is = grind (arith, common_steps)

pub fill_hole : (f : File) (i : ℕ) (page : Page) → i < length f.cells → cell_at f i ≡ Hole → FileGrows f (with_cell f i (Present page)) page.node 1 1
fill_hole f i page l is = grind (arith, common_steps)

-- ---- a place of a map

pub record IsLiveAt (m : Map) (i : ℕ) (c : Bool) (o : Option Copy) : Type 0 where
  pub within : i - m.start < length m.places
  pub is : slice_index_or m.places (i - m.start) Gone ≡ Live c o

pub live_at : (m : Map) (i : ℕ) (c : Bool) (o : Option Copy) → place_at m i ≡ Live c o → IsLiveAt m i c o
live_at m i c o e = grind (arith, common_steps)

pub or_false : (b : Bool) → b ≡ (b || false)
or_false b = grind arith

-- where a copy is put where none is
put_has : (t : ℕ → ℕ → Bool) (m : Map) (i : ℕ) (c d : Bool) (new : Copy) → IsLiveAt m i c None → map_has t (with_place m i (Live d (Some new))) ≡ (t new.stamp new.page.node || map_has t m)
put_has t m i c d new at =
    any_set (place_has t) (t new.stamp new.page.node) m.places (i - m.start) (Live d (Some new)) Gone at.within
    (or_false (t new.stamp new.page.node) ∙ ap (λ b. t new.stamp new.page.node || b) (sym (ap (place_has t) at.is)))

pub record IsMapAt (f : File) (k : ℕ) (m : Map) : Type 0 where
  pub within : k < length f.maps
  pub is : (d : Map) → slice_index_or f.maps k d ≡ m

put_file_has : (t : ℕ → ℕ → Bool) (f : File) (k : ℕ) (m : Map) (i : ℕ) (c d : Bool) (new : Copy) → IsMapAt f k m → IsLiveAt m i c None
    → file_has t (with_map f k (with_place m i (Live d (Some new)))) ≡ (t new.stamp new.page.node || file_has t f)
put_file_has t f k m i c d new here at =
    any_set (map_has t) (t new.stamp new.page.node) f.maps k (with_place m i (Live d (Some new))) m here.within
    (put_has t m i c d new at ∙ ap (λ b. t new.stamp new.page.node || b) (sym (ap (map_has t) (here.is m))))

-- ---- reservations of owners

-- what a place adds to its map's reservations
abbrev pub owed : Map → Place Copy → ℕ
owed m p = cond m.owner (cond (is_unconsumed p) 1 0) 0

pub owner_step : (m : Map) (i : ℕ) (p : Place Copy) → i - m.start < length m.places
    → owner_reserves (with_place m i p) + owed m (slice_index_or m.places (i - m.start) Gone) ≡ owner_reserves m + owed m p
owner_step m i p l = grind (arith, common_steps)

pub reserves_step : (f : File) (k : ℕ) (m : Map) (i : ℕ) (c d : Bool) (o q : Option Copy) → IsMapAt f k m → IsLiveAt m i c o
    → file_reserves (with_map f k (with_place m i (Live d q))) + owed m (Live c o) ≡ file_reserves f + owed m (Live d q)
reserves_step f k m i c d o q here at =
    let maps = sum_by-set owner_reserves f.maps k (with_place m i (Live d q)) m here.within in
    let was = ap owner_reserves (here.is m) in
    let step = owner_step m i (Live d q) at.within in
    let is = ap (owed m) at.is in
    omega (arith, maps, was, step, is)

pub same_owed : (m : Map) (c : Bool) (o q : Option Copy) → owed m (Live c o) ≡ owed m (Live c q)
same_owed m c o q = grind arith

owned : (b : Bool) → b ≡ true → ◌≡◌ {A = ℕ} (cond b 1 0) 1
owned b e = grind arith

pub spent : (b : Bool) → ◌≡◌ {A = ℕ} (cond b 0 0) 0
spent b = grind arith

-- ---- a new copy where there is none

-- by a grant: the reservation stays as it is
pub copy_grows : (f : File) (k : ℕ) (m : Map) (i : ℕ) (c : Bool) (new : Copy) → IsMapAt f k m → place_at m i ≡ Live c None → is_among new.stamp (stamps_of f) ≡ false
    → FileGrows f (with_map f k (with_place m i (Live c (Some new)))) new.page.node 1 1
copy_grows f k m i c new here is fresh =
    let at = live_at m i c None is in
    let g : File = with_map f k (with_place m i (Live c (Some new))) in
    let has = λ (t : ℕ → ℕ → Bool). put_file_has t f k m i c c new here at in
    let stamps = stamps_grow new.stamp new.page.node f g has fresh in
    let reserves = reserves_step f k m i c c None (Some new) here at in
    let same = same_owed m c None (Some new) in
    record {
      pages = omega (arith, stamps);
      usage = omega (arith, stamps, reserves, same);
      each = λ n. omega (arith, stamps_at_grow n new.stamp new.page.node f g has fresh);
    }

-- by an owner's reservation, which is consumed
pub copy_consumes : (f : File) (k : ℕ) (m : Map) (i : ℕ) (new : Copy) → IsMapAt f k m → place_at m i ≡ Live false None → m.owner ≡ true → is_among new.stamp (stamps_of f) ≡ false
    → FileGrows f (with_map f k (with_place m i (Live true (Some new)))) new.page.node 1 0
copy_consumes f k m i new here is owner fresh =
    let at = live_at m i false None is in
    let g : File = with_map f k (with_place m i (Live true (Some new))) in
    let has = λ (t : ℕ → ℕ → Bool). put_file_has t f k m i false true new here at in
    let stamps = stamps_grow new.stamp new.page.node f g has fresh in
    let reserves = reserves_step f k m i false true None (Some new) here at in
    let one = owned m.owner owner in
    let none = spent m.owner in
    record {
      pages = omega (arith, stamps);
      usage = omega (arith, stamps, reserves, one, none);
      each = λ n. omega (arith, stamps_at_grow n new.stamp new.page.node f g has fresh);
    }

-- ---- a write into a copy that other maps hold too

-- how many places hold the stamp
abbrev pub held_in : ℕ → Map → ℕ
held_in q m = count_by (place_has (is_stamp q)) m.places

count_split : (q : ℕ) (xs ys : List ℕ) → count_by (λ n. n == q) (xs ++ ys) ≡ count_by (λ n. n == q) xs + count_by (λ n. n == q) ys
count_split q xs ys = sum_by-append (λ n. cond (n == q) 1 0) xs ys

places_count : (q : ℕ) (ps : List (Place Copy)) → count_by (λ n. n == q) (map (λ c. c.stamp) (filter_map copy_of ps)) ≡ count_by (place_has (is_stamp q)) ps
places_count q [] = refl
places_count q (Gone ∷ ps) = places_count q ps
places_count q (Live c None ∷ ps) = places_count q ps
places_count q (Live c (Some copy) ∷ ps) =
    let rest : List ℕ = map (λ c. c.stamp) (filter_map copy_of ps) in
    let one = sum_by-cons (λ n. cond (n == q) 1 0) copy.stamp rest in
    let two = sum_by-cons (λ (p : Place Copy). cond (place_has (is_stamp q) p) 1 0) (Live c (Some copy)) ps in
    omega (arith, one, two, places_count q ps)

pub maps_count : (q : ℕ) (ms : List Map) → count_by (λ n. n == q) (map (λ c. c.stamp) (flat_map (λ m. filter_map copy_of m.places) ms)) ≡ sum_by (held_in q) ms
maps_count q [] = refl
maps_count q (m ∷ ms) =
    let here : List Copy = filter_map copy_of m.places in
    let rest : List Copy = flat_map (λ m. filter_map copy_of m.places) ms in
    let split = ap (count_by (λ n. n == q)) (map-append (λ c. c.stamp) here rest) in
    let sums = count_split q (map (λ c. c.stamp) here) (map (λ c. c.stamp) rest) in
    let cons = sum_by-cons (held_in q) m ms in
    omega (arith, split, sums, cons, places_count q m.places, maps_count q ms)

pub none_counted : {X : Type 0} (p : X → Bool) (xs : List X) → list_any p xs ≡ false → count_by p xs ≡ 0
none_counted p [] e = refl
none_counted p (x ∷ xs) e =
    let parts = or_parts (p x) (list_any p xs) e in
    let cons = sum_by-cons (λ x. cond (p x) 1 0) x xs in
    let here = ap (λ b. bit b) parts.0 in
    omega (arith, cons, here, none_counted p xs parts.1)

pub none_held : (q : ℕ) (ms : List Map) → list_any (map_has (is_stamp q)) ms ≡ false → sum_by (held_in q) ms ≡ 0
none_held q [] e = refl
none_held q (m ∷ ms) e =
    let parts = or_parts (map_has (is_stamp q) m) (list_any (map_has (is_stamp q)) ms) e in
    omega (arith, sum_by-cons (held_in q) m ms, none_counted (place_has (is_stamp q)) m.places parts.0, none_held q ms parts.1)

-- a node at which a stamp is held
place_node : (q : ℕ) (ps : List (Place Copy)) → list_any (place_has (is_stamp q)) ps ≡ true → (n : ℕ) × (list_any (place_has (is_stamp_at n q)) ps ≡ true)
place_node q [] e = cc
place_node q (Gone ∷ ps) e = place_node q ps e
place_node q (Live c None ∷ ps) e = place_node q ps e
place_node q (Live c (Some copy) ∷ ps) e =
    ⊎_elim (λ h. (
      copy.page.node,
      or_left (is_stamp_at copy.page.node q copy.stamp copy.page.node)
          _ (and_from (copy.page.node == copy.page.node) (copy.stamp == q) (eq-eqb copy.page.node copy.page.node refl) h),
    ))
    (λ h. (let rest = place_node q ps h in (rest.0, or_right (is_stamp_at rest.0 q copy.stamp copy.page.node) _ rest.1)))
    (or_cases (copy.stamp == q) (list_any (place_has (is_stamp q)) ps) e)

maps_node : (q : ℕ) (ms : List Map) → list_any (map_has (is_stamp q)) ms ≡ true → (n : ℕ) × (list_any (map_has (is_stamp_at n q)) ms ≡ true)
maps_node q [] e = cc
maps_node q (m ∷ ms) e =
    ⊎_elim (λ h. (let here = place_node q m.places h in (here.0, or_left (map_has (is_stamp_at here.0 q) m) _ here.1)))
    (λ h. (let rest = maps_node q ms h in (rest.0, or_right (map_has (is_stamp_at rest.0 q) m) _ rest.1)))
    (or_cases (map_has (is_stamp q) m) (list_any (map_has (is_stamp q)) ms) e)

pub some_node : (q : ℕ) (f : File) → file_has (is_stamp q) f ≡ true → (n : ℕ) × (file_has (is_stamp_at n q) f ≡ true)
some_node q f e = maps_node q f.maps e

-- in an agreed file every test of a stamp at its node finds what the stamp finds
pub agreed_test : (t : ℕ → ℕ → Bool) (stamp node : ℕ) (f r : File) → IsAgreed f → ((u : ℕ → ℕ → Bool) → file_has u r ≡ true → file_has u f ≡ true)
    → file_has (is_stamp_at node stamp) f ≡ true → file_has (is_stamp stamp) r ≡ true → t stamp node ≡ true → file_has t r ≡ true
agreed_test t stamp node f r agreed within here held passes = grind (arith, some_node, is_stamp_at, weaker, and_parts, eqb-true)
