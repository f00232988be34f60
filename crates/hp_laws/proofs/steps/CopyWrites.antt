-- A write into a copy that other maps hold too: a copy of its own, or the owner takes the copy back.
use Rattle.std.proofs.lemmas.Grind.{common_steps}
use Rattle.std.proofs.Common.{◌≡◌, ⊎_elim, ◌⊎◌, subst, ℕ, ◌-◌, ◌<◌, Bool, true, false, ◌&&◌, ◌||◌, ◌==◌, not, None, Some, List, [], ◌∷◌, length, map, refl, sym, ap, ◌∙◌, cond, arith, if◌then◌else◌}
use Rattle.std.proofs.Common.{slice_index_or, count_by}
use Rattle.std.specs.List.{list_any}
use Rattle.std.proofs.lemmas.List.{length-map, get_or-map}
use Rattle.std.proofs.lemmas.Bool.{or_left, or_right, true_from_ne_false, both_ways, eq-eqb, eqb-true, and_from, and_parts, or_cases}
use Rattle.std.proofs.lemmas.List.Folds.{list_any_at}
use Rattle.std.proofs.lemmas.List.Sums.{sum_by-set}
use Rattle.hp_model.proofs.Words.{Copy, File, Map, Page, cell_written, drop_stamp, edit_at, file_has, holds, is_among, is_held_once, is_stamp, is_unconsumed, map_has, map_written, owner_reserves}
use Rattle.hp_model.proofs.Words.{place_at, place_has, place_written, robbed, stamps_of, with_map, with_place, without_copy}
use Rattle.hp_laws.proofs.Variants.{Cell, Gone, Live, Place, Present}
use Rattle.hp_laws.proofs.counts.FileMoves.{or_false, FileGrows, IsMapAt, IsLiveAt, live_at, reserves_step, same_owed, held_in, maps_count, none_held, agreed_test, spent}
use Rattle.hp_laws.proofs.counts.CopiesHeld.{is_stamp_at, IsAgreed, stamps_grow, stamps_at_grow, stamps_stay, stamps_at_stay, weaker}
use Rattle.hp_laws.proofs.lists.Places.{any_two, any_unset, any_set_up, any_set_at, any_map_up, any_map_down, any_either, any_of_set, sum_by-map_same, any_edit_at, sum_by-edit_at}
use Rattle.hp_laws.proofs.lists.AtMostOne.{bit}

the_other : (a b c : Bool) → c ≡ (a || b) → (a ≡ true → b ≡ true) → b ≡ c
the_other a b c e h = grind arith

module _ (f : File) (k : ℕ) (m : Map) (i : ℕ) (c : Bool) (old new : Copy) (here : IsMapAt f k m) (is : place_at m i ≡ Live c (Some old)) where
  abbrev rest : File
  rest = with_map f k (with_place m i (Live c None))

  abbrev after : File
  after = with_map f k (with_place m i (Live c (Some new)))

  at : IsLiveAt m i c (Some old)
  at = live_at m i c (Some old) is

  rest_has : (t : ℕ → ℕ → Bool) → file_has t f ≡ (t old.stamp old.page.node || file_has t rest)
  rest_has t =
      any_unset (map_has t) (t old.stamp old.page.node) f.maps k (with_place m i (Live c None)) m here.within
      (ap (map_has t) (here.is m) ∙ any_unset (place_has t) (t old.stamp old.page.node) m.places (i - m.start) (Live c None) Gone at.within
      (ap (place_has t) at.is ∙ or_false (t old.stamp old.page.node)))

  after_has : (t : ℕ → ℕ → Bool) → file_has t after ≡ (t new.stamp new.page.node || file_has t rest)
  after_has t = grind (arith, any_two, at, or_false)

  held_still : is_held_once f old.stamp ≡ false → file_has (is_stamp old.stamp) rest ≡ true
  held_still more =
      true_from_ne_false (file_has (is_stamp old.stamp) rest)
      (λ none. (let q : ℕ = old.stamp in
      let zero_left = none_held q rest.maps none in
      let total = maps_count q f.maps in
      let maps = sum_by-set (held_in q) f.maps k (with_place m i (Live c None)) m here.within in
      let was = ap (held_in q) (here.is m) in
      let places = sum_by-set (λ (p : Place Copy). cond (place_has (is_stamp q) p) 1 0) m.places (i - m.start) (Live c None) Gone at.within in
      let share = ap (λ (p : Place Copy). bit (place_has (is_stamp q) p)) at.is in
      let one = ap bit (eq-eqb q q refl) in
      let once : count_by (λ n. n == q) (stamps_of f) ≡ 1 = omega (arith, zero_left, total, maps, was, places, share, one) in
      both_ways (is_held_once f old.stamp) more (eq-eqb (count_by (λ n. n == q) (stamps_of f)) 1 once)))

  same_rest : IsAgreed f → is_held_once f old.stamp ≡ false → (t : ℕ → ℕ → Bool) → file_has t rest ≡ file_has t f
  same_rest agreed more t =
      the_other (t old.stamp old.page.node) (file_has t rest) (file_has t f) (rest_has t)
      (λ passes. agreed_test t old.stamp old.page.node f rest agreed (λ u e. rest_has u ∙ or_right (u old.stamp old.page.node) _ e)
      (rest_has (is_stamp_at old.page.node old.stamp) ∙ or_left (is_stamp_at old.page.node old.stamp old.stamp old.page.node) _
      (and_from (old.page.node == old.page.node) (old.stamp == old.stamp) (eq-eqb old.page.node old.page.node refl) (eq-eqb old.stamp old.stamp refl)))
      (held_still more) passes)

  -- a copy of its own, by a grant
  pub copy_parts : IsAgreed f → is_held_once f old.stamp ≡ false → is_among new.stamp (stamps_of f) ≡ false → FileGrows f (with_map f k (with_place m i (Live c (Some new)))) new.page.node 1 1
  copy_parts agreed more fresh =
      let has = λ (t : ℕ → ℕ → Bool). after_has t ∙ ap (λ b. t new.stamp new.page.node || b) (same_rest agreed more t) in
      let stamps = stamps_grow new.stamp new.page.node f after has fresh in
      let reserves = reserves_step f k m i c c (Some old) (Some new) here at in
      let same = same_owed m c (Some old) (Some new) in
      record {
        pages = omega (arith, stamps);
        usage = omega (arith, stamps, reserves, same);
        each = λ n. omega (arith, stamps_at_grow n new.stamp new.page.node f after has fresh);
      }

-- ---- the owner takes the copy back

dropped_down : (t : ℕ → ℕ → Bool) (b : Bool) (p : Place Copy) → place_has t (if b then without_copy p else p) ≡ true → place_has t p ≡ true
dropped_down t b p e = grind arith

robbed_if : (t : ℕ → ℕ → Bool) (stamp : ℕ) (b : Bool) (m : Map) → map_has t (if b then record m { unmapped = true; places = map (drop_stamp stamp) m.places } else m) ≡ true → map_has t m ≡ true
robbed_if t stamp b m e = grind (arith, any_map_down, dropped_down)

robbed_down : (t : ℕ → ℕ → Bool) (stamp : ℕ) (m : Map) → map_has t (robbed stamp m) ≡ true → map_has t m ≡ true
robbed_down t stamp m e = robbed_if t stamp (list_any (holds stamp) m.places) m e

-- tests of other stamps
abbrev but : ℕ → (ℕ → ℕ → Bool) → ℕ → ℕ → Bool
but stamp t s n = t s n && not (s == stamp)

abbrev only : ℕ → (ℕ → ℕ → Bool) → ℕ → ℕ → Bool
only stamp t s n = t s n && (s == stamp)

kept_place : (t : ℕ → ℕ → Bool) (stamp : ℕ) (p : Place Copy) → place_has (but stamp t) p ≡ true → place_has (but stamp t) (drop_stamp stamp p) ≡ true
kept_place t stamp p e = grind arith

kept_map : (t : ℕ → ℕ → Bool) (stamp : ℕ) (b : Bool) (m : Map) → map_has (but stamp t) m ≡ true
    → map_has (but stamp t) (if b then record m { unmapped = true; places = map (drop_stamp stamp) m.places } else m) ≡ true
kept_map t stamp b m e = grind (arith, any_map_up, kept_place)

robbed_keeps : (t : ℕ → ℕ → Bool) (stamp : ℕ) (m : Map) → map_has (but stamp t) m ≡ true → map_has (but stamp t) (robbed stamp m) ≡ true
robbed_keeps t stamp m e = kept_map t stamp (list_any (holds stamp) m.places) m e

which_place : (t : ℕ → ℕ → Bool) (stamp : ℕ) (p : Place Copy) → place_has t p ≡ true → (place_has (but stamp t) p ≡ true) ⊎ (place_has (only stamp t) p ≡ true)
which_place t stamp p e = grind arith

which : (t : ℕ → ℕ → Bool) (stamp : ℕ) (f : File) → file_has t f ≡ true → (file_has (but stamp t) f ≡ true) ⊎ (file_has (only stamp t) f ≡ true)
which t stamp f e = grind (arith, any_either, which_place)

-- a copy that passes
pub record Holds (t : ℕ → ℕ → Bool) (has : (ℕ → ℕ → Bool) → Bool) : Type 0 where
  pub stamp : ℕ
  pub node : ℕ
  pub passes : t stamp node ≡ true
  pub held : has (is_stamp_at node stamp) ≡ true

place_some : (t : ℕ → ℕ → Bool) (p : Place Copy) → place_has t p ≡ true → Holds t (λ u. place_has u p)
place_some t p e = grind arith

any_some : {X : Type 0} (t : ℕ → ℕ → Bool) (has : (ℕ → ℕ → Bool) → X → Bool) → ((x : X) → has t x ≡ true → Holds t (λ u. has u x)) → (xs : List X) →
    list_any (has t) xs ≡ true → Holds t (λ u. list_any (has u) xs)
any_some t has h [] e = cc
any_some t has h (x ∷ xs) e =
    ⊎_elim (λ l. (let s = h x l in record { stamp = s.stamp; node = s.node; passes = s.passes; held = or_left (has (is_stamp_at s.node s.stamp) x) _ s.held }))
    (λ r. (let s = any_some t has h xs r in record { stamp = s.stamp; node = s.node; passes = s.passes; held = or_right (has (is_stamp_at s.node s.stamp) x) _ s.held }))
    (or_cases (has t x) (list_any (has t) xs) e)

pub some_copy : (t : ℕ → ℕ → Bool) (f : File) → file_has t f ≡ true → Holds t (λ u. file_has u f)
some_copy t f e = any_some t map_has (λ m. any_some t place_has (place_some t) m.places) f.maps e

same_bool : (a b : Bool) → (a ≡ true → b ≡ true) → (b ≡ true → a ≡ true) → a ≡ b
same_bool a b f g = grind arith

robbed_reserves : (stamp : ℕ) (b : Bool) (m : Map) → owner_reserves (if b then record m { unmapped = true; places = map (drop_stamp stamp) m.places } else m) ≡ owner_reserves m
robbed_reserves stamp b m = grind (arith, common_steps)

module _ (f : File) (k : ℕ) (m : Map) (i : ℕ) (c : Bool) (copy : Copy) (here : IsMapAt f k m) (is : place_at m i ≡ Live c (Some copy)) where
  abbrev left : List Map
  left = map (robbed copy.stamp) f.maps

  abbrev back : File
  back = with_map (record f { maps = map (robbed copy.stamp) f.maps }) k m

  has_its_copy : (t : ℕ → ℕ → Bool) → t copy.stamp copy.page.node ≡ true → map_has t m ≡ true
  has_its_copy t e = let at = live_at m i c (Some copy) is in list_any_at (place_has t) m.places (i - m.start) Gone at.within (ap (place_has t) at.is ∙ e)

  in_file : (t : ℕ → ℕ → Bool) → map_has t m ≡ true → file_has t f ≡ true
  in_file t e = list_any_at (map_has t) f.maps k m here.within (ap (map_has t) (here.is m) ∙ e)

  robbed_here : slice_index_or left k m ≡ robbed copy.stamp m
  robbed_here = get_or-map (robbed copy.stamp) f.maps k m m here.within ∙ ap (robbed copy.stamp) (here.is m)

  within_left : k < length left
  within_left = let long = length-map f.maps (robbed copy.stamp) in let l = here.within in omega (arith, long, l)

  back_down : (t : ℕ → ℕ → Bool) → file_has t back ≡ true → file_has t f ≡ true
  back_down t e = grind (arith, any_map_down, robbed_down, in_file, any_of_set)

  back_up : IsAgreed f → (t : ℕ → ℕ → Bool) → file_has t f ≡ true → file_has t back ≡ true
  back_up agreed t e =
      let stamp : ℕ = copy.stamp in
      ⊎_elim
      (λ l. weaker (but stamp t) t back (λ s n both. (and_parts (t s n) (not (s == stamp)) both).0)
      (any_set_up (map_has (but stamp t)) left k m m (λ h. robbed_down (but stamp t) stamp m (sym (ap (map_has (but stamp t)) robbed_here) ∙ h))
      (any_map_up (map_has (but stamp t)) (map_has (but stamp t)) (robbed stamp) (robbed_keeps t stamp) f.maps l)))
      (λ r. (let s = some_copy (only stamp t) f r in
      let parts = and_parts (t s.stamp s.node) (s.stamp == stamp) s.passes in
      let is_stamp_of : s.stamp ≡ stamp = eqb-true s.stamp stamp parts.1 in
      let held : file_has (is_stamp_at s.node stamp) f ≡ true = subst (λ (q : ℕ). file_has (is_stamp_at s.node q) f ≡ true) is_stamp_of s.held in
      let mine : file_has (is_stamp_at copy.page.node stamp) f ≡ true = in_file (is_stamp_at copy.page.node stamp) (has_its_copy (is_stamp_at copy.page.node stamp)
      (and_from (copy.page.node == copy.page.node) (stamp == stamp) (eq-eqb copy.page.node copy.page.node refl) (eq-eqb stamp stamp refl))) in
      let node = agreed stamp s.node copy.page.node held mine in
      any_set_at (map_has t) left k m within_left (has_its_copy t (sym (ap (λ x. t x s.node) is_stamp_of ∙ ap (λ x. t stamp x) node) ∙ parts.0))))
      (which t stamp f e)

  pub takes_back : IsAgreed f → FileGrows f (with_map (record f { maps = map (robbed copy.stamp) f.maps }) k m) 0 0 0
  takes_back agreed =
      let has = λ (t : ℕ → ℕ → Bool). same_bool (file_has t back) (file_has t f) (back_down t) (back_up agreed t) in
      let stamps = stamps_stay f back has in
      let maps = sum_by-set owner_reserves left k m m within_left in
      let here_is = ap owner_reserves robbed_here in
      let robbed_is = robbed_reserves copy.stamp (list_any (holds copy.stamp) m.places) m in
      let all = sum_by-map_same owner_reserves (robbed copy.stamp) (λ x. robbed_reserves copy.stamp (list_any (holds copy.stamp) x.places) x) f.maps in
      record {
        pages = omega (arith, stamps);
        usage = omega (arith, stamps, maps, here_is, robbed_is, all);
        each = λ n. omega (arith, stamps_at_stay n f back has, spent (0 == n));
      }

-- ---- bytes written into a page

cell_same : (offset : ℕ) (bytes : List ℕ) (test : Cell Page → Bool) → ((p q : Page) → p.node ≡ q.node → test (Present p) ≡ test (Present q)) →
    (x : Cell Page) → bit (test (cell_written offset bytes x)) ≡ bit (test x)
cell_same offset bytes test h q = grind arith

place_same : (t : ℕ → ℕ → Bool) (offset : ℕ) (bytes : List ℕ) (p : Place Copy) → place_has t (place_written offset bytes p) ≡ place_has t p
place_same t offset bytes p = grind arith

place_owes : (offset : ℕ) (bytes : List ℕ) (p : Place Copy) → bit (is_unconsumed (place_written offset bytes p)) ≡ bit (is_unconsumed p)
place_owes offset bytes p = grind arith

map_owes : (i offset : ℕ) (bytes : List ℕ) (m : Map) → owner_reserves (map_written i offset bytes m) ≡ owner_reserves m
map_owes i offset bytes m = grind (arith, sum_by-edit_at, place_owes)

pub writes : (b : Bool) (k i offset : ℕ) (bytes : List ℕ) (f : File)
    → FileGrows f (if b then record f { cells = edit_at (cell_written offset bytes) f.cells i } else record f { maps = edit_at (map_written i offset bytes) f.maps k }) 0 0 0
writes true k i offset bytes f = grind (arith, sum_by-edit_at, cell_same, spent)
writes false k i offset bytes f =
    let g : File = record f { maps = edit_at (map_written i offset bytes) f.maps k } in
    let has = λ (t : ℕ → ℕ → Bool). any_edit_at (map_has t) (map_written i offset bytes)
    (λ m. any_edit_at (place_has t) (place_written offset bytes) (place_same t offset bytes) m.places (i - m.start)) f.maps k in
    let stamps = stamps_stay f g has in
    let owes = sum_by-edit_at owner_reserves (map_written i offset bytes) (map_owes i offset bytes) f.maps k in
    record {
      pages = omega (arith, stamps);
      usage = omega (arith, stamps, owes);
      each = λ n. omega (arith, stamps_at_stay n f g has, spent (0 == n));
    }
