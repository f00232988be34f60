use Rattle.std.proofs.lemmas.Grind.{common_steps}
-- The pages of a store are those that the files show, counted once each.
use Rattle.std.proofs.Common.{◌≡◌, ◌≢◌, ℕ, zero, suc, ◌+◌, ◌<◌, ◌≤◌, ◌==◌, ◌||◌, ◌&&◌, ⊎_elim, Bool, true, false, cond, nat_lt, Option, Some, None, List, [], ◌∷◌, ◌++◌, length, map, refl, sym, ap}
use Rattle.std.proofs.Common.{subst, ◌∙◌, arith, slice_index_or, count_by, filter, filter_map, flat_map, sum_by}
use Rattle.std.specs.List.{cons_option}
use Rattle.std.specs.List.{range_with_len}
use Rattle.std.proofs.lemmas.Bool.{cases_lt}
use Rattle.std.proofs.lemmas.Bool.Decides.{eqb_tells, nat_tests}
use Rattle.std.proofs.lemmas.List.{get_or_past, map-append}
use Rattle.std.proofs.lemmas.List.FromFn.{fill_by_all}
use Rattle.std.proofs.lemmas.List.Sums.{sum_by-cons}
use Rattle.hp_laws.proofs.Variants.{Cell, Entered, Gone, Hole, Live, Place, Present}
use Rattle.hp_model.proofs.Words.{Copy, Map, Mapping, copy_of, distinct, file_pages, file_pages_at, has_page, is_among, is_page_at, stamp_at}
use Rattle.hp_model.proofs.Counting.{count_cons}
use Rattle.hp_model.proofs.Distinct.{is_among-append}
use Rattle.hp_store.specs.Store.{Holding, Store, held_count, holders_of, one_if_held, page_at}
use Rattle.hp_lookup.proofs.Words.{IsHeld, NumberedFile, at_node, cell_shown, copy_shown, file_shown, files_shown, in_cell, in_file, in_files, in_map, in_place, map_shown, numbered_at, page_in}
use Rattle.hp_lookup.proofs.Words.{place_shown}
use Rattle.hp_lookup.proofs.Cells.{no_file}
use Rattle.hp_lookup.proofs.Lifting.{at_most}

-- ---- the numbers of a file's copies

abbrev pub copies_in : NumberedFile → List ℕ
copies_in f = flat_map (λ (m : Mapping ℕ). filter_map copy_of m.places) f.maps

places_copies : (s : Store) (ps : List (Place ℕ)) → filter_map copy_of (map (place_shown s) ps) ≡ map (copy_shown s) (filter_map copy_of ps)
places_copies s [] = refl
places_copies s (Gone ∷ ps) = places_copies s ps
places_copies s (Live c None ∷ ps) = places_copies s ps
places_copies s (Live c (Some n) ∷ ps) = ap (λ cs. copy_shown s n ∷ cs) (places_copies s ps)

maps_copies : (s : Store) (ms : List (Mapping ℕ)) → flat_map (λ (m : Map). filter_map copy_of m.places) (map (map_shown s) ms)
    ≡ map (copy_shown s) (flat_map (λ (m : Mapping ℕ). filter_map copy_of m.places) ms)
maps_copies s [] = refl
maps_copies s (m ∷ ms) =
    ap (λ cs. cs ++ flat_map (λ (m : Map). filter_map copy_of m.places) (map (map_shown s) ms)) (places_copies s m.places)
    ∙ ap (λ cs. map (copy_shown s) (filter_map copy_of m.places) ++ cs) (maps_copies s ms)
    ∙ sym (map-append (copy_shown s) (filter_map copy_of m.places) (flat_map (λ (m : Mapping ℕ). filter_map copy_of m.places) ms))

stamps_same : (s : Store) (ns : List ℕ) → map (λ (c : Copy). c.stamp) (map (copy_shown s) ns) ≡ ns
stamps_same s [] = refl
stamps_same s (n ∷ ns) = ap (λ ks. n ∷ ks) (stamps_same s ns)

-- whether the page of the number is of the node
abbrev pub on_node : Store → ℕ → ℕ → Bool
on_node s n k = (page_in (page_at s k)).node == n

stamps_at : (s : Store) (n : ℕ) (ns : List ℕ) → filter_map (stamp_at n) (map (copy_shown s) ns) ≡ filter (on_node s n) ns
stamps_at s n [] = refl
stamps_at s n (k ∷ ns) = either (on_node s n k) (stamps_at s n ns)
  where
    either : (b : Bool) → filter_map (stamp_at n) (map (copy_shown s) ns) ≡ filter (on_node s n) ns
        → cons_option (cond {A = Option ℕ} b (Some k) None) (filter_map (stamp_at n) (map (copy_shown s) ns)) ≡ cond b (k ∷ filter (on_node s n) ns) (filter (on_node s n) ns)
    either true rest = ap (λ ks. k ∷ ks) rest
    either false rest = rest

all_pass : (ns : List ℕ) → filter (λ k. true) ns ≡ ns
all_pass [] = refl
all_pass (n ∷ ns) = ap (λ ks. n ∷ ks) (all_pass ns)

-- ---- sums over the numbers below a bound, of those that pass

module _ (b : ℕ → Bool) where
  abbrev pub over : (ℕ → ℕ) → List ℕ → ℕ
  over g ks = sum_by (λ k. cond (b k) (g k) 0) ks

  over_none : (g : ℕ → ℕ) → ((k : ℕ) → g k ≡ 0) → (ks : List ℕ) → over g ks ≡ 0
  over_none g none [] = refl
  over_none g none (k ∷ ks) = (let step = sum_by-cons (λ k. cond (b k) (g k) 0) k ks in let rest = over_none g none ks in let here = either (b k) in omega (arith, step, rest, here))
    where
      either : (c : Bool) → cond c (g k) 0 ≡ 0
      either true = none k
      either false = refl

  over_same : (g h : ℕ → ℕ) → ((k : ℕ) → g k ≡ h k) → (ks : List ℕ) → over g ks ≡ over h ks
  over_same g h same [] = refl
  over_same g h same (k ∷ ks) =
      let left = sum_by-cons (λ k. cond (b k) (g k) 0) k ks in
      let right = sum_by-cons (λ k. cond (b k) (h k) 0) k ks in
      let rest = over_same g h same ks in
      let here = ap (λ v. cond {A = ℕ} (b k) v 0 + 0) (same k) in
      omega (arith, left, right, rest, here)

  over_add : (g h : ℕ → ℕ) (ks : List ℕ) → over (λ k. g k + h k) ks ≡ over g ks + over h ks
  over_add g h [] = refl
  over_add g h (k ∷ ks) = (let all = sum_by-cons (λ k. cond (b k) (g k + h k) 0) k ks in let left = sum_by-cons (λ k. cond (b k) (g k) 0) k ks in
      let right = sum_by-cons (λ k. cond (b k) (h k) 0) k ks in let rest = over_add g h ks in let here = either (b k) in
      omega (arith, all, left, right, rest, here))
    where
      either : (c : Bool) → cond c (g k + h k) 0 ≡ cond c (g k) 0 + cond c (h k) 0
      either true = refl
      either false = refl

  -- one number
  over_one : (x a n : ℕ) → a ≤ x → x < a + n → over (λ k. cond (x == k) 1 0) (range_with_len a n) ≡ cond (b x) 1 0
  over_one x a zero low high = absurd (omega (arith, low, high))
  over_one x a (suc n) low high =
      let step = sum_by-cons (λ k. cond {A = ℕ} (b k) (cond (x == k) 1 0) 0) a (range_with_len (a + 1) n) in
      ⊎_elim
      (λ (e : ((x == a) ≡ true) × (x ≡ a)).
      let none = over_past x (a + 1) n (omega (arith, e.1)) in
      let here = ap (λ c. cond {A = ℕ} (b a) (cond c 1 0) 0 + 0) e.0 in
      let there = ap (λ k. cond {A = ℕ} (b k) 1 0 + 0) e.1 in
      omega (arith, step, none, here, there))
      (λ (e : ((x == a) ≡ false) × (x ≢ a)).
      let rest = over_one x (a + 1) n (above low e.1) (omega (arith, high)) in
      let here = ap (λ c. cond {A = ℕ} (b a) (cond c 1 0) 0 + 0) e.0 in
      let there = nothing (b a) in
      omega (arith, step, rest, here, there))
      (eqb_tells x a)
    where
      nothing : (c : Bool) → cond {A = ℕ} c 0 0 ≡ 0
      nothing true = refl
      nothing false = refl

      above : a ≤ x → x ≢ a → a + 1 ≤ x
      above low other = ⊎_elim (λ (l : x < a + 1). absurd (other (omega (arith, l, low)))) (λ (l : a + 1 ≤ x). l) (cases_lt x (a + 1))

      over_past : (x a n : ℕ) → x < a → over (λ k. cond (x == k) 1 0) (range_with_len a n) ≡ 0
      over_past x a zero l = refl
      over_past x a (suc n) l =
          let step = sum_by-cons (λ k. cond {A = ℕ} (b k) (cond (x == k) 1 0) 0) a (range_with_len (a + 1) n) in
          let rest = over_past x (a + 1) n (omega (arith, l)) in
          let other : (x == a) ≡ false = grind (arith, nat_tests, l) in
          let here = ap (λ c. cond {A = ℕ} (b a) (cond c 1 0) 0 + 0) other in
          let there = nothing (b a) in
          omega (arith, step, rest, here, there)

  over_first : (x n : ℕ) → x < n → over (λ k. cond (x == k) 1 0) (range_with_len 0 n) ≡ cond (b x) 1 0
  over_first x n l = over_one x 0 n (omega arith) (omega (arith, l))

  among_passing : (x : ℕ) (ys : List ℕ) → is_among x (filter b ys) ≡ (is_among x ys && b x)
  among_passing x [] = refl
  among_passing x (y ∷ ys) = either (b y) refl (among_passing x ys)
    where
      either : (c : Bool) → b y ≡ c → is_among x (filter b ys) ≡ (is_among x ys && b x) → is_among x (cond c (y ∷ filter b ys) (filter b ys)) ≡ (((y == x) || is_among x ys) && b x)
      either true e rest = ap (λ q. (y == x) || q) rest ∙ same (y == x) (is_among x ys) (b x) (λ t. (let is : y ≡ x = grind (arith, nat_tests, t) in ap b (sym is) ∙ e))
        where
          same : (p q r : Bool) → (p ≡ true → r ≡ true) → (p || (q && r)) ≡ ((p || q) && r)
          same true q r h = sym (h refl)
          same false q r h = refl
      either false e rest = rest ∙ same (y == x) (is_among x ys) (b x) (λ t. (let is : y ≡ x = grind (arith, nat_tests, t) in ap b (sym is) ∙ e))
        where
          same : (p q r : Bool) → (p ≡ true → r ≡ false) → (q && r) ≡ ((p || q) && r)
          same true true r h = refl
          same true false r h = sym (h refl)
          same false q r h = refl

  -- numbers, each counted once
  over_among : (ys : List ℕ) (n : ℕ) → ((k : ℕ) → is_among k ys ≡ true → k < n) → over (λ k. cond (is_among k ys) 1 0) (range_with_len 0 n) ≡ length (distinct (filter b ys))
  over_among [] n below = over_none (λ k. 0) (λ k. refl) (range_with_len 0 n)
  over_among (y ∷ ys) n below = either (is_among y ys) refl (over_among ys n (λ k in'. below k (or_more (y == k) (is_among k ys) in')))
    where
      or_more : (p q : Bool) → q ≡ true → (p || q) ≡ true
      or_more true q e = refl
      or_more false q e = e

      here : (y == y) ≡ true
      here = grind (arith, nat_tests)

      passing : (c d : Bool) → b y ≡ c → is_among y (filter b ys) ≡ (d && c) → length (distinct (cond c (y ∷ filter b ys) (filter b ys))) ≡ length (distinct (filter b ys)) + cond c (cond d 0 1) 0
      passing true true e known = ap (λ q. length (cond q (distinct (filter b ys)) (y ∷ distinct (filter b ys)))) known
          ∙ (let same : length (distinct (filter b ys)) ≡ length (distinct (filter b ys)) + 0 = omega arith in same)
      passing true false e known = ap (λ q. length (cond q (distinct (filter b ys)) (y ∷ distinct (filter b ys)))) known
          ∙ (let same : suc (length (distinct (filter b ys))) ≡ length (distinct (filter b ys)) + 1 = omega arith in same)
      passing false d e known = (let same : length (distinct (filter b ys)) ≡ length (distinct (filter b ys)) + 0 = omega arith in same)

      again : (p q : Bool) → (p ≡ true → q ≡ true) → cond {A = ℕ} (p || q) 1 0 ≡ cond q 1 0
      again true q h = sym (ap (λ c. cond {A = ℕ} c 1 0) (h refl))
      again false q h = refl

      new : (p q : Bool) → (p ≡ true → q ≡ false) → cond {A = ℕ} (p || q) 1 0 ≡ cond p 1 0 + cond q 1 0
      new true true h = absurd (clash (h refl))
        where
          clash : true ≡ false → ⊥
          clash e = cc
      new true false h = refl
      new false true h = refl
      new false false h = refl

      either : (d : Bool) → is_among y ys ≡ d → over (λ k. cond (is_among k ys) 1 0) (range_with_len 0 n) ≡ length (distinct (filter b ys)) →
          over (λ k. cond (is_among k (y ∷ ys)) 1 0) (range_with_len 0 n) ≡ length (distinct (filter b (y ∷ ys)))
      either true e rest =
          let same = over_same (λ k. cond (is_among k (y ∷ ys)) 1 0) (λ k. cond (is_among k ys) 1 0)
          (λ k. again (y == k) (is_among k ys) (λ t. (let is : y ≡ k = grind (arith, nat_tests, t) in ap (λ q. is_among q ys) (sym is) ∙ e)))
          (range_with_len 0 n) in
          let count = passing (b y) true refl (among_passing y ys ∙ ap (λ q. q && b y) e) in
          let none = ap (λ c. c + 0) (twice (b y)) in
          omega (arith, same, rest, count, none)
        where
          twice : (c : Bool) → cond {A = ℕ} c (cond true 0 1) 0 ≡ 0
          twice true = refl
          twice false = refl
      either false e rest =
          let same = over_same (λ k. cond (is_among k (y ∷ ys)) 1 0) (λ k. cond (y == k) 1 0 + cond (is_among k ys) 1 0)
          (λ k. new (y == k) (is_among k ys) (λ t. (let is : y ≡ k = grind (arith, nat_tests, t) in ap (λ q. is_among q ys) (sym is) ∙ e)))
          (range_with_len 0 n) in
          let parts = over_add (λ k. cond (y == k) 1 0) (λ k. cond (is_among k ys) 1 0) (range_with_len 0 n) in
          let one = over_first y n (below y (ap (λ q. q || is_among y ys) here)) in
          let count = passing (b y) false refl (among_passing y ys ∙ ap (λ q. q && b y) e) in
          omega (arith, same, parts, one, rest, count)

  -- pages of cells
  abbrev pub passing_cell : Cell ℕ → Bool
  passing_cell Hole = false
  passing_cell Entered = false
  passing_cell (Present x) = b x

  over_cells : (cells : List (Cell ℕ)) (n : ℕ) → ((k : ℕ) → 0 < sum_by (in_cell k) cells → k < n) → over (λ k. sum_by (in_cell k) cells) (range_with_len 0 n) ≡ count_by passing_cell cells
  over_cells [] n below = over_none (λ k. 0) (λ k. refl) (range_with_len 0 n)
  over_cells (c ∷ cells) n below =
      let split = over_same (λ k. sum_by (in_cell k) (c ∷ cells)) (λ k. in_cell k c + sum_by (in_cell k) cells) (λ k. sum_by-cons (in_cell k) c cells) (range_with_len 0 n) in
      let parts = over_add (λ k. in_cell k c) (λ k. sum_by (in_cell k) cells) (range_with_len 0 n) in
      let rest = over_cells cells n (λ k some. below k (let step = sum_by-cons (in_cell k) c cells in omega (arith, step, some))) in
      let step = count_cons passing_cell c cells in
      let first = one c (λ k some. below k (let step = sum_by-cons (in_cell k) c cells in omega (arith, step, some))) in
      omega (arith, split, parts, rest, step, first)
    where
      same : (k : ℕ) → (k == k) ≡ true
      same k = grind (arith, nat_tests)

      one : (c : Cell ℕ) → ((k : ℕ) → 0 < in_cell k c → k < n) → over (λ k. in_cell k c) (range_with_len 0 n) ≡ cond (passing_cell c) 1 0
      one Hole below = over_none (λ k. 0) (λ k. refl) (range_with_len 0 n)
      one Entered below = over_none (λ k. 0) (λ k. refl) (range_with_len 0 n)
      one (Present x) below = over_first x n (below x (let here = ap (λ q. cond {A = ℕ} q 1 0 + 0) (same x) in omega (arith, here)))

  -- sums over files
  over_files : (u : NumberedFile → ℕ → ℕ) (fs : List NumberedFile) (ks : List ℕ) → over (λ k. sum_by (λ f. u f k) fs) ks ≡ sum_by (λ f. over (u f) ks) fs
  over_files u [] ks = over_none (λ k. 0) (λ k. refl) ks
  over_files u (f ∷ fs) ks =
      let split = over_same (λ k. sum_by (λ g. u g k) (f ∷ fs)) (λ k. u f k + sum_by (λ g. u g k) fs) (λ k. sum_by-cons (λ g. u g k) f fs) ks in
      let parts = over_add (u f) (λ k. sum_by (λ g. u g k) fs) ks in
      let rest = over_files u fs ks in
      let step = sum_by-cons (λ g. over (u g) ks) f fs in
      omega (arith, split, parts, rest, step)

-- ---- what one number weighs

lt_one : (p : Bool) (r n : ℕ) → n ≡ cond p 1 0 + r → nat_lt 0 n ≡ (p || nat_lt 0 r)
lt_one true r n e = grind (arith, nat_tests)
lt_one false r n e = (let same : n ≡ r = omega (arith, e) in ap (nat_lt 0) same)

lt_sum : (p r n : ℕ) → n ≡ p + r → nat_lt 0 n ≡ (nat_lt 0 p || nat_lt 0 r)
lt_sum zero r n e = (let same : n ≡ r = omega (arith, e) in ap (nat_lt 0) same)
lt_sum (suc p) r n e = (let some : nat_lt 0 (suc p) ≡ true = grind (arith, nat_tests) in let all : nat_lt 0 n ≡ true = grind (arith, nat_tests, e) in all ∙ sym (ap (λ q. q || nat_lt 0 r) some))

among_places : (k : ℕ) (ps : List (Place ℕ)) → is_among k (filter_map copy_of ps) ≡ nat_lt 0 (sum_by (in_place k) ps)
among_places k [] = refl
among_places k (Gone ∷ ps) = among_places k ps ∙ sym (lt_one false (sum_by (in_place k) ps) (sum_by (in_place k) (Gone ∷ ps)) (sum_by-cons (in_place k) Gone ps))
among_places k (Live c None ∷ ps) = among_places k ps ∙ sym (lt_one false (sum_by (in_place k) ps) (sum_by (in_place k) (Live c None ∷ ps)) (sum_by-cons (in_place k) (Live c None) ps))
among_places k (Live c (Some x) ∷ ps) = ap (λ q. (x == k) || q) (among_places k ps)
    ∙ sym (lt_one (x == k) (sum_by (in_place k) ps) (sum_by (in_place k) (Live c (Some x) ∷ ps)) (sum_by-cons (in_place k) (Live c (Some x)) ps))

among_copies : (k : ℕ) (ms : List (Mapping ℕ)) → is_among k (flat_map (λ (m : Mapping ℕ). filter_map copy_of m.places) ms) ≡ nat_lt 0 (sum_by (in_map k) ms)
among_copies k [] = refl
among_copies k (m ∷ ms) =
    is_among-append k (filter_map copy_of m.places) (flat_map (λ (m : Mapping ℕ). filter_map copy_of m.places) ms)
    ∙ ap (λ q. q || is_among k (flat_map (λ (m : Mapping ℕ). filter_map copy_of m.places) ms)) (among_places k m.places)
    ∙ ap (λ q. nat_lt 0 (sum_by (in_place k) m.places) || q) (among_copies k ms)
    ∙ sym (lt_sum (in_map k m) (sum_by (in_map k) ms) (sum_by (in_map k) (m ∷ ms)) (sum_by-cons (in_map k) m ms))

-- a file's own pages with the number, and one more where a map has it as a copy
abbrev pub weight : NumberedFile → ℕ → ℕ
weight f k = sum_by (in_cell k) f.cells + cond (is_among k (copies_in f)) 1 0

weight_is : (f : NumberedFile) (k : ℕ) → weight f k ≡ sum_by (in_cell k) f.cells + cond (nat_lt 0 (sum_by (in_map k) f.maps)) 1 0
weight_is f k = ap (λ q. sum_by (in_cell k) f.cells + cond {A = ℕ} q 1 0) (among_copies k f.maps)

bit_most : (n : ℕ) → cond {A = ℕ} (nat_lt 0 n) 1 0 ≤ n
bit_most zero = omega arith
bit_most (suc n) = (let some : nat_lt 0 (suc n) ≡ true = grind (arith, nat_tests) in let one = ap (λ q. cond {A = ℕ} q 1 0 + 0) some in omega (arith, one))

weight_most : (f : NumberedFile) (k : ℕ) → weight f k ≤ in_file k f
weight_most f k = (let is = weight_is f k in let most = bit_most (sum_by (in_map k) f.maps) in omega (arith, is, most))

weights_most : (fs : List NumberedFile) (k : ℕ) → sum_by (λ f. weight f k) fs ≤ in_files k fs
weights_most [] k = omega arith
weights_most (f ∷ fs) k = omega (arith, weight_most f k, weights_most fs k, sum_by-cons (λ f. weight f k) f fs, sum_by-cons (in_file k) f fs)

some_at : (k : ℕ) (fs : List NumberedFile) → 0 < in_files k fs → (j : ℕ) × (j < length fs) × (0 < in_file k (numbered_at fs j))
some_at k [] l = absurd (omega (arith, l))
some_at k (f ∷ fs) l = (let step = sum_by-cons (in_file k) f fs in ⊎_elim (λ (none : in_file k f < 1).
    (let rest = some_at k fs (omega (arith, step, none, l)) in (rest.0 + 1, next (rest.0) rest.1, here rest.0 rest.2)))
    (λ (some : 1 ≤ in_file k f). (0, omega arith, omega (arith, some))) (cases_lt (in_file k f) 1))
  where
    next : (j : ℕ) → j < length fs → j + 1 < length (f ∷ fs)
    next j l = omega (arith, l)

    at : (j : ℕ) → numbered_at (f ∷ fs) (j + 1) ≡ numbered_at fs j
    at j = (let same : j + 1 ≡ suc j = omega arith in ap (numbered_at (f ∷ fs)) same)

    here : (j : ℕ) → 0 < in_file k (numbered_at fs j) → 0 < in_file k (numbered_at (f ∷ fs) (j + 1))
    here j some = subst (λ g. 0 < in_file k g) (sym (at j)) some

only_one : (k : ℕ) (fs : List NumberedFile) (j : ℕ) → j < length fs → in_files k fs ≡ in_file k (numbered_at fs j) → sum_by (λ f. weight f k) fs ≡ weight (numbered_at fs j) k
only_one k [] j l e = absurd (omega (arith, l))
only_one k (f ∷ fs) zero l e = omega (arith, e, sum_by-cons (in_file k) f fs, sum_by-cons (λ f. weight f k) f fs, weights_most fs k)
only_one k (f ∷ fs) (suc j) l e =
    let step = sum_by-cons (in_file k) f fs in
    let most = at_most (λ (f : NumberedFile). f) (λ f. f) (in_file k) (λ f h. refl) fs j no_file (omega (arith, l)) in
    let rest = only_one k fs j (omega (arith, l)) (omega (arith, step, e, most)) in
    omega (arith, e, step, most, rest, sum_by-cons (λ f. weight f k) f fs, weight_most f k)

module _ (s : Store) (more : ℕ) (fs : List NumberedFile) (h : IsHeld s more fs) where
  there : (k : ℕ) (x : Holding) → page_at s k ≡ Some x → sum_by (λ f. weight f k) fs ≡ 1
  there k x is = ⊎_elim (λ (none : in_files k fs < 1). absurd (clash (sym is ∙ h.some k (h.held k ∙ gone none))))
      (λ (some : 1 ≤ in_files k fs). by (some_at k fs (omega (arith, some)))) (cases_lt (in_files k fs) 1)
    where
      clash : ◌≡◌ {A = Option Holding} (Some x) None → ⊥
      clash e = cc

      gone : in_files k fs < 1 → in_files k fs ≡ 0
      gone l = omega (arith, l)

      by : (j : ℕ) × (j < length fs) × (0 < in_file k (numbered_at fs j)) → sum_by (λ f. weight f k) fs ≡ 1
      by p = grind (arith, common_steps, only_one, weight_is, at_most, no_file, nat_tests, cases_lt)

  weighs : (k : ℕ) → sum_by (λ f. weight f k) fs ≡ one_if_held (page_at s k)
  weighs k = by (page_at s k) refl
    where
      by : (o : Option Holding) → page_at s k ≡ o → sum_by (λ f. weight f k) fs ≡ one_if_held o
      by None e = (let most = weights_most fs k in let none = sym (h.held k) ∙ ap holders_of e in omega (arith, most, none))
      by (Some x) e = there k x e

  inside : (k : ℕ) → 0 < in_files k fs → k < length s.pages
  inside k some = ⊎_elim (λ (l : k < length s.pages). l) (λ (l : length s.pages ≤ k).
      (let none = sym (h.held k) ∙ ap holders_of (get_or_past s.pages k None l) in absurd (omega (arith, some, none)))) (cases_lt k (length s.pages))

  own_inside : (f : NumberedFile) (j k : ℕ) → j < length fs → f ≡ numbered_at fs j → 0 < in_file k f → k < length s.pages
  own_inside f j k l e some = (let most = at_most (λ (f : NumberedFile). f) (λ f. f) (in_file k) (λ f h. refl) fs j no_file l in
      let same = ap (in_file k) e in inside k (omega (arith, most, same, some)))

  module _ (b : ℕ → Bool) where
    abbrev numbers : List ℕ
    numbers = range_with_len 0 (length s.pages)

    file_weighs : (f : NumberedFile) → ((k : ℕ) → 0 < in_file k f → k < length s.pages) → over b (weight f) numbers ≡ count_by (passing_cell b) f.cells + length (distinct (filter b (copies_in f)))
    file_weighs f below =
        let split = over_add b (λ k. sum_by (in_cell k) f.cells) (λ k. cond (is_among k (copies_in f)) 1 0) numbers in
        let cells = over_cells b f.cells (length s.pages) (λ k some. below k (omega (arith, some))) in
        let copies = over_among b (copies_in f) (length s.pages) (λ k in'. below k (held k (sym (among_copies k f.maps) ∙ in'))) in
        omega (arith, split, cells, copies)
      where
        held : (k : ℕ) → nat_lt 0 (sum_by (in_map k) f.maps) ≡ true → 0 < in_file k f
        held k e = (let some : 0 < sum_by (in_map k) f.maps = grind (arith, nat_tests, e) in omega (arith, some))

    files_weigh : (gs : List NumberedFile) → ((g : NumberedFile) (j : ℕ) → j < length gs → g ≡ numbered_at gs j → (k : ℕ) → 0 < in_file k g → k < length s.pages)
        → sum_by (λ f. over b (weight f) numbers) gs ≡ sum_by (λ f. count_by (passing_cell b) f.cells + length (distinct (filter b (copies_in f)))) gs
    files_weigh [] below = refl
    files_weigh (g ∷ gs) below =
        let here = file_weighs g (below g 0 (omega arith) refl) in
        let rest = files_weigh gs (λ f j l e. below f (j + 1) (omega (arith, l)) (e ∙ (let same : j + 1 ≡ suc j = omega arith in ap (numbered_at (g ∷ gs)) (sym same)))) in
        omega (arith, here, rest, sum_by-cons (λ f. over b (weight f) numbers) g gs, sum_by-cons (λ f. count_by (passing_cell b) f.cells + length (distinct (filter b (copies_in f)))) g gs)

    pub all_weigh : sum_by (λ f. count_by (passing_cell b) f.cells + length (distinct (filter b (copies_in f)))) fs ≡ over b (λ k. one_if_held (page_at s k)) numbers
    all_weigh =
        sym (files_weigh fs (λ f j l e k some. own_inside f j k l e some)) ∙ sym (over_files b weight fs numbers)
        ∙ over_same b (λ k. sum_by (λ f. weight f k) fs) (λ k. one_if_held (page_at s k)) weighs numbers

through : {X Y : Type 0} (c : Y → ℕ) (f : X → Y) (xs : List X) → sum_by c (map f xs) ≡ sum_by (λ x. c (f x)) xs
through c f [] = refl
through c f (x ∷ xs) = (let rest = through c f xs in omega (arith, rest, sum_by-cons c (f x) (map f xs), sum_by-cons (λ x. c (f x)) x xs))

through_numbers : (w : Option Holding → ℕ) (pages : List (Option Holding)) → sum_by (λ k. w (slice_index_or pages k None)) (range_with_len 0 (length pages)) ≡ sum_by w pages
through_numbers w pages = sym (ap (sum_by w) (fill_by_all (λ k. slice_index_or pages k None) pages (length pages) None refl (λ k l. refl))
    ∙ through w (λ k. slice_index_or pages k None) (range_with_len 0 (length pages)))

module _ (s : Store) (more : ℕ) (fs : List NumberedFile) (h : IsHeld s more fs) where
  pub stored_pages : sum_by file_pages (files_shown s fs) ≡ held_count s.pages
  stored_pages = each fs ∙ all_weigh s more fs h (λ k. true) ∙ through_numbers one_if_held s.pages
    where
      cells : (cs : List (Cell ℕ)) → count_by has_page (map (cell_shown s) cs) ≡ count_by (passing_cell (λ k. true)) cs
      cells [] = refl
      cells (Hole ∷ cs) = omega (arith, cells cs, count_cons has_page Hole (map (cell_shown s) cs), count_cons (passing_cell (λ k. true)) Hole cs)
      cells (Entered ∷ cs) = omega (arith, cells cs, count_cons has_page Entered (map (cell_shown s) cs), count_cons (passing_cell (λ k. true)) Entered cs)
      cells (Present n ∷ cs) = omega (arith, cells cs, count_cons has_page (cell_shown s (Present n)) (map (cell_shown s) cs), count_cons (passing_cell (λ k. true)) (Present n) cs)

      each : (gs : List NumberedFile) → sum_by file_pages (files_shown s gs) ≡ sum_by (λ f. count_by (passing_cell (λ k. true)) f.cells + length (distinct (filter (λ k. true) (copies_in f)))) gs
      each [] = refl
      each (g ∷ gs) =
          let copies = ap (λ xs. length (distinct xs)) (ap (map (λ (c : Copy). c.stamp)) (maps_copies s g.maps) ∙ stamps_same s (copies_in g) ∙ sym (all_pass (copies_in g))) in
          omega (
            arith,
            cells g.cells,
            copies,
            each gs,
            sum_by-cons file_pages (file_shown s g) (files_shown s gs),
            sum_by-cons
                (λ f. count_by (passing_cell (λ k. true)) f.cells + length (distinct (filter (λ k. true) (copies_in f)))) g gs,
          )

  pub stored_at : (n : ℕ) → sum_by (file_pages_at n) (files_shown s fs) ≡ sum_by (at_node n) s.pages
  stored_at n = each fs ∙ all_weigh s more fs h (on_node s n) ∙ through_numbers (at_node n) s.pages
    where
      cells : (cs : List (Cell ℕ)) → count_by (is_page_at n) (map (cell_shown s) cs) ≡ count_by (passing_cell (on_node s n)) cs
      cells [] = refl
      cells (Hole ∷ cs) = omega (arith, cells cs, count_cons (is_page_at n) Hole (map (cell_shown s) cs), count_cons (passing_cell (on_node s n)) Hole cs)
      cells (Entered ∷ cs) = omega (arith, cells cs, count_cons (is_page_at n) Entered (map (cell_shown s) cs), count_cons (passing_cell (on_node s n)) Entered cs)
      cells (Present k ∷ cs) = omega (arith, cells cs, count_cons (is_page_at n) (cell_shown s (Present k)) (map (cell_shown s) cs), count_cons (passing_cell (on_node s n)) (Present k) cs)

      each : (gs : List NumberedFile) → sum_by (file_pages_at n) (files_shown s gs)
          ≡ sum_by (λ f. count_by (passing_cell (on_node s n)) f.cells + length (distinct (filter (on_node s n) (copies_in f)))) gs
      each [] = refl
      each (g ∷ gs) =
          let copies = ap (λ xs. length (distinct xs)) (ap (filter_map (stamp_at n)) (maps_copies s g.maps) ∙ stamps_at s n (copies_in g)) in
          omega (
            arith,
            cells g.cells,
            copies,
            each gs,
            sum_by-cons (file_pages_at n) (file_shown s g) (files_shown s gs),
            sum_by-cons
                (λ f. count_by (passing_cell (on_node s n)) f.cells + length (distinct (filter (on_node s n) (copies_in f)))) g gs,
          )
