use Rattle.std.proofs.lemmas.Grind.{common_steps}
-- Indices of one map leave it, and the map goes with its last one.
use Rattle.std.proofs.Common.{◌≡◌, ◌≢◌, ℕ, zero, suc, ◌+◌, ◌-◌, ◌<◌, ◌≤◌, ◌^◌, ◌==◌, ◌||◌, nat_lt, Bool, true, false, not, cond, Option, None, Some, List, [], ◌∷◌, length, map, refl, sym, ap, subst}
use Rattle.std.proofs.Common.{◌∙◌, arith, is_some, slice_index_or, slice_set, count_by, filter, remove, sum_by, option_map}
use Rattle.std.specs.List.{list_any}
use Rattle.std.proofs.lemmas.Bool.{and_parts, eqb-true}
use Rattle.std.proofs.lemmas.Bool.Decides.{nat_tests}
use Rattle.std.proofs.lemmas.List.{get_or-map, get_or-set_same, length-map, length-set}
use Rattle.std.proofs.lemmas.List.Edits.{length-remove}
use Rattle.std.proofs.lemmas.List.Sums.{sum_by-remove, sum_by-set}
use Rattle.hp_laws.proofs.lists.Places.{found_place, sum_by-filter_le, sum_by-map_le}
use Rattle.hp_laws.proofs.Variants.{Gone, Limits, Live, Place}
use Rattle.hp_model.proofs.Words.{File, Map, Mapping, Mount, Spot, copy_of, file_unmapped, found, is_kept, is_left, is_live, is_map, is_mapped, is_of, map_unmapped, no_map, place_at, spot, spot_in}
use Rattle.hp_model.proofs.Words.{without_range}
use Rattle.hp_model.proofs.Counting.{count_cons}
use Rattle.hp_store.specs.Store.{Store, holders_of, page_at}
use Rattle.hp_lookup.proofs.Words.{AreLevel, AreNoted, IsDropping, IsFiles, IsFound, IsLeft, IsMoreButMap, Label, Noted, NumberedFile, cut_map, file_at, file_owed, file_shown, files_shown, has_key}
use Rattle.hp_lookup.proofs.Words.{in_file, in_files, in_map, is_listed, is_pair, is_used, key_of, keys_in, label_of, labels_of, left_at, left_from, map_shown, map_sum, mapping_at, maps_for, more_in}
use Rattle.hp_lookup.proofs.Words.{mount_with, no_mapping, numbered_at, place_shown, spot_of, stays, swept_at}
use Rattle.hp_lookup.proofs.Cells.{file_is, no_file}
use Rattle.hp_file.proofs.Drops.{drop_as, drop_then}
use Rattle.hp_file.proofs.Ended.{removed_set}
use Rattle.hp_mount_files.proofs.Exiting.{keys_are, maps_in}
use Rattle.hp_file.proofs.FileLeaves.{empty_file}
use Rattle.hp_lookup.proofs.Finding.{any_shown}
use Rattle.hp_lookup.proofs.Keys.{labels_stay, same_label}
use Rattle.hp_file.proofs.Leaves.{left_fewer}
use Rattle.hp_lookup.proofs.Level.{cut_less, filtered_level, mapped_level}
use Rattle.hp_lookup.proofs.Leaving.{keys_less, left_gives, left_keeps, left_noted, left_shows, used_label}
use Rattle.hp_lookup.proofs.Lifting.{at_most, map_but}
use Rattle.hp_lookup.proofs.Mapped.{map_edited, sum_through}
use Rattle.hp_lookup.proofs.Tallies.{own_maps}
use Rattle.hp_lookup.proofs.Unique.{alone_at, some_pass}
use Rattle.hp_lookup.proofs.Views.{files_len, read_is, view}

-- ---- lists of which one element changes, and may go

map_id : {X : Type 0} (xs : List X) → map (λ x. x) xs ≡ xs
map_id [] = refl
map_id (x ∷ xs) = ap (λ ys. x ∷ ys) (map_id xs)

filter_at : {X : Type 0} (test : X → Bool) (d : X) (xs : List X) (k : ℕ) (y : X) → k < length xs →
    ((i : ℕ) → i < length xs → i ≢ k → test (slice_index_or xs i d) ≡ true) →
    filter test (slice_set xs k y) ≡ cond (test y) (slice_set xs k y) (remove xs k)
filter_at test d [] k y l each = absurd (omega (arith, l))
filter_at test d (x ∷ xs) zero y l each = ap (λ ys. cond (test y) (y ∷ ys) ys) (all xs (λ i below. each (suc i) (omega (arith, below)) (λ e. omega (arith, e))))
  where
    all : (xs : List _) → ((i : ℕ) → i < length xs → test (slice_index_or xs i d) ≡ true) → filter test xs ≡ xs
    all [] each = refl
    all (x ∷ xs) each = ap (λ b. cond b (x ∷ filter test xs) (filter test xs)) (each 0 (omega arith)) ∙ ap (λ ys. x ∷ ys) (all xs (λ i below. each (suc i) (omega (arith, below))))
filter_at test d (x ∷ xs) (suc k) y l each =
    ap (λ b. cond b (x ∷ filter test (slice_set xs k y)) (filter test (slice_set xs k y))) (each 0 (omega arith) (λ e. omega (arith, e)))
    ∙ ap (λ ys. x ∷ ys) (filter_at test d xs k y (omega (arith, l)) (λ i below apart. each (suc i) (omega (arith, below)) (λ e. apart (omega (arith, e)))))
    ∙ either (test y)
  where
    either : (b : Bool) → x ∷ cond b (slice_set xs k y) (remove xs k) ≡ cond b (x ∷ slice_set xs k y) (x ∷ remove xs k)
    either true = refl
    either false = refl

-- no other passes
others_fail : {X : Type 0} (test : X → Bool) (xs : List X) (k i : ℕ) (d : X) → count_by test xs ≤ 1 → k < length xs →
    test (slice_index_or xs k d) ≡ true → i < length xs → i ≢ k → test (slice_index_or xs i d) ≡ false
others_fail test xs k i d few l is li apart = by (test (slice_index_or xs i d)) refl
  where
    by : (b : Bool) → test (slice_index_or xs i d) ≡ b → test (slice_index_or xs i d) ≡ false
    by true e = absurd (apart (sym (alone_at test xs i d few li e) ∙ alone_at test xs k d few l is))
    by false e = e

-- ---- a map by its task and number

spot_passes : (m : Mount) (test : Map → Bool) (s : Spot) → spot m test ≡ Some s → test s.map ≡ true
spot_passes m test s e = by (found (λ (f : File). list_any test f.maps) m.files) e
  where
    of_map : (f : ℕ × File) (o : Option (ℕ × Map)) → found test f.1.maps ≡ o → option_map (spot_in f) o ≡ Some s → test s.map ≡ true
    of_map f None w e = cc
    of_map f (Some q) w e = (let is : spot_in f q ≡ s = cc in ap (λ (x : Spot). test x.map) (sym is) ∙ (found_place test f.1.maps q w).passes)

    by : (o : Option (ℕ × File)) → (elim o [ None ↦ None | Some f ↦ option_map (spot_in f) (found test f.1.maps) ]) ≡ Some s → test s.map ≡ true
    by None e = cc
    by (Some f) e = of_map f (found test f.1.maps) refl e

-- ---- a file that loses indices of one map

module _ (task number a b : ℕ) where
  abbrev test : Mapping ℕ → Bool
  test = is_map task number

  abbrev cut : Mapping ℕ → Mapping ℕ
  cut = cut_map task number a b

  abbrev rest_of : List (Mapping ℕ) → List (Mapping ℕ)
  rest_of ms = filter (stays task number) (map cut ms)

  cut_fewer : (n : ℕ) (m : Mapping ℕ) → in_map n (cut m) ≤ in_map n m
  cut_fewer n m = either (test m)
    where
      either : (t : Bool) → in_map n (cond t (without_range a b m) m) ≤ in_map n m
      either true = left_fewer n a b m
      either false = omega arith

  pub less : (n : ℕ) (f : NumberedFile) → sum_by (in_map n) (rest_of f.maps) ≤ sum_by (in_map n) f.maps
  less n f =
      let some = sum_by-filter_le (in_map n) (stays task number) (map cut f.maps) in
      let cut_down = sum_by-map_le (in_map n) cut (cut_fewer n) f.maps in
      omega (arith, some, cut_down)

  cut_key : (q m : ℕ) (x : Mapping ℕ) → is_map q m (cut x) ≡ is_map q m x
  cut_key q m x = either (test x)
    where
      either : (t : Bool) → is_map q m (cond t (without_range a b x) x) ≡ is_map q m x
      either true = refl
      either false = refl

  -- and no copy comes
  pub left_level : (f : NumberedFile) → AreLevel f.maps → AreLevel (left_from task number a b f).maps
  left_level f level = filtered_level (stays task number) (map (cut_map task number a b) f.maps) (mapped_level (cut_map task number a b) gone f.maps level)
    where
      gone : (x : Mapping ℕ) (i m : ℕ) → copy_of (place_at (cut_map task number a b x) i) ≡ Some m → copy_of (place_at x i) ≡ Some m
      gone x i m = either (is_map task number x)
        where
          either : (t : Bool) → copy_of (place_at (cond t (without_range a b x) x) i) ≡ Some m → copy_of (place_at x i) ≡ Some m
          either true e = cut_less a b x i m e
          either false e = e

  pub keys_fewer : (q m : ℕ) (f : NumberedFile) → keys_in q m (label_of (left_from task number a b f)) ≤ keys_in q m (label_of f)
  keys_fewer q m f =
      let left = keys_are task q m (left_from task number a b f) in
      let all = keys_are task q m f in
      let some = sum_by-filter_le (λ (x : Mapping ℕ). cond {A = ℕ} (is_map q m x) 1 0) (stays task number) (map cut f.maps) in
      let same = sum_by-map_le (λ (x : Mapping ℕ). cond {A = ℕ} (is_map q m x) 1 0) cut (λ x. (let k = ap (λ t. cond {A = ℕ} t 1 0 + 0) (cut_key q m x) in omega (arith, k))) f.maps in
      omega (arith, left, all, some, same)

  -- what is shown of it
  cut_shown : (s : Store) (m : Mapping ℕ) → map_shown s (cut m) ≡ map_unmapped (is_map task number) a b (map_shown s m)
  cut_shown s m = either (test m)
    where
      either : (t : Bool) → map_shown s (cond t (without_range a b m) m) ≡ cond t (without_range a b (map_shown s m)) (map_shown s m)
      either true = ap (λ ps. record (map_shown s m) { places = ps }) (map_edited (place_shown s) (λ p. Gone) (λ p. Gone) (λ p. refl) (a - m.start) (b - m.start) m.places)
      either false = refl

  stays_shown : (s : Store) (m : Mapping ℕ) → is_left (is_map task number) (map_shown s m) ≡ stays task number m
  stays_shown s m = ap (λ t. t || not (test m)) (any_shown (place_shown s) is_live is_live live m.places)
    where
      live : (p : Place ℕ) → is_live (place_shown s p) ≡ is_live p
      live Gone = refl
      live (Live c None) = refl
      live (Live c (Some n)) = refl

  rest_shown : (s : Store) (ms : List (Mapping ℕ)) → map (map_shown s) (rest_of ms) ≡ filter (is_left (is_map task number)) (map (map_unmapped (is_map task number) a b) (map (map_shown s) ms))
  rest_shown s [] = refl
  rest_shown s (m ∷ ms) = at (stays task number (cut m)) (ap (is_left (is_map task number)) (sym (cut_shown s m)) ∙ stays_shown s (cut m)) (rest_shown s ms)
    where
      at : (t : Bool) → is_left (is_map task number) (map_unmapped (is_map task number) a b (map_shown s m)) ≡ t →
          map (map_shown s) (rest_of ms) ≡ (filter (is_left (is_map task number))
          (map (map_unmapped (is_map task number) a b) (map (map_shown s) ms))) →
          map (map_shown s) (cond t (cut m ∷ rest_of ms) (rest_of ms)) ≡ cond (is_left (is_map task number)
          (map_unmapped (is_map task number) a b (map_shown s m))) ((map_unmapped (is_map task number) a b (map_shown s m))
          ∷ (filter (is_left (is_map task number)) (map (map_unmapped (is_map task number) a b) (map (map_shown s) ms))))
          (filter (is_left (is_map task number)) (map (map_unmapped (is_map task number) a b) (map (map_shown s) ms)))
      at true e rest = ap (λ x. x ∷ map (map_shown s) (rest_of ms)) (cut_shown s m)
          ∙ ap (λ xs. (map_unmapped (is_map task number) a b (map_shown s m)) ∷ xs) rest
          ∙ sym (ap (λ t. cond t ((map_unmapped (is_map task number) a b (map_shown s m))
          ∷ (filter (is_left (is_map task number)) (map (map_unmapped (is_map task number) a b) (map (map_shown s) ms))))
          (filter (is_left (is_map task number)) (map (map_unmapped (is_map task number) a b) (map (map_shown s) ms)))) e)
      at false e rest = rest ∙ sym (ap (λ t. cond t ((map_unmapped (is_map task number) a b (map_shown s m))
          ∷ (filter (is_left (is_map task number)) (map (map_unmapped (is_map task number) a b) (map (map_shown s) ms))))
          (filter (is_left (is_map task number)) (map (map_unmapped (is_map task number) a b) (map (map_shown s) ms)))) e)

  pub left_shown : (s : Store) (f : NumberedFile) → file_shown s (left_from task number a b f) ≡ file_unmapped (is_map task number) a b (file_shown s f)
  left_shown s f = ap (λ ms. record (file_shown s f) { maps = ms }) (rest_shown s f.maps)

  -- a file without the map is as it was
  none_left : (f : NumberedFile) → count_by test f.maps ≡ 0 → left_from task number a b f ≡ f
  none_left f e = ap (λ ms. record f { maps = ms }) (each f.maps e)
    where
      each : (ms : List (Mapping ℕ)) → count_by test ms ≡ 0 → rest_of ms ≡ ms
      each [] e = refl
      each (m ∷ ms) e = (let step = count_cons test m ms in at (test m) refl step (each ms (omega (arith, step, e))))
        where
          at : (t : Bool) → test m ≡ t → count_by test (m ∷ ms) ≡ cond t 1 0 + count_by test ms → rest_of ms ≡ ms
              → cond (is_mapped (cond t (without_range a b m) m) || not (test (cond t (without_range a b m) m))) (cond t (without_range a b m) m ∷ rest_of ms) (rest_of ms) ≡ m ∷ ms
          at true is step rest = absurd (omega (arith, step, e))
          at false is step rest = ap (λ t. cond (is_mapped m || not t) (m ∷ rest_of ms) (rest_of ms)) is ∙ either (is_mapped m) ∙ ap (λ xs. m ∷ xs) rest
            where
              either : (t : Bool) → cond (t || true) (m ∷ rest_of ms) (rest_of ms) ≡ m ∷ rest_of ms
              either true = refl
              either false = refl

-- ---- as code leaves the files: x is the file that it read, y what it left there once indices of the map went, and the map with its last one

module _ (n later : Noted) (s t : Store) (more now maps : ℕ) (tally : ℕ → ℕ) (fs : List NumberedFile) (is : IsFiles n s more maps tally fs)
    (task number a b : ℕ) (k j : ℕ) (there : IsFound (files_shown s fs) task number k j) (x y : NumberedFile) (read : x ≡ slice_index_or fs k x)
    (y_is : y ≡ left_at j a b x)
    (drops : IsDropping (λ m. in_file m x) (λ m. in_file m y) s t) (r : ℕ) (reserves : r + file_owed y ≡ file_owed x) where
  g : NumberedFile → NumberedFile
  g = left_from task number a b

  l : k < length fs
  l = (let same = files_len s fs in let below = there.file_within in omega (arith, same, below))

  x_is : x ≡ numbered_at fs k
  x_is = read_is fs k x l read

  x_shown : file_at (files_shown s fs) k ≡ file_shown s x
  x_shown = file_is s fs k l ∙ ap (file_shown s) (sym x_is)

  jl : j < length x.maps
  jl = (let long = length-map x.maps (map_shown s) in let same = ap (λ (f : File). length f.maps) x_shown in let below = there.map_within in omega (arith, long, same, below))

  abbrev m : Mapping ℕ
  m = mapping_at x j

  abbrev z : Mapping ℕ
  z = without_range a b m

  m_is : is_map task number m ≡ true
  m_is =
      let limits : Limits = record { max = None; min = 0; inodes = None } in
      let passes = spot_passes (mount_with limits (files_shown s fs)) (is_map task number) (spot_of (files_shown s fs) k j) (there.is limits) in
      ap (is_map task number) (sym (ap (λ (f : File). slice_index_or f.maps j no_map) x_shown ∙ get_or-map (map_shown s) x.maps j no_mapping no_map jl)) ∙ passes

  abbrev count : NumberedFile → ℕ
  count f = keys_in task number (label_of f)

  few : sum_by count fs ≤ 1
  few = (let most = is.keyed.keys task number in let same = sum_through (keys_in task number) label_of fs in omega (arith, most, same))

  count_here : count_by (is_map task number) x.maps ≡ count (numbered_at fs k)
  count_here = sym (keys_are task task number x) ∙ ap count x_is

  one_here : sum_by count fs ≡ count (numbered_at fs k)
  one_here = grind (arith, common_steps, some_pass, jl, m_is, count_here, at_most, no_file, l, few)

  one_map : count_by (is_map task number) x.maps ≡ 1
  one_map = grind (arith, common_steps, some_pass, jl, m_is, count_here, few, one_here)

  -- only the one file is another
  files_cut : map g fs ≡ slice_set fs k (g x)
  unfolding g
  files_cut =
      map_but (λ f. f) g count (λ f none. none_left task number a b f (sym (keys_are task task number f) ∙ none)) fs k no_file l one_here
      ∙ ap (λ xs. slice_set xs k (g (numbered_at fs k))) (map_id fs) ∙ ap (λ f. slice_set fs k (g f)) (sym x_is)

  -- and in it the one map
  maps_cut : map (cut_map task number a b) x.maps ≡ slice_set x.maps j z
  maps_cut =
      let one : sum_by (λ (q : Mapping ℕ). cond {A = ℕ} (is_map task number q) 1 0) x.maps ≡ cond (is_map task number m) 1 0 = one_map ∙ sym (ap (λ t. cond {A = ℕ} t 1 0) m_is) in
      map_but (λ q. q) (cut_map task number a b) (λ (q : Mapping ℕ). cond {A = ℕ} (is_map task number q) 1 0) (λ q none. same q (is_map task number q) none) x.maps j no_mapping jl one
      ∙ ap (λ xs. slice_set xs j (cut_map task number a b m)) (map_id x.maps) ∙ ap (λ t. slice_set x.maps j (cond t z m)) m_is
    where
      same : (q : Mapping ℕ) (t : Bool) → cond {A = ℕ} t 1 0 ≡ 0 → cond t (without_range a b q) q ≡ q
      same q true e = cc
      same q false e = refl

  g_is : g x ≡ record x { maps = cond (is_mapped z) (slice_set x.maps j z) (remove x.maps j) }
  unfolding g
  g_is =
      let own : stays task number z ≡ is_mapped z = ap (λ t. is_mapped z || not t) m_is ∙ either (is_mapped z) in
      ap (λ ms. record x { maps = ms }) (ap (filter (stays task number)) maps_cut
      ∙ filter_at (stays task number) no_mapping x.maps j z jl (λ i li apart. ap (λ t. is_mapped (mapping_at x i) || not t)
      (others_fail (is_map task number) x.maps j i no_mapping (let one = one_map in omega (arith, one)) jl m_is li apart)
      ∙ whole (is_mapped (mapping_at x i)))
      ∙ ap (λ t. cond t (slice_set x.maps j z) (remove x.maps j)) own)
    where
      either : (t : Bool) → (t || false) ≡ t
      either true = refl
      either false = refl

      whole : (t : Bool) → (t || true) ≡ true
      whole true = refl
      whole false = refl

  -- the files that are left, with this one
  left_files : filter is_used (map g fs) ≡ cond (is_used (g x)) (slice_set fs k (g x)) (remove fs k)
  left_files = ap (filter is_used) files_cut ∙ filter_at is_used no_file fs k (g x) l (λ i li apart. used i li)
    where
      used : (i : ℕ) → i < length fs → is_used (numbered_at fs i) ≡ true
      used i li =
          let long = length-map fs label_of in
          let inside : i < length (labels_of fs) = omega (arith, li, long) in
          sym (used_label (numbered_at fs i)) ∙ ap is_listed (sym (get_or-map label_of fs i no_file (label_of no_file) li)) ∙ is.keyed.kept i (label_of no_file) inside

  y_left : g x ≡ y
  y_left = g_is ∙ sym y_is

  x_used : is_used x ≡ true
  x_used = some (is_some x.name) (length x.maps) (omega (arith, jl))
    where
      some : (c : Bool) (i : ℕ) → 0 < i → (c || nat_lt 0 i) ≡ true
      some true i l = refl
      some false i l = grind (arith, nat_tests)

  -- ---- an index is left

  module _ (mapped : is_mapped z ≡ true) (counted : now ≡ more_in t.pages) where
    abbrev hs : List NumberedFile
    hs = slice_set fs k y

    y_set : y ≡ record x { maps = slice_set x.maps j z }
    y_set = y_is ∙ ap (λ c. record x { maps = cond c (slice_set x.maps j z) (remove x.maps j) }) mapped

    y_used : is_used y ≡ true
    y_used = ap is_used y_set ∙ ap (λ i. is_some x.name || nat_lt 0 i) (length-set x.maps j z) ∙ x_used

    hs_is : hs ≡ filter is_used (map g fs)
    hs_is = sym (left_files ∙ ap (λ f. cond (is_used f) (slice_set fs k f) (remove fs k)) y_left ∙ ap (λ c. cond c (slice_set fs k y) (remove fs k)) y_used)

    dropping : IsDropping (λ i. in_files i fs) (λ i. in_files i hs) s t
    dropping = drop_as (λ i. in_file i x) (λ i. in_file i y) (λ i. in_files i fs) (λ i. in_files i hs) s t drops
        (λ i. (let step = sum_by-set (in_file i) fs k y no_file l in let was = ap (in_file i) x_is in omega (arith, step, was)))

    pub stays_files : files_shown t hs ≡ filter is_kept (map (file_unmapped (is_map task number) a b) (files_shown s fs))
    unfolding g
    stays_files = left_shows n s t more now maps tally fs hs is g hs_is dropping counted (λ f. refl) (less task number a b) (file_unmapped (is_map task number) a b) (left_shown task number a b s)

    pub stays_left : IsLeft r (view s more fs) (view t now hs)
    unfolding g
    stays_left = left_gives n s t more now maps tally fs hs is g hs_is dropping counted (λ f. refl) (less task number a b) r
        (let step = sum_by-set file_owed fs k y no_file l in let was = ap file_owed x_is in omega (arith, step, was, reserves))

    same_keys : label_of y ≡ label_of x
    same_keys = ap label_of y_set ∙ same_label x j z refl

    pub stays_keeps : IsFiles n t now maps tally hs
    unfolding g
    stays_keeps =
        let same = sym (labels_stay fs k x y read same_keys) in
        left_keeps n s t more now maps tally fs hs is g hs_is dropping counted (λ f. refl) (less task number a b) (λ f. refl) (keys_fewer task number a b) (left_level task number a b) n maps tally
        (subst (AreNoted n) same is.noted) (subst (λ ls. maps ≡ sum_by (λ (q : Label). length q.keys) ls) same is.keyed.map_count)
        (λ q. subst (λ ls. tally q ≡ sum_by (maps_for q) ls) same (is.keyed.tallied q))

  -- ---- no index is left: u is the store, and hs are the files, once the file went if nothing is left of it

  module _ (mapped : is_mapped z ≡ false) where
    abbrev gs : List NumberedFile
    gs = slice_set fs k y

    y_removed : y ≡ record x { maps = remove x.maps j }
    y_removed = y_is ∙ ap (λ c. record x { maps = cond c (slice_set x.maps j z) (remove x.maps j) }) mapped

    pub enough_held : (i : ℕ) → in_files i gs ≤ holders_of (page_at t i)
    enough_held i = grind (arith, common_steps, sum_by-set, no_file, l, x_is)

    fewer_maps : map_sum gs + 1 ≡ map_sum fs
    fewer_maps = grind (arith, common_steps, sum_by-set, no_file, l, x_is, y_removed, length-remove, jl)

    pub some_maps : 1 ≤ maps
    some_maps = (let left = fewer_maps in let all = is.keyed.map_count in let same = maps_in fs in omega (arith, left, all, same))

    module _ (u : Store) (last : ℕ) (hs : List NumberedFile) (hs_from : hs ≡ swept_at k gs)
        (after : IsDropping (λ i. in_files i gs) (λ i. in_files i hs) t u) (counted : last ≡ more_in u.pages) (e : ℕ)
        (entries : e + sum_by file_owed hs ≡ sum_by file_owed gs)
        (small : sum_by file_owed fs < 2 ^ 64) where
      went_is : hs ≡ filter is_used (map g fs)
      went_is = grind (arith, common_steps, get_or-set_same, no_file, l, removed_set, left_files, y_left)

      went_dropping : IsDropping (λ i. in_files i fs) (λ i. in_files i hs) s u
      went_dropping = drop_then (λ i. in_file i x) (λ i. in_file i y) (λ i. in_files i gs) (λ i. in_files i hs) (λ i. in_files i fs) (λ i. in_files i hs) s t u drops after
          (λ i. (let step = sum_by-set (in_file i) fs k y no_file l in let was = ap (in_file i) x_is in omega (arith, step, was)))

      owed_all : r + e + sum_by file_owed hs ≡ sum_by file_owed fs
      owed_all = (let step = sum_by-set file_owed fs k y no_file l in let was = ap file_owed x_is in omega (arith, step, was, entries, reserves))

      pub few_reserves : r + e < 2 ^ 64
      few_reserves = (let all = owed_all in omega (arith, all, small))

      pub went_files : files_shown u hs ≡ filter is_kept (map (file_unmapped (is_map task number) a b) (files_shown s fs))
      unfolding g
      went_files = left_shows n s u more last maps tally fs hs is g went_is went_dropping counted (λ f. refl) (less task number a b)
          (file_unmapped (is_map task number) a b) (left_shown task number a b s)

      pub went_left : IsLeft (r + e) (view s more fs) (view u last hs)
      unfolding g
      went_left = left_gives n s u more last maps tally fs hs is g went_is went_dropping counted (λ f. refl) (less task number a b) (r + e) owed_all

      -- a file that goes has no map
      hs_sum : (c : NumberedFile → ℕ) → ((f : NumberedFile) → is_used f ≡ false → c f ≡ 0) → sum_by c hs ≡ sum_by c gs
      hs_sum c none =
          let same = ap (sum_by c) (hs_from ∙ ap (λ f. cond (is_used f) gs (remove gs k)) (get_or-set_same fs k y no_file l)) in
          same ∙ by (is_used y) refl
        where
          by : (t : Bool) → is_used y ≡ t → sum_by c (cond t gs (remove gs k)) ≡ sum_by c gs
          by true is = refl
          by false is =
              let long = length-set fs k y in
              let step = sum_by-remove c gs k no_file (omega (arith, l, long)) in
              let here = ap c (get_or-set_same fs k y no_file l) in
              let zero_here = none y is in
              omega (arith, step, here, zero_here)

      maps_left : maps - 1 ≡ sum_by (λ (q : Label). length q.keys) (labels_of hs)
      maps_left =
          let left = maps_in hs in
          let same = hs_sum (λ (f : NumberedFile). length f.maps) (λ f out. ap length (empty_file f out).0) in
          let one = fewer_maps in
          let all = is.keyed.map_count in
          let was = maps_in fs in
          omega (arith, left, same, one, all, was)

      -- one map less of the task
      tally_left : (q : ℕ) → sum_by (maps_for q) (labels_of hs) + cond (task == q) 1 0 ≡ tally q
      tally_left q =
          let through = sum_through (maps_for q) label_of hs in
          let same = hs_sum (λ (f : NumberedFile). maps_for q (label_of f)) (λ f out. ap (λ ms. maps_for q (record { name = None; keys = map key_of ms })) (empty_file f out).0) in
          let step = sum_by-set (λ (f : NumberedFile). maps_for q (label_of f)) fs k y no_file l in
          let was = is.keyed.tallied q in
          let before = sum_through (maps_for q) label_of fs in
          let here = ap (λ (f : NumberedFile). maps_for q (label_of f)) x_is in
          let all = own_maps q x in
          let left = own_maps q y in
          let bare = ap (λ (f : NumberedFile). count_by (is_of q) f.maps) y_removed in
          let fewer = sum_by-remove (λ (m : Mapping ℕ). cond {A = ℕ} (is_of q m) 1 0) x.maps j no_mapping jl in
          let its = ap (λ i. cond {A = ℕ} (i == q) 1 0 + 0) (eqb-true m.task task (and_parts (m.task == task) (m.number == number) m_is).0) in
          omega (arith, through, same, step, was, before, here, all, left, bare, fewer, its)

      keys_gone : sum_by (keys_in task number) (labels_of hs) ≡ 0
      keys_gone =
          let through = sum_through (keys_in task number) label_of hs in
          let same = hs_sum count (λ f out. keys_are task task number f ∙ ap (count_by (is_map task number)) (empty_file f out).0) in
          let step = sum_by-set count fs k y no_file l in
          let all = few in
          let here = one_here in
          let was = count_here in
          let one = one_map in
          let left = keys_are task task number y in
          let bare = ap (λ (f : NumberedFile). count_by (is_map task number) f.maps) y_removed in
          let fewer = sum_by-remove (λ (q : Mapping ℕ). cond {A = ℕ} (is_map task number q) 1 0) x.maps j no_mapping jl in
          let own = ap (λ c. cond {A = ℕ} c 1 0 + 0) m_is in
          omega (arith, through, same, step, all, here, was, one, left, bare, fewer, own)

      -- the other maps keep theirs
      keys_kept : (q i : ℕ) → is_pair q i (task, number) ≡ false → sum_by (keys_in q i) (labels_of hs) ≡ sum_by (keys_in q i) (labels_of fs)
      keys_kept q i other =
          let through = sum_through (keys_in q i) label_of hs in
          let before = sum_through (keys_in q i) label_of fs in
          let same = hs_sum (λ (f : NumberedFile). keys_in q i (label_of f)) (λ f out. keys_are task q i f ∙ ap (count_by (is_map q i)) (empty_file f out).0) in
          let step = sum_by-set (λ (f : NumberedFile). keys_in q i (label_of f)) fs k y no_file l in
          let here = ap (λ (f : NumberedFile). keys_in q i (label_of f)) x_is in
          let all = keys_are task q i x in
          let left = keys_are task q i y in
          let bare = ap (λ (f : NumberedFile). count_by (is_map q i) f.maps) y_removed in
          let fewer = sum_by-remove (λ (m : Mapping ℕ). cond {A = ℕ} (is_map q i m) 1 0) x.maps j no_mapping jl in
          let its = ap (λ c. cond {A = ℕ} c 1 0 + 0) (unlike q i other) in
          omega (arith, through, before, same, step, here, all, left, bare, fewer, its)
        where
          unlike : (q i : ℕ) → is_pair q i (task, number) ≡ false → is_map q i m ≡ false
          unlike q i other = grind (arith, common_steps, and_parts, m_is, eqb-true, nat_tests)

      pub went_keeps : IsMoreButMap task number n later → (next : ℕ → ℕ) → ((q : ℕ) → next q ≡ tally q - cond (task == q) 1 0) → IsFiles later u last (maps - 1) next hs
      unfolding g
      went_keeps grown next next_is =
          left_keeps n s u more last maps tally fs hs is g went_is went_dropping counted (λ f. refl) (less task number a b) (λ f. refl)
          (keys_fewer task number a b) (left_level task number a b) later (maps - 1) next
          (left_noted n s u more last maps tally fs hs is g went_is went_dropping counted (λ f. refl) (less task number a b) (λ f. refl)
          (keys_fewer task number a b) later grown.names (λ q i e. at q i e (is_pair q i (task, number)) refl) grown.less (λ q i e. only q i e (is_pair q i (task, number)) refl))
          maps_left (λ q. (let left = tally_left q in let is = next_is q in omega (arith, left, is)))
        where
          only : (q i : ℕ) → sum_by (keys_in q i) (labels_of hs) ≡ 0 → (c : Bool) → is_pair q i (task, number) ≡ c → has_key q i later ≡ false
          only q i e true same =
              let parts = and_parts (q == task) (i == number) same in
              ap (λ w. has_key w i later) (eqb-true q task parts.0) ∙ ap (λ w. has_key task w later) (eqb-true i number parts.1) ∙ grown.gone
          only q i e false apart = grown.less.keys q i (is.noted.no_key q i (sym (keys_kept q i apart) ∙ e))

          at : (q i : ℕ) → has_key q i later ≡ false → (c : Bool) → is_pair q i (task, number) ≡ c → sum_by (keys_in q i) (labels_of hs) ≡ 0
          at q i e true same =
              let parts = and_parts (q == task) (i == number) same in
              ap (λ w. sum_by (keys_in w i) (labels_of hs)) (eqb-true q task parts.0) ∙ ap (λ w. sum_by (keys_in task w) (labels_of hs)) (eqb-true i number parts.1) ∙ keys_gone
          at q i e false apart =
              let fewer = keys_less n s u more last maps tally fs hs is g went_is went_dropping counted (λ f. refl) (less task number a b) (λ f. refl) (keys_fewer task number a b) q i in
              let none = is.noted.keys q i (grown.keys q i apart e) in
              omega (arith, fewer, none)
