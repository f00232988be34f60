use Rattle.std.proofs.lemmas.Grind.{common_steps}
-- Files whose maps of a parent are followed by a child's.
use Rattle.std.proofs.Common.{◌≡◌, ℕ, zero, suc, ◌+◌, ◌-◌, ◌<◌, ◌≤◌, ◌==◌, ◌||◌, ◌&&◌, ⊎_elim, ◌⊎◌, inl, inr, nat_lt, Bool, true, false, cond, Some, None, List, [], ◌∷◌, ◌++◌, length, map, refl, sym}
use Rattle.std.proofs.Common.{ap, ◌∙◌, arith, is_some, slice_index_or, All, count_by, filter, sum_by}
use Rattle.std.proofs.lemmas.Bool.{eqb-true, eq-eqb}
use Rattle.std.proofs.lemmas.Bool.Decides.{nat_tests}
use Rattle.std.proofs.lemmas.List.{get_or-map, length-append, length-map, map-append}
use Rattle.std.proofs.lemmas.List.Elements.{All-cons}
use Rattle.std.proofs.lemmas.List.Sums.{length-filter, sum_by-append, sum_by-cons}
use Rattle.hp_laws.proofs.lists.Places.{sum_by-filter_le}
use Rattle.hp_laws.proofs.Variants.{Gone, Live, Place}
use Rattle.hp_model.proofs.Words.{File, Mapping, copy_of, is_map, is_of, map_for, place_at, unconsumed}
use Rattle.hp_model.proofs.Counting.{count_cons, count_map}
use Rattle.hp_store.specs.Store.{Store}
use Rattle.hp_lookup.proofs.Words.{AreLevel, IsFiles, IsHeld, IsKeyed, IsSharing, Label, Noted, NumberedFile, children_of, copy_in, file_owed, file_shown, files_shown, has_key, has_label, in_cell}
use Rattle.hp_lookup.proofs.Words.{in_cells, in_file, in_files, in_map, in_place, is_listed, is_noted_as as has_noted, key_of, keys_in, label_of, labels_of, map_shown, map_sum, maps_for, more_in}
use Rattle.hp_lookup.proofs.Words.{numbered_at, owed, place_shown, with_children}
use Rattle.hp_lookup.proofs.Cells.{no_file}
use Rattle.hp_file.proofs.Cutting.{none_mapped}
use Rattle.hp_mount_files.proofs.Exiting.{keys_are, maps_in}
use Rattle.hp_lookup.proofs.Level.{fewer_level, kept_copy, mapped_copy}
use Rattle.hp_lookup.proofs.Mapped.{sum_mapped, sum_through}
use Rattle.hp_lookup.proofs.Staying.{files_stay}
use Rattle.hp_lookup.proofs.Tallies.{own_maps}

-- ---- one map of a child

un_in : (n : ℕ) (p : Place ℕ) → in_place n (unconsumed p) ≡ in_place n p
un_in n Gone = refl
un_in n (Live c None) = refl
un_in n (Live c (Some k)) = refl

un_copy : (ps : List (Place ℕ)) (k : ℕ) → copy_of (slice_index_or (map unconsumed ps) k Gone) ≡ copy_of (slice_index_or ps k Gone)
un_copy [] k = refl
un_copy (Gone ∷ ps) zero = refl
un_copy (Live c o ∷ ps) zero = refl
un_copy (p ∷ ps) (suc k) = un_copy ps k

un_shown : (s : Store) (ps : List (Place ℕ)) → map (place_shown s) (map unconsumed ps) ≡ map unconsumed (map (place_shown s) ps)
un_shown s [] = refl
un_shown s (Gone ∷ ps) = ap (λ qs. Gone ∷ qs) (un_shown s ps)
un_shown s (Live c None ∷ ps) = ap (λ qs. Live false None ∷ qs) (un_shown s ps)
un_shown s (Live c (Some k) ∷ ps) = ap (λ qs. place_shown s (Live false (Some k)) ∷ qs) (un_shown s ps)

module _ (parent child : ℕ) (apart : (parent == child) ≡ false) where
  abbrev kids : List (Mapping ℕ) → List (Mapping ℕ)
  kids ms = children_of parent child ms

  in_for : (n : ℕ) (m : Mapping ℕ) → in_map n (map_for child m) ≡ in_map n m
  in_for n m = sum_mapped (in_place n) unconsumed (un_in n) m.places

  copy_for : (m : Mapping ℕ) (i number : ℕ) → copy_of (place_at (map_for child m) i) ≡ Some number → copy_of (place_at m i) ≡ Some number
  copy_for m i number = either (nat_lt i m.start)
    where
      either : (c : Bool) → copy_of (cond c Gone (slice_index_or (map unconsumed m.places) (i - m.start) Gone)) ≡ Some number →
          copy_of (cond c Gone (slice_index_or m.places (i - m.start) Gone)) ≡ Some number
      either true e = e
      either false e = sym (un_copy m.places (i - m.start)) ∙ e

  -- ---- those of a list of maps

  kids_less : (n : ℕ) (ms : List (Mapping ℕ)) → sum_by (in_map n) (kids ms) ≤ sum_by (in_map n) ms
  kids_less n ms = (let same = sum_mapped (in_map n) (map_for child) (in_for n) (filter (is_of parent) ms) in let few = sum_by-filter_le (in_map n) (is_of parent) ms in omega (arith, same, few))

  kids_owed : (ms : List (Mapping ℕ)) → sum_by owed (kids ms) ≡ 0
  kids_owed ms = none_mapped owed (map_for child) (λ m. refl) (filter (is_of parent) ms)

  own : (child == child) ≡ true
  own = eq-eqb child child refl

  kids_of_child : (q : ℕ) (ms : List (Mapping ℕ)) → count_by (is_map child q) (kids ms) ≡ count_by (is_map parent q) ms
  kids_of_child q [] = refl
  kids_of_child q (m ∷ ms) = at (is_of parent m) refl (kids_of_child q ms)
    where
      at : (b : Bool) → is_of parent m ≡ b → count_by (is_map child q) (kids ms) ≡ count_by (is_map parent q) ms →
          count_by (is_map child q) (map (map_for child) (cond b (m ∷ filter (is_of parent) ms) (filter (is_of parent) ms)))
          ≡ count_by (is_map parent q) (m ∷ ms)
      at true e rest =
          let left = count_cons (is_map child q) (map_for child m) (kids ms) in
          let right = count_cons (is_map parent q) m ms in
          let mine = ap (λ b. cond {A = ℕ} (b && (m.number == q)) 1 0 + 0) own in
          let its = ap (λ b. cond {A = ℕ} (b && (m.number == q)) 1 0 + 0) e in
          omega (arith, left, right, mine, its, rest)
      at false e rest = (let right = count_cons (is_map parent q) m ms in let its = ap (λ b. cond {A = ℕ} (b && (m.number == q)) 1 0 + 0) e in omega (arith, right, its, rest))

  kids_of_other : (t q : ℕ) → (child == t) ≡ false → (ms : List (Mapping ℕ)) → count_by (is_map t q) (kids ms) ≡ 0
  kids_of_other t q other ms = none_mapped (λ m. cond {A = ℕ} (is_map t q m) 1 0) (map_for child) (λ m. ap (λ b. cond {A = ℕ} (b && (m.number == q)) 1 0) other) (filter (is_of parent) ms)

  -- the child has as many as the parent
  kids_count : (q : ℕ) (ms : List (Mapping ℕ)) → count_by (is_of q) (kids ms) ≡ cond (child == q) (count_by (is_of parent) ms) 0
  kids_count q ms = count_map (is_of q) (map_for child) (filter (is_of parent) ms) ∙ by (child == q)
    where
      by : (b : Bool) → count_by (λ (m : Mapping ℕ). b) (filter (is_of parent) ms) ≡ cond b (count_by (is_of parent) ms) 0
      by true = all ms
        where
          all : (ms : List (Mapping ℕ)) → count_by (λ (m : Mapping ℕ). true) (filter (is_of parent) ms) ≡ count_by (is_of parent) ms
          all [] = refl
          all (m ∷ ms) = at (is_of parent m) refl (all ms) (count_cons (is_of parent) m ms)
            where
              at : (b : Bool) → is_of parent m ≡ b → count_by (λ (m : Mapping ℕ). true) (filter (is_of parent) ms) ≡ count_by (is_of parent) ms →
                  count_by (is_of parent) (m ∷ ms) ≡ cond (is_of parent m) 1 0 + count_by (is_of parent) ms
                  → count_by (λ (m : Mapping ℕ). true) (cond b (m ∷ filter (is_of parent) ms) (filter (is_of parent) ms)) ≡ count_by (is_of parent) (m ∷ ms)
              at true e rest step = (let here = ap (λ b. cond {A = ℕ} b 1 0 + 0) e in
                  let one = count_cons (λ (m : Mapping ℕ). true) m (filter (is_of parent) ms) in omega (arith, rest, step, here, one))
              at false e rest step = (let here = ap (λ b. cond {A = ℕ} b 1 0 + 0) e in omega (arith, rest, step, here))
      by false = none (filter (is_of parent) ms)
        where
          none : (ms : List (Mapping ℕ)) → count_by (λ (m : Mapping ℕ). false) ms ≡ 0
          none [] = refl
          none (m ∷ ms) = (let rest = none ms in let step = count_cons (λ (m : Mapping ℕ). false) m ms in omega (arith, rest, step))

  kids_shown : (s : Store) (ms : List (Mapping ℕ)) → map (map_shown s) (kids ms) ≡ map (map_for child) (filter (is_of parent) (map (map_shown s) ms))
  kids_shown s [] = refl
  kids_shown s (m ∷ ms) = at (is_of parent m) (kids_shown s ms)
    where
      at : (b : Bool) → map (map_shown s) (kids ms) ≡ map (map_for child) (filter (is_of parent) (map (map_shown s) ms))
          → map (map_shown s) (map (map_for child) (cond b (m ∷ filter (is_of parent) ms) (filter (is_of parent) ms)))
          ≡ map (map_for child) (cond b (map_shown s m ∷ filter (is_of parent) (map (map_shown s) ms)) (filter (is_of parent) (map (map_shown s) ms)))
      at true rest = ap (λ x. x ∷ map (map_shown s) (kids ms)) (ap (λ ps. record (map_for child (map_shown s m)) { places = ps })
          (un_shown s m.places)) ∙ ap (λ xs. map_for child (map_shown s m) ∷ xs) rest
      at false rest = rest

  pub kids_level : (ms : List (Mapping ℕ)) → AreLevel ms → AreLevel (ms ++ kids ms)
  kids_level ms = fewer_level ms (ms ++ kids ms) (λ a i number e. ⊎_elim (λ (q : (b : ℕ) × (copy_in ms b i ≡ Some number)). q)
      (λ (q : (b : ℕ) × (copy_in (kids ms) b i ≡ Some number)). kept_copy (is_of parent) i number ms q.0 (mapped_copy (map_for child) copy_for (filter (is_of parent) ms) q.0 i number q.1))
      (in_append ms (kids ms) a i number e))
    where
      in_append : (xs ys : List (Mapping ℕ)) (a i number : ℕ) → copy_in (xs ++ ys) a i ≡ Some number → ((b : ℕ) × (copy_in xs b i ≡ Some number)) ⊎ ((b : ℕ) × (copy_in ys b i ≡ Some number))
      in_append [] ys a i number e = inr (a, e)
      in_append (x ∷ xs) ys zero i number e = inl (0, e)
      in_append (x ∷ xs) ys (suc a) i number e = ⊎_elim (λ (q : (b : ℕ) × (copy_in xs b i ≡ Some number)). inl (suc q.0, q.1))
          (λ (q : (b : ℕ) × (copy_in ys b i ≡ Some number)). inr q) (in_append xs ys a i number e)

  -- ---- files

  abbrev more_of : NumberedFile → NumberedFile
  more_of f = with_children parent child f

  abbrev all_of : List NumberedFile → List NumberedFile
  all_of fs = map (λ f. more_of f) fs

  -- at how many places of the child's maps a number stands
  abbrev pub in_kids : ℕ → List NumberedFile → ℕ
  in_kids n fs = sum_by (λ (f : NumberedFile). sum_by (in_map n) (kids f.maps)) fs

  file_more : (n : ℕ) (f : NumberedFile) → in_file n (more_of f) ≡ in_file n f + sum_by (in_map n) (kids f.maps)
  file_more n f = (let both = sum_by-append (in_map n) f.maps (kids f.maps) in omega (arith, both))

  files_more : (n : ℕ) (fs : List NumberedFile) → in_files n (all_of fs) ≡ in_files n fs + in_kids n fs
  files_more n [] = refl
  files_more n (f ∷ fs) =
      let rest = files_more n fs in
      let here = file_more n f in
      omega (arith, rest, here, sum_by-cons (in_file n) (more_of f) (all_of fs), sum_by-cons (in_file n) f fs, sum_by-cons (λ (f : NumberedFile). sum_by (in_map n) (kids f.maps)) f fs)

  cells_same : (n : ℕ) (fs : List NumberedFile) → in_cells n (all_of fs) ≡ in_cells n fs
  cells_same n fs = sum_mapped (λ (f : NumberedFile). sum_by (in_cell n) f.cells) (λ f. more_of f) (λ f. refl) fs

  pub few_kids : (n : ℕ) (fs : List NumberedFile) → in_kids n fs + in_cells n fs ≤ in_files n fs
  few_kids n [] = omega arith
  few_kids n (f ∷ fs) =
      let rest = few_kids n fs in
      let here = kids_less n f.maps in
      omega (
        arith,
        rest,
        here,
        sum_by-cons (λ (f : NumberedFile). sum_by (in_map n) (kids f.maps)) f fs,
        sum_by-cons
            (λ (f : NumberedFile). sum_by (in_cell n) f.cells) f fs,
        sum_by-cons (in_file n) f fs,
      )

  none_sum : {X : Type 0} (a b : X → ℕ) → ((x : X) → a x ≡ 0 → b x ≡ 0) → (xs : List X) → sum_by a xs ≡ 0 → sum_by b xs ≡ 0
  none_sum a b zero' [] e = refl
  none_sum a b zero' (x ∷ xs) e = (let left = sum_by-cons a x xs in let right = sum_by-cons b x xs in let here = zero' x (omega (arith, left, e)) in
      let rest = none_sum a b zero' xs (omega (arith, left, e)) in omega (arith, right, here, rest))

  most_at : {X : Type 0} (a : X → ℕ) (xs : List X) (k : ℕ) (d : X) → k < length xs → a (slice_index_or xs k d) ≤ sum_by a xs
  most_at a [] k d l = absurd (omega (arith, l))
  most_at a (x ∷ xs) zero d l = (let step = sum_by-cons a x xs in omega (arith, step))
  most_at a (x ∷ xs) (suc k) d l = (let step = sum_by-cons a x xs in let rest = most_at a xs k d (omega (arith, l)) in omega (arith, step, rest))

  only_sum : {X : Type 0} (a b : X → ℕ) → ((x : X) → a x ≡ 0 → b x ≡ 0) → (xs : List X) (k : ℕ) (d : X) → k < length xs →
      sum_by a xs ≡ a (slice_index_or xs k d) → sum_by b xs ≡ b (slice_index_or xs k d)
  only_sum a b zero' [] k d l e = absurd (omega (arith, l))
  only_sum a b zero' (x ∷ xs) zero d l e = (let left = sum_by-cons a x xs in let right = sum_by-cons b x xs in let rest = none_sum a b zero' xs (omega (arith, left, e)) in omega (arith, right, rest))
  only_sum a b zero' (x ∷ xs) (suc k) d l e =
      let left = sum_by-cons a x xs in
      let right = sum_by-cons b x xs in
      let most = most_at a xs k d (omega (arith, l)) in
      let here = zero' x (omega (arith, left, e, most)) in
      let rest = only_sum a b zero' xs k d (omega (arith, l)) (omega (arith, left, e, most)) in
      omega (arith, right, here, rest)

  pub owed_same : (fs : List NumberedFile) → sum_by file_owed (all_of fs) ≡ sum_by file_owed fs
  owed_same fs = sum_mapped file_owed (λ f. more_of f) (λ f. (let both = sum_by-append owed f.maps (kids f.maps) in let none = kids_owed f.maps in omega (arith, both, none))) fs

  -- how many maps each task has
  pub tally_more : (q : ℕ) (fs : List NumberedFile) → sum_by (maps_for q) (labels_of (all_of fs)) ≡ sum_by (maps_for q) (labels_of fs) + cond (child == q) (sum_by (maps_for parent) (labels_of fs)) 0
  tally_more q [] = none (child == q)
    where
      none : (b : Bool) → sum_by (maps_for q) [] ≡ sum_by (maps_for q) [] + cond {A = ℕ} b 0 0
      none true = refl
      none false = refl
  tally_more q (f ∷ fs) =
      let here = own_maps q (more_of f) in
      let both = sum_by-append (λ (m : Mapping ℕ). cond {A = ℕ} (is_of q m) 1 0) f.maps (kids f.maps) in
      let its = kids_count q f.maps in
      let old = own_maps q f in
      let from = own_maps parent f in
      let rest = tally_more q fs in
      let sum = split (child == q) (maps_for parent (label_of f)) (sum_by (maps_for parent) (labels_of fs)) in
      let own = ap (λ n. cond (child == q) n 0) from in
      let all = ap (λ n. cond (child == q) n 0) (sum_by-cons (maps_for parent) (label_of f) (labels_of fs)) in
      omega (arith, here, both, its, old, rest, sum, own, all, sum_by-cons (maps_for q) (label_of (more_of f)) (labels_of (all_of fs)), sum_by-cons (maps_for q) (label_of f) (labels_of fs))
    where
      split : (b : Bool) (x y : ℕ) → cond b (x + y) 0 ≡ cond b x 0 + cond b y 0
      split true x y = refl
      split false x y = refl

  module _ (n : Noted) (t u : Store) (now more maps : ℕ) (tally : ℕ → ℕ) (fs : List NumberedFile) (is : IsFiles n t now maps tally fs)
      (sharing : IsSharing (λ m. in_kids m fs) t u) (counted : more ≡ more_in u.pages) (parts : more ≤ u.room) where
    pub fork_held : IsHeld u more (all_of fs)
    fork_held = record {
      held = λ m. (let had = is.held.held m in let came = sharing.held m in let all = files_more m fs in omega (arith, had, came, all));
      some = sharing.some;
      alone = λ m some.
          let cells = cells_same m fs in
          let had = is.held.alone m (omega (arith, cells, some)) in
          let few = few_kids m fs in
          let all = files_more m fs in
          omega (arith, cells, had, few, all, some);
      apart = λ m k below some.
          let long = length-map fs (λ f. more_of f) in
          let inside : k < length fs = omega (arith, below, long) in
          let read : numbered_at (all_of fs) k ≡ more_of (numbered_at fs k) = get_or-map (λ f. more_of f) fs k no_file no_file inside in
          let same = ap (in_file m) read in
          let here = file_more m (numbered_at fs k) in
          let few = kids_less m (numbered_at fs k).maps in
          let had = is.held.apart m k inside (omega (arith, some, same, here, few)) in
          let all = only_sum (in_file m) (λ f. in_file m (more_of f)) (λ f none.
          (let here = file_more m f in let few = kids_less m f.maps in omega (arith, here, few, none))) fs k no_file inside had in
          sum_through (in_file m) (λ f. more_of f) fs ∙ all ∙ sym same;
      counted = counted;
      parts = parts;
    }

    fork_stays : files_shown u (all_of fs) ≡ files_shown t (all_of fs)
    fork_stays = files_stay t u (all_of fs) (λ m some. sharing.same m)

    -- what the files show
    pub fork_shows : files_shown u (all_of fs) ≡ map (λ (f : File). record f { maps = f.maps ++ map (map_for child) (filter (is_of parent) f.maps) }) (files_shown t fs)
    fork_shows = fork_stays ∙ each fs
      where
        each : (fs : List NumberedFile) → files_shown t (all_of fs) ≡ map (λ (f : File). record f { maps = f.maps ++ map (map_for child) (filter (is_of parent) f.maps) }) (files_shown t fs)
        each [] = refl
        each (f ∷ fs) =
            ap (λ ms. record (file_shown t f) { maps = ms } ∷ files_shown t (all_of fs))
            (map-append (map_shown t) f.maps (kids f.maps) ∙ ap (λ ms. map (map_shown t) f.maps ++ ms) (kids_shown t f.maps))
            ∙ ap (λ gs. record (file_shown t f) { maps = map (map_shown t) f.maps ++ map (map_for child) (filter (is_of parent) (map (map_shown t) f.maps)) } ∷ gs) (each fs)

    -- ---- what they are called

    module _ (gone : (q : ℕ) → sum_by (keys_in child q) (labels_of fs) ≡ 0) where
      keys_more : (t q : ℕ) (f : NumberedFile) → keys_in t q (label_of (more_of f)) ≡ keys_in t q (label_of f) + count_by (is_map t q) (kids f.maps)
      keys_more t q f = grind (arith, common_steps, keys_are, sum_by-append)

      pub keys_child : (q : ℕ) → sum_by (keys_in child q) (labels_of (all_of fs)) ≡ sum_by (keys_in parent q) (labels_of fs)
      keys_child q = (let all = each fs in let none = gone q in omega (arith, all, none))
        where
          each : (fs : List NumberedFile) → sum_by (keys_in child q) (labels_of (all_of fs)) ≡ sum_by (keys_in child q) (labels_of fs) + sum_by (keys_in parent q) (labels_of fs)
          each [] = refl
          each (f ∷ fs) =
              let here = keys_more child q f in
              let its = kids_of_child q f.maps in
              let old = keys_are child parent q f in
              let rest = each fs in
              omega (
                arith,
                here,
                its,
                old,
                rest,
                sum_by-cons (keys_in child q) (label_of (more_of f)) (labels_of (all_of fs)),
                sum_by-cons
                    (keys_in child q) (label_of f) (labels_of fs),
                sum_by-cons (keys_in parent q) (label_of f) (labels_of fs),
              )

      keys_other : (t q : ℕ) → (child == t) ≡ false → (fs : List NumberedFile) → sum_by (keys_in t q) (labels_of (all_of fs)) ≡ sum_by (keys_in t q) (labels_of fs)
      keys_other t q other [] = refl
      keys_other t q other (f ∷ fs) =
          let here = keys_more t q f in
          let its = kids_of_other t q other f.maps in
          let rest = keys_other t q other fs in
          omega (arith, here, its, rest, sum_by-cons (keys_in t q) (label_of (more_of f)) (labels_of (all_of fs)), sum_by-cons (keys_in t q) (label_of f) (labels_of fs))

      names_same : (name : List ℕ) (fs : List NumberedFile) → count_by (has_label name) (labels_of (all_of fs)) ≡ count_by (has_label name) (labels_of fs)
      names_same name [] = refl
      names_same name (f ∷ fs) = (let rest = names_same name fs in let left = count_cons (has_label name) (label_of (more_of f))
          (labels_of (all_of fs)) in let right = count_cons (has_label name) (label_of f) (labels_of fs) in omega (arith, rest, left, right))

      listed : (fs : List NumberedFile) → All (λ (q : Label). is_listed q ≡ true) (labels_of fs) → All (λ (q : Label). is_listed q ≡ true) (labels_of (all_of fs))
      listed [] all = λ i e l. absurd (omega (arith, l))
      listed (f ∷ fs) all = All-cons (λ (q : Label). is_listed q ≡ true) (label_of (more_of f)) (labels_of (all_of fs))
          (ap (λ k. is_some f.name || nat_lt 0 k) long ∙ listed_more (is_some f.name) (length (map key_of f.maps)) (length (kids f.maps))
          (all 0 (label_of f) (omega arith))) (listed fs (λ i e l. all (suc i) e (omega (arith, l))))
        where
          long : length (map key_of (f.maps ++ kids f.maps)) ≡ length (map key_of f.maps) + length (kids f.maps)
          long = (let one = length-map (f.maps ++ kids f.maps) key_of in let both = length-append f.maps (kids f.maps) in let two = length-map f.maps key_of in omega (arith, one, both, two))

          listed_more : (b : Bool) (x y : ℕ) → (b || nat_lt 0 x) ≡ true → (b || nat_lt 0 (x + y)) ≡ true
          listed_more true x y e = refl
          listed_more false x y e = grind (arith, nat_tests, e)

      levels : (fs : List NumberedFile) → All (λ (f : NumberedFile). AreLevel f.maps) fs → All (λ (f : NumberedFile). AreLevel f.maps) (all_of fs)
      levels [] all = λ i e l. absurd (omega (arith, l))
      levels (f ∷ fs) all = All-cons (λ (f : NumberedFile). AreLevel f.maps) (more_of f) (all_of fs) (kids_level f.maps (all 0 f (omega arith))) (levels fs (λ i e l. all (suc i) e (omega (arith, l))))

      -- how many maps come
      added_of : List NumberedFile → ℕ
      added_of fs = sum_by (λ (f : NumberedFile). length (kids f.maps)) fs

      added_is : (fs : List NumberedFile) → added_of fs ≡ sum_by (maps_for parent) (labels_of fs)
      unfolding added_of
      added_is [] = refl
      added_is (f ∷ fs) =
          let rest = added_is fs in
          let here = length-map (filter (is_of parent) f.maps) (map_for child) in
          let some = length-filter (is_of parent) f.maps in
          let own = own_maps parent f in
          omega (arith, rest, here, some, own, sum_by-cons (λ (f : NumberedFile). length (kids f.maps)) f fs, sum_by-cons (maps_for parent) (label_of f) (labels_of fs))

      maps_more : (fs : List NumberedFile) → map_sum (all_of fs) ≡ map_sum fs + added_of fs
      unfolding added_of
      maps_more [] = refl
      maps_more (f ∷ fs) =
          let rest = maps_more fs in
          let both = length-append f.maps (kids f.maps) in
          omega (
            arith,
            rest,
            both,
            sum_by-cons (λ (f : NumberedFile). length f.maps) (more_of f) (all_of fs),
            sum_by-cons
                (λ (f : NumberedFile). length f.maps) f fs,
            sum_by-cons (λ (f : NumberedFile). length (kids f.maps)) f fs,
          )

      flip : (t : ℕ) → (t == child) ≡ false → (child == t) ≡ false
      flip t e = grind (arith, nat_tests, e)

      pub fork_keyed : (left : ℕ) (next : ℕ → ℕ) → left ≡ maps + tally parent → ((q : ℕ) → next q ≡ tally q + cond (child == q) (tally parent) 0) → IsKeyed left next (labels_of (all_of fs))
      fork_keyed left next left_is next_is = record {
        kept = listed fs is.keyed.kept;
        names = λ name. (let same = names_same name fs in let most = is.keyed.names name in omega (arith, same, most));
        keys = λ t q. at t q (t == child) refl;
        map_count = (let was = is.keyed.map_count in let old = maps_in fs in let new = maps_in (all_of fs) in let more = maps_more fs in
            let came = added_is fs in let own = is.keyed.tallied parent in omega (arith, was, old, new, more, came, own, left_is));
        tallied = λ q. next_is q ∙ ap (λ n. n + cond (child == q) (tally parent) 0) (is.keyed.tallied q)
            ∙ ap (λ n. sum_by (maps_for q) (labels_of fs) + cond (child == q) n 0) (is.keyed.tallied parent) ∙ sym (tally_more q fs);
      }
        where
          at : (t q : ℕ) (b : Bool) → (t == child) ≡ b → sum_by (keys_in t q) (labels_of (all_of fs)) ≤ 1
          at t q true e = (let same = ap (λ i. sum_by (keys_in i q) (labels_of (all_of fs))) (eqb-true t child e) in let all = keys_child q in
              let most = is.keyed.keys parent q in omega (arith, same, all, most))
          at t q false e = (let all = keys_other t q (flip t e) fs in let most = is.keyed.keys t q in omega (arith, all, most))

      -- what is noted then may lack names and keys that were not noted, and those that the child has no map of
      pub fork_keeps : (later : Noted) → ((name : List ℕ) → has_noted name later ≡ false → has_noted name n ≡ false) →
          ((t q : ℕ) → (t == child) ≡ false → has_key t q later ≡ false → sum_by (keys_in t q) (labels_of fs) ≡ 0)
          → ((q : ℕ) → has_key child q later ≡ false → sum_by (keys_in child q) (labels_of (all_of fs)) ≡ 0)
          → ((name : List ℕ) → has_noted name n ≡ false → has_noted name later ≡ false) →
          ((t q : ℕ) → (t == child) ≡ false → sum_by (keys_in t q) (labels_of fs) ≡ 0 → has_key t q later ≡ false)
          → ((q : ℕ) → sum_by (keys_in child q) (labels_of (all_of fs)) ≡ 0 → has_key child q later ≡ false) → (left : ℕ) (next : ℕ → ℕ) →
          IsKeyed left next (labels_of (all_of fs)) → IsFiles later u more left next (all_of fs)
      fork_keeps later names others mine no_names no_others not_mine left next keyed_now = record {
        held = fork_held;
        keyed = keyed_now;
        noted = record {
          names = λ name e. (let same = names_same name fs in let none = is.noted.names name (names name e) in omega (arith, same, none));
          keys = λ t q e. keyed t q (t == child) refl e;
          no_name = λ name e. no_names name (is.noted.no_name name (sym (names_same name fs) ∙ e));
          no_key = λ t q e. unkeyed t q (t == child) refl e;
        };
        level = levels fs is.level;
      }
        where
          unkeyed : (t q : ℕ) (b : Bool) → (t == child) ≡ b → sum_by (keys_in t q) (labels_of (all_of fs)) ≡ 0 → has_key t q later ≡ false
          unkeyed t q true same e = (let is_t = eqb-true t child same in ap (λ i. has_key i q later) is_t ∙ not_mine q (sym (ap (λ i. sum_by (keys_in i q) (labels_of (all_of fs))) is_t) ∙ e))
          unkeyed t q false other e = no_others t q other (sym (keys_other t q (flip t other) fs) ∙ e)

          keyed : (t q : ℕ) (b : Bool) → (t == child) ≡ b → has_key t q later ≡ false → sum_by (keys_in t q) (labels_of (all_of fs)) ≡ 0
          keyed t q true same e = (let is_t = eqb-true t child same in ap (λ i. sum_by (keys_in i q) (labels_of (all_of fs))) is_t ∙ mine q (sym (ap (λ i. has_key i q later) is_t) ∙ e))
          keyed t q false other e = (let all = keys_other t q (flip t other) fs in let none = others t q other e in omega (arith, all, none))
