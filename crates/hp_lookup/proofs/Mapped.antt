use Rattle.std.proofs.lemmas.Grind.{common_steps}
-- A map more. The indices of a shared one that reserves are entered.
use Rattle.std.proofs.Common.{◌≡◌, ◌==◌, ℕ, zero, suc, ◌+◌, ◌-◌, ◌<◌, Bool, true, false, cond, ◌||◌, List, [], ◌∷◌, ◌++◌, length, map, take, drop, replicate, refl, sym, ap, subst, ◌∙◌, arith, is_some}
use Rattle.std.proofs.Common.{nat_lt, slice_index_or, slice_set, None, All, sum_by}
use Rattle.std.proofs.lemmas.Bool.Decides.{nat_tests}
use Rattle.std.proofs.lemmas.List.{append-nil, length-append, length-map, length-replicate, map-append, map-set, take-append-drop}
use Rattle.std.proofs.lemmas.List.Elements.{All-set}
use Rattle.std.proofs.lemmas.List.Sums.{sum_by-append, sum_by-cons, sum_by-set, sum_by_push}
use Rattle.hp_laws.proofs.Variants.{Cell, Entered, Hole, Live, NoReserve, Present, Private, Reserve, Reserving, Shared, Sharing}
use Rattle.hp_model.proofs.Words.{Mapping, Page, at_least, cells_mapped, edit_range, entered, is_among, mapped, new_map, numbers_of}
use Rattle.hp_store.specs.Store.{Store}
use Rattle.hp_lookup.proofs.Words.{AreNoted, IsFiles, IsHeld, IsKeyed, IsMoreByMap, Label, Noted, NumberedFile, all_maps, cell_shown, entered_from, file_at, file_shown, files_shown, has_key}
use Rattle.hp_lookup.proofs.Words.{has_label, in_cell, in_file, in_map, in_place, is_key, is_listed, key_of, keys_in, label_of, labels_of, map_shown, maps_for, new_mapping, numbered_at, place_shown}
use Rattle.hp_lookup.proofs.Words.{with_file_at, with_mapping}
use Rattle.hp_lookup.proofs.Level.{level_set, more_level, same_level}
use Rattle.hp_lookup.proofs.Alike.{alike_held}
use Rattle.hp_lookup.proofs.Cells.{file_is, no_file}
use Rattle.hp_lookup.proofs.NewKey.{keys_few, no_pair, other_key}
use Rattle.hp_lookup.proofs.Views.{read_is, view}

-- ---- lists

module _ {X Y : Type 0} (g : X → Y) where
  pub map_take : (n : ℕ) (xs : List X) → map g (take n xs) ≡ take n (map g xs)
  map_take zero [] = refl
  map_take zero (x ∷ xs) = refl
  map_take (suc n) [] = refl
  map_take (suc n) (x ∷ xs) = ap (λ ys. g x ∷ ys) (map_take n xs)

  pub map_drop : (n : ℕ) (xs : List X) → map g (drop n xs) ≡ drop n (map g xs)
  map_drop zero [] = refl
  map_drop zero (x ∷ xs) = refl
  map_drop (suc n) [] = refl
  map_drop (suc n) (x ∷ xs) = map_drop n xs

  pub map_replicate : (n : ℕ) (x : X) → map g (replicate n x) ≡ replicate n (g x)
  map_replicate zero x = refl
  map_replicate (suc n) x = ap (λ ys. g x ∷ ys) (map_replicate n x)

  module _ (f : X → X) (h : Y → Y) (same : (x : X) → g (f x) ≡ h (g x)) where
    map_twice : (xs : List X) → map g (map f xs) ≡ map h (map g xs)
    map_twice [] = refl
    map_twice (x ∷ xs) = ap (λ y. y ∷ map g (map f xs)) (same x) ∙ ap (λ ys. h (g x) ∷ ys) (map_twice xs)

    pub map_edited : (a b : ℕ) (xs : List X) → map g (edit_range f a b xs) ≡ edit_range h a b (map g xs)
    map_edited a b xs = grind (arith, common_steps, map-append, map_take, map_twice, map_drop)

module _ {X : Type 0} (c : X → ℕ) where
  sum_parts : (n : ℕ) (xs : List X) → sum_by c (take n xs) + sum_by c (drop n xs) ≡ sum_by c xs
  sum_parts zero [] = refl
  sum_parts zero (x ∷ xs) = omega arith
  sum_parts (suc n) [] = refl
  sum_parts (suc n) (x ∷ xs) = (let rest = sum_parts n xs in omega (arith, rest, sum_by-cons c x (take n xs), sum_by-cons c x xs))

  pub sum_mapped : (f : X → X) → ((x : X) → c (f x) ≡ c x) → (xs : List X) → sum_by c (map f xs) ≡ sum_by c xs
  sum_mapped f same [] = refl
  sum_mapped f same (x ∷ xs) = (let here = same x in let rest = sum_mapped f same xs in omega (arith, here, rest, sum_by-cons c (f x) (map f xs), sum_by-cons c x xs))

  pub sum_edited : (f : X → X) → ((x : X) → c (f x) ≡ c x) → (a b : ℕ) (xs : List X) → sum_by c (edit_range f a b xs) ≡ sum_by c xs
  sum_edited f same a b xs = grind (arith, common_steps, sum_by-append, sum_mapped, sum_parts)

  sum_none : (n : ℕ) (x : X) → c x ≡ 0 → sum_by c (replicate n x) ≡ 0
  sum_none zero x e = refl
  sum_none (suc n) x e = (let rest = sum_none n x e in omega (arith, e, rest, sum_by-cons c x (replicate n x)))

  pub sum_through : {Y : Type 0} (f : Y → X) (ys : List Y) → sum_by c (map f ys) ≡ sum_by (λ y. c (f y)) ys
  sum_through f [] = refl
  sum_through f (y ∷ ys) = (let rest = sum_through f ys in omega (arith, rest, sum_by-cons c (f y) (map f ys), sum_by-cons (λ y. c (f y)) y ys))

-- ---- what is shown

pub entered_shown : (s : Store) (c : Cell ℕ) → cell_shown s (entered c) ≡ entered (cell_shown s c)
entered_shown s Hole = refl
entered_shown s Entered = refl
entered_shown s (Present n) = refl

pub entered_counts : (n : ℕ) (c : Cell ℕ) → in_cell n (entered c) ≡ in_cell n c
entered_counts n Hole = refl
entered_counts n Entered = refl
entered_counts n (Present k) = refl

-- a range without an index
edit_nothing : {X : Type 0} (f : X → X) (k : ℕ) (xs : List X) → edit_range f k k xs ≡ xs
edit_nothing f k xs =
    let none : k - k ≡ 0 = omega arith in
    ap (λ m. take k xs ++ map f (take m (drop k xs)) ++ drop m (drop k xs)) none ∙ ap (λ ys. take k xs ++ map f ys ++ drop 0 (drop k xs)) (none_taken (drop k xs))
    ∙ ap (λ ys. take k xs ++ [] ++ ys) (none_dropped (drop k xs)) ∙ ap (λ ys. ys ++ drop k xs) (append-nil (take k xs)) ∙ take-append-drop k xs
  where
    none_taken : {X : Type 0} (ys : List X) → take 0 ys ≡ []
    none_taken [] = refl
    none_taken (y ∷ ys) = refl

    none_dropped : {X : Type 0} (ys : List X) → drop 0 ys ≡ ys
    none_dropped [] = refl
    none_dropped (y ∷ ys) = refl

module _ (task number a n : ℕ) (sharing : Sharing) (reserving : Reserving) where
  abbrev from : ℕ
  from = entered_from sharing reserving a n

  range_entered : (cells : List (Cell Page)) → edit_range entered from (a + n) (at_least (a + n) cells) ≡ cells_mapped sharing reserving a n cells
  range_entered cells = by_kind sharing reserving
    where
      by_kind : (k : Sharing) (r : Reserving) → edit_range entered (entered_from k r a n) (a + n) (at_least (a + n) cells) ≡ cells_mapped k r a n cells
      by_kind Shared Reserve = refl
      by_kind Shared NoReserve = edit_nothing entered (a + n) (at_least (a + n) cells)
      by_kind Private other = edit_nothing entered (a + n) (at_least (a + n) cells)

  abbrev y : Mapping ℕ
  y = new_mapping task number a n sharing reserving

  wide : length y.places ≡ n
  wide = length-replicate n _

  new_shown : (s : Store) → map_shown s y ≡ new_map task number a n sharing reserving
  new_shown s = ap (λ ps. record (new_map task number a n sharing reserving) { places = ps }) (map_replicate (place_shown s) n (Live false None))

  pub mapped_shown : (s : Store) (x : NumberedFile) → file_shown s (with_mapping from y x) ≡ mapped task number a n sharing reserving (file_shown s x)
  mapped_shown s x =
      let end : ℕ = a + length y.places in
      let cells : map (cell_shown s) (edit_range entered from end (at_least end x.cells)) ≡ cells_mapped sharing reserving a n (map (cell_shown s) x.cells) =
      map_edited (cell_shown s) entered entered (entered_shown s) from end (at_least end x.cells)
      ∙ ap (edit_range entered from end) (map-append (cell_shown s) x.cells (replicate (end - length x.cells) Hole)
      ∙ ap (λ cs. map (cell_shown s) x.cells ++ cs) (map_replicate (cell_shown s) (end - length x.cells) Hole))
      ∙ ap (λ m. edit_range entered from end (map (cell_shown s) x.cells ++ replicate (end - m) Hole)) (sym (length-map x.cells (cell_shown s)))
      ∙ ap (λ m. edit_range entered from (a + m) (at_least (a + m) (map (cell_shown s) x.cells))) wide
      ∙ range_entered (map (cell_shown s) x.cells) in
      ap (λ cs. record { name = x.name; cells = cs; maps = map (map_shown s) (x.maps ++ y ∷ []) }) cells
      ∙ ap (λ ms. record { name = x.name; cells = cells_mapped sharing reserving a n (map (cell_shown s) x.cells); maps = ms })
      (map-append (map_shown s) x.maps (y ∷ []) ∙ ap (λ m. map (map_shown s) x.maps ++ m ∷ []) (new_shown s))

  cells_count : (m : ℕ) (x : NumberedFile) → sum_by (in_cell m) (with_mapping from y x).cells ≡ sum_by (in_cell m) x.cells
  cells_count m x = grind (arith, common_steps, sum_edited, entered_counts, sum_by-append, sum_none)

  pub file_count : (m : ℕ) (x : NumberedFile) → in_file m (with_mapping from y x) ≡ in_file m x
  file_count m x =
      let cells = cells_count m x in
      let maps = sum_by_push (in_map m) x.maps y in
      let none = sum_none (in_place m) n (Live false None) refl in
      omega (arith, cells, maps, none)

  module _ (old : Noted) (s : Store) (more maps : ℕ) (tally : ℕ → ℕ) (fs : List NumberedFile) (k : ℕ) (is : IsFiles old s more maps tally fs)
      (l : k < length fs) (x g : NumberedFile) (read : x ≡ slice_index_or fs k x) (g_is : g ≡ with_mapping from y x) where
    at : x ≡ numbered_at fs k
    at = read_is fs k x l read

    pub map_view : view s more (slice_set fs k g) ≡ with_file_at k (mapped task number a n sharing reserving (file_at (files_shown s fs) k)) (view s more fs)
    map_view = grind (arith, common_steps, view, map-set, mapped_shown, at, file_is)

    pub map_held : IsHeld s more (slice_set fs k g)
    map_held = grind (arith, common_steps, alike_held, cells_count, at, file_count)

    label_is : label_of g ≡ record { name = x.name; keys = map key_of x.maps ++ (task, number) ∷ [] }
    label_is = ap label_of g_is ∙ ap (λ ks. record { name = x.name; keys = ks }) (map-append key_of x.maps (y ∷ []))

    listed : is_listed (label_of g) ≡ true
    listed =
        let long = ap (λ (q : Label). length q.keys) label_is ∙ length-append (map key_of x.maps) ((task, number) ∷ []) in
        let some : nat_lt 0 (length (label_of g).keys) ≡ true = grind (arith, nat_tests) in
        ap (λ b. is_some g.name || b) some ∙ either (is_some g.name)
      where
        either : (b : Bool) → (b || true) ≡ true
        either true = refl
        either false = refl

    keys_more : (t m : ℕ) → keys_in t m (label_of g) ≡ keys_in t m (label_of x) + cond (is_key t m (task, number)) 1 0
    keys_more t m = ap (keys_in t m) label_is ∙ sum_by_push (λ q. cond {A = ℕ} (is_key t m q) 1 0) (map key_of x.maps) (task, number)

    module _ (fresh : is_among number (numbers_of task (all_maps (files_shown s fs))) ≡ false) where
      pub map_keyed : (next : ℕ → ℕ) → ((q : ℕ) → next q ≡ tally q + cond (task == q) 1 0) → IsKeyed (maps + 1) next (labels_of (slice_set fs k g))
      map_keyed next one_more = record {
        kept = subst (All (λ (q : Label). is_listed q ≡ true)) (sym (map-set label_of fs k g)) (All-set (λ (q : Label). is_listed q ≡ true) (labels_of fs) k (label_of g) listed is.keyed.kept);
        names = λ name.
            let step = sum_by-set (λ (f : NumberedFile). cond {A = ℕ} (has_label name (label_of f)) 1 0) fs k g no_file l in
            let before = sum_through (λ (q : Label). cond {A = ℕ} (has_label name q) 1 0) label_of fs in
            let after = sum_through (λ (q : Label). cond {A = ℕ} (has_label name q) 1 0) label_of (slice_set fs k g) in
            let same = ap (λ (q : Label). cond {A = ℕ} (has_label name q) 1 0 + 0) label_is in
            let here = ap (λ (f : NumberedFile). cond {A = ℕ} (has_label name (label_of f)) 1 0 + 0) at in
            let most = is.keyed.names name in
            omega (arith, step, before, after, same, here, most);
        keys = λ t m.
            let step = sum_by-set (λ (f : NumberedFile). keys_in t m (label_of f)) fs k g no_file l in
            let before = sum_through (keys_in t m) label_of fs in
            let after = sum_through (keys_in t m) label_of (slice_set fs k g) in
            let more = keys_more t m in
            let here = ap (λ (f : NumberedFile). keys_in t m (label_of f)) at in
            let few = keys_few task number s fs fresh t m (is_key t m (task, number)) refl (is.keyed.keys t m) in
            omega (arith, step, before, after, more, here, few);
        map_count =
            let step = sum_by-set (λ (f : NumberedFile). length (label_of f).keys) fs k g no_file l in
            let before = sum_through (λ (q : Label). length q.keys) label_of fs in
            let after = sum_through (λ (q : Label). length q.keys) label_of (slice_set fs k g) in
            let more = ap (λ (q : Label). length q.keys) label_is ∙ length-append (map key_of x.maps) ((task, number) ∷ []) in
            let here = ap (λ (f : NumberedFile). length (label_of f).keys) at in
            let was = is.keyed.map_count in
            omega (arith, step, before, after, more, here, was);
        tallied = λ q.
            let step = sum_by-set (λ (f : NumberedFile). maps_for q (label_of f)) fs k g no_file l in
            let before = sum_through (maps_for q) label_of fs in
            let after = sum_through (maps_for q) label_of (slice_set fs k g) in
            let more = ap (maps_for q) label_is ∙ sum_by_push (λ (k : ℕ × ℕ). cond {A = ℕ} (k.0 == q) 1 0) (map key_of x.maps) (task, number) in
            let here = ap (λ (f : NumberedFile). maps_for q (label_of f)) at in
            let was = is.keyed.tallied q in
            let one = one_more q in
            omega (arith, step, before, after, more, here, was, one);
      }

      module _ (now : Noted) (grown : IsMoreByMap task number old now) (own : has_key task number now ≡ true) where
        map_noted : AreNoted now (labels_of (slice_set fs k g))
        map_noted = record {
          names = λ name e.
              let step = sum_by-set (λ (f : NumberedFile). cond {A = ℕ} (has_label name (label_of f)) 1 0) fs k g no_file l in
              let before = sum_through (λ (q : Label). cond {A = ℕ} (has_label name q) 1 0) label_of fs in
              let after = sum_through (λ (q : Label). cond {A = ℕ} (has_label name q) 1 0) label_of (slice_set fs k g) in
              let same = ap (λ (q : Label). cond {A = ℕ} (has_label name q) 1 0 + 0) label_is in
              let here = ap (λ (f : NumberedFile). cond {A = ℕ} (has_label name (label_of f)) 1 0 + 0) at in
              let none = is.noted.names name (grown.more.names name e) in
              omega (arith, step, before, after, same, here, none);
          keys = λ t m e.
              let step = sum_by-set (λ (f : NumberedFile). keys_in t m (label_of f)) fs k g no_file l in
              let before = sum_through (keys_in t m) label_of fs in
              let after = sum_through (keys_in t m) label_of (slice_set fs k g) in
              let more = keys_more t m in
              let here = ap (λ (f : NumberedFile). keys_in t m (label_of f)) at in
              let none = is.noted.keys t m (grown.more.keys t m e) in
              let other = ap (λ b. cond {A = ℕ} b 1 0) (other_key task number now own t m (is_key t m (task, number)) refl e) in
              omega (arith, step, before, after, more, here, none, other);
          no_name = λ name e.
              let step = sum_by-set (λ (f : NumberedFile). cond {A = ℕ} (has_label name (label_of f)) 1 0) fs k g no_file l in
              let before = sum_through (λ (q : Label). cond {A = ℕ} (has_label name q) 1 0) label_of fs in
              let after = sum_through (λ (q : Label). cond {A = ℕ} (has_label name q) 1 0) label_of (slice_set fs k g) in
              let same = ap (λ (q : Label). cond {A = ℕ} (has_label name q) 1 0 + 0) label_is in
              let here = ap (λ (f : NumberedFile). cond {A = ℕ} (has_label name (label_of f)) 1 0 + 0) at in
              grown.names name (is.noted.no_name name (omega (arith, step, before, after, same, here, e)));
          no_key = λ t m e.
              let step = sum_by-set (λ (f : NumberedFile). keys_in t m (label_of f)) fs k g no_file l in
              let before = sum_through (keys_in t m) label_of fs in
              let after = sum_through (keys_in t m) label_of (slice_set fs k g) in
              let more = keys_more t m in
              let here = ap (λ (f : NumberedFile). keys_in t m (label_of f)) at in
              grown.keys t m (no_pair task number t m (cond {A = ℕ} (is_key t m (task, number)) 1 0) refl (omega (arith, step, before, after, more, here, e)))
              (is.noted.no_key t m (omega (arith, step, before, after, more, here, e)));
        }

        pub map_files : (next : ℕ → ℕ) → ((q : ℕ) → next q ≡ tally q + cond (task == q) 1 0) → IsFiles now s more (maps + 1) next (slice_set fs k g)
        map_files next one_more = record {
          held = map_held;
          keyed = map_keyed next one_more;
          noted = map_noted;
          level = level_set fs k x g l read (λ h. same_level (x.maps ++ y ∷ []) g.maps (ap (λ (f : NumberedFile). f.maps) g_is) (more_level x.maps y n refl h)) is.level;
        }
