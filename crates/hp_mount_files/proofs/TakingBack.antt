use Rattle.std.proofs.lemmas.Grind.{common_steps}
-- A map takes its copy back from all others that hold it.
use Rattle.std.proofs.Common.{◌≡◌, ◌≢◌, ℕ, zero, suc, ◌+◌, ◌-◌, ◌<◌, ◌≤◌, ◌==◌, ⊎_elim, Bool, true, false, cond, nat_lt, None, Some, List, [], ◌∷◌, length, map, refl, sym, ap, ◌∙◌, arith}
use Rattle.std.proofs.Common.{slice_index_or, slice_set, sum_by}
use Rattle.std.specs.List.{list_any}
use Rattle.std.proofs.lemmas.Bool.{cond_both, eq-eqb, eqb-true}
use Rattle.std.proofs.lemmas.Bool.Decides.{eqb_tells}
use Rattle.std.proofs.lemmas.List.{get_or-map, get_or-set_other, get_or-set_same, length-map, length-set, map-set}
use Rattle.std.proofs.lemmas.List.Folds.{list_any_at}
use Rattle.std.proofs.lemmas.List.Sums.{sum_by-cons, sum_by-set}
use Rattle.hp_laws.proofs.steps.CopyWrites.{takes_back}
use Rattle.hp_laws.proofs.counts.Copies.{live_of}
use Rattle.hp_mapping.proofs.Ranges.{at_start}
use Rattle.hp_mapping.specs.Mapped.{at_place}
use Rattle.hp_laws.proofs.Variants.{Gone, Live, Place}
use Rattle.hp_model.proofs.Words.{Copy, File, Map, Mapping, copy_of, drop_stamp, file_reserves, holds, no_map, place_at, robbed, with_map, without_copy}
use Rattle.hp_store.specs.Store.{Store}
use Rattle.hp_lookup.proofs.Words.{AreLevel, IsDropping, IsFiles, IsLeft, Noted, NumberedFile, copy_in, copy_shown, file_at, file_shown, files_shown, in_cell, in_file, in_map, in_place, key_of}
use Rattle.hp_lookup.proofs.Words.{label_of, map_among, map_shown, mapping_at, more_in, no_mapping, place_shown, taken_back_at}
use Rattle.hp_file.specs.States.{IsCopyState}
use Rattle.hp_lookup.specs.declared.copy_state.CopyState.TheVariants as state
use Rattle.hp_file.specs.Taking.{has_number, robbed_at, with_taken_back}
use Rattle.hp_file.proofs.Copies.{any_none}
use Rattle.hp_mount_files.proofs.CopyHeld.{agreed_shown, jl_read, map_reads, no_cells, number_there, stamp_there}
use Rattle.hp_file.proofs.Drops.{less_copy, live_copy, place_here, place_inside}
use Rattle.hp_lookup.proofs.GivingBack.{given_shows, keeps, leaves}
use Rattle.hp_mount_files.proofs.HeldOnce.{once_left}
use Rattle.hp_lookup.proofs.Keys.{set_read}
use Rattle.hp_lookup.proofs.Level.{fewer_level, level_read, mapped_copy, same_level}
use Rattle.hp_lookup.proofs.Lifting.{at_most, is_it, map_but}
use Rattle.hp_file.proofs.Placing.{none_or_some}
use Rattle.hp_lookup.proofs.Views.{copy_seen, file_read, files_len, read_is, shown_place, view}

-- ---- lists

module _ {X : Type 0} (c : X → ℕ) (d : X) where
  pub none_all : (xs : List X) → ((r : ℕ) → c (slice_index_or xs r d) ≡ 0) → sum_by c xs ≡ 0
  none_all [] none = refl
  none_all (x ∷ xs) none = (let here = none 0 in let rest = none_all xs (λ r. none (suc r)) in omega (arith, here, rest, sum_by-cons c x xs))

  pub one_alone : (xs : List X) (o : ℕ) → o < length xs → ((r : ℕ) → r ≢ o → c (slice_index_or xs r d) ≡ 0) → sum_by c xs ≡ c (slice_index_or xs o d)
  one_alone [] o l none = absurd (omega (arith, l))
  one_alone (x ∷ xs) zero l none = (let rest = none_all xs (λ r. none (suc r) (λ e. absurd (omega (arith, e)))) in omega (arith, rest, sum_by-cons c x xs))
  one_alone (x ∷ xs) (suc o) l none =
      let here = none 0 (λ e. absurd (omega (arith, e))) in
      let rest = one_alone xs o (omega (arith, l)) (λ r other. none (suc r) (λ e. other (omega (arith, e)))) in
      omega (arith, here, rest, sum_by-cons c x xs)

map_alike : {X Y : Type 0} (f g : X → Y) (d : X) (xs : List X) → ((r : ℕ) → r < length xs → f (slice_index_or xs r d) ≡ g (slice_index_or xs r d)) → map f xs ≡ map g xs
map_alike f g d [] same = refl
map_alike f g d (x ∷ xs) same = ap (λ y. y ∷ map f xs) (same 0 (omega arith)) ∙ ap (λ ys. g x ∷ ys) (map_alike f g d xs (λ r l. same (suc r) (omega (arith, l))))

-- ---- one map loses the number

place_number : (q : ℕ) (p : Place ℕ) → 0 < in_place q p → copy_of p ≡ Some q
place_number q Gone l = absurd (omega (arith, l))
place_number q (Live c None) l = absurd (omega (arith, l))
place_number q (Live c (Some k)) l = ⊎_elim
    (λ (e : ((k == q) ≡ true) × (k ≡ q)). ap Some e.1)
    (λ (e : ((k == q) ≡ false) × (k ≢ q)). (let none = ap (λ b. cond {A = ℕ} b 1 0) e.0 in absurd (omega (arith, l, none))))
    (eqb_tells k q)

number_here : (q : ℕ) (p : Place ℕ) → copy_of p ≡ Some q → has_number q p ≡ true
number_here q p e = ap (λ o. elim o [ None ↦ false | Some k ↦ k == q ]) e ∙ eq-eqb q q refl

has_it : (q : ℕ) (p : Place ℕ) → has_number q p ≡ true → copy_of p ≡ Some q
has_it q Gone e = cc
has_it q (Live c None) e = cc
has_it q (Live c (Some k)) e = ap Some (eqb-true k q e)

module _ (s : Store) (q : ℕ) where
  dropped_same : (p : Place ℕ) → in_place q p ≡ 0 → drop_stamp q (place_shown s p) ≡ place_shown s p
  dropped_same Gone e = refl
  dropped_same (Live c None) e = refl
  dropped_same (Live c (Some k)) e = either (k == q) e
    where
      either : (b : Bool) → ◌≡◌ {A = ℕ} (cond b 1 0) 0 → cond b (Live c None) (Live c (Some (copy_shown s k))) ≡ Live c (Some (copy_shown s k))
      either true e = absurd (omega (arith, e))
      either false e = refl

  not_held : (p : Place ℕ) → in_place q p ≡ 0 → holds q (place_shown s p) ≡ false
  not_held Gone e = refl
  not_held (Live c None) e = refl
  not_held (Live c (Some k)) e = either (k == q) e
    where
      either : (b : Bool) → ◌≡◌ {A = ℕ} (cond b 1 0) 0 → b ≡ false
      either true e = absurd (omega (arith, e))
      either false e = refl

  held_here : (p : Place ℕ) → copy_of p ≡ Some q → (holds q (place_shown s p) ≡ true) × (drop_stamp q (place_shown s p) ≡ place_shown s (without_copy p))
  held_here p e = grind (arith, common_steps, live_copy, eq-eqb)

  -- the number stands nowhere else in the map
  module _ (i : ℕ) (m : Mapping ℕ) (only : (r : ℕ) → copy_of (place_at m r) ≡ Some q → r ≡ i) where
    elsewhere : (r : ℕ) → 0 < in_place q (slice_index_or m.places r Gone) → m.start + r ≡ i
    elsewhere r some = only (m.start + r) (ap copy_of (at_start m r) ∙ place_number q (slice_index_or m.places r Gone) some)

    alone : copy_of (place_at m i) ≡ Some q → in_map q m ≡ in_place q (slice_index_or m.places (i - m.start) Gone)
    alone there = grind (arith, common_steps, place_inside, one_alone, elsewhere, none_or_some)

    clash : true ≡ false → ⊥
    clash e = cc

    nowhere : has_number q (place_at m i) ≡ false → in_map q m ≡ 0
    nowhere none = none_all (in_place q) Gone m.places (λ r. ⊎_elim (λ (none : in_place q (slice_index_or m.places r Gone) ≡ 0). none)
        (λ (some : 0 < in_place q (slice_index_or m.places r Gone)). (let same = elsewhere r some in
        let there : copy_of (place_at m i) ≡ Some q = ap (λ z. copy_of (place_at m z)) (sym same) ∙ ap copy_of (at_start m r) ∙ place_number q (slice_index_or m.places r Gone) some in
        absurd (clash (sym (number_here q (place_at m i) there) ∙ none)))) (none_or_some (in_place q (slice_index_or m.places r Gone))))

    pub one_place : copy_of (place_at m i) ≡ Some q → in_map q m ≡ 1
    one_place there = grind (arith, common_steps, place_inside, alone, live_copy, is_it)

    pub bare_robbed : in_map q (robbed_at q i m) ≡ 0
    bare_robbed = either (has_number q (place_at m i)) refl
      where
        either : (b : Bool) → has_number q (place_at m i) ≡ b → in_map q (cond b (record (at_place without_copy i m) { unmapped = true }) m) ≡ 0
        either true e =
            let there = has_it q (place_at m i) e in
            let one = one_place there in
            let less = less_copy m i q (at_place without_copy i m).places there refl q in
            let it = is_it q in
            omega (arith, one, less, it)
        either false e = nowhere e

    pub robbed_shown : map_shown s (robbed_at q i m) ≡ robbed q (map_shown s m)
    robbed_shown = either (has_number q (place_at m i)) refl
      where
        lost : copy_of (place_at m i) ≡ Some q → map_shown s (record (at_place without_copy i m) { unmapped = true }) ≡ robbed q (map_shown s m)
        lost there =
            let at = place_inside m i q there in
            let p : Place ℕ = slice_index_or m.places (i - m.start) Gone in
            let here = held_here p at.1 in
            let places : map (place_shown s) (slice_set m.places (i - m.start) (without_copy (place_at m i))) ≡ map (λ x. drop_stamp q (place_shown s x)) m.places =
            map-set (place_shown s) m.places (i - m.start) (without_copy (place_at m i))
            ∙ ap (λ x. slice_set (map (place_shown s) m.places) (i - m.start) (place_shown s (without_copy x))) (place_here m i at.2)
            ∙ ap (slice_set (map (place_shown s) m.places) (i - m.start)) (sym here.1)
            ∙ sym (map_but (place_shown s) (λ x. drop_stamp q (place_shown s x)) (in_place q) dropped_same m.places (i - m.start) Gone at.0 (alone there)) in
            let any : list_any (holds q) (map (place_shown s) m.places) ≡ true = list_any_at (holds q) (map (place_shown s) m.places) (i - m.start)
            Gone (let long = length-map m.places (place_shown s) in let l = at.0 in omega (arith, long, l))
            (ap (holds q) (get_or-map (place_shown s) m.places (i - m.start) Gone Gone at.0) ∙ here.0) in
            ap (λ ps. record (map_shown s m) { unmapped = true; places = ps }) (places ∙ twice m.places)
            ∙ ap (λ b. cond b (record (map_shown s m) { unmapped = true; places = map (drop_stamp q) (map (place_shown s) m.places) }) (map_shown s m)) (sym any)
          where
            twice : (ps : List (Place ℕ)) → map (λ x. drop_stamp q (place_shown s x)) ps ≡ map (drop_stamp q) (map (place_shown s) ps)
            twice [] = refl
            twice (p ∷ ps) = ap (λ xs. drop_stamp q (place_shown s p) ∷ xs) (twice ps)

        kept : has_number q (place_at m i) ≡ false → map_shown s m ≡ robbed q (map_shown s m)
        kept none = grind (arith, common_steps, any_none, not_held, nowhere)

        either : (b : Bool) → has_number q (place_at m i) ≡ b → map_shown s (cond b (record (at_place without_copy i m) { unmapped = true }) m) ≡ robbed q (map_shown s m)
        either true e = lost (has_it q (place_at m i) e)
        either false e = kept e

-- ---- all but one

robbed_key : (q i : ℕ) (m : Mapping ℕ) → key_of (robbed_at q i m) ≡ key_of m
robbed_key q i m = cond_both (has_number q (place_at m i)) (record (at_place without_copy i m) { unmapped = true }) m (λ z. key_of z ≡ key_of m) (λ e. refl) (λ e. refl)

robbed_less : (q i : ℕ) (m : Mapping ℕ) (r number : ℕ) → copy_of (place_at (robbed_at q i m) r) ≡ Some number → copy_of (place_at m r) ≡ Some number
robbed_less q i m r number = cond_both (has_number q (place_at m i)) (record (at_place without_copy i m) { unmapped = true }) m
    (λ z. copy_of (place_at z r) ≡ Some number → copy_of (place_at m r) ≡ Some number) (λ b e. lost b e) (λ b e. e)
  where
    bare : (p : Place ℕ) → copy_of (without_copy p) ≡ Some number → ⊥
    bare Gone e = cc
    bare (Live c o) e = cc

    set_bare : (ps : List (Place ℕ)) (o : ℕ) (p : Place ℕ) → copy_of (slice_index_or (slice_set ps o (without_copy p)) o Gone) ≡ Some number → ⊥
    set_bare [] o p e = cc
    set_bare (x ∷ ps) zero p e = bare p e
    set_bare (x ∷ ps) (suc o) p e = set_bare ps o p e

    either : (b : Bool) → nat_lt r m.start ≡ b → copy_of (cond b Gone (slice_index_or (slice_set m.places (i - m.start) (without_copy (place_at m i)))
        (r - m.start) Gone)) ≡ Some number → copy_of (cond b Gone (slice_index_or m.places (r - m.start) Gone)) ≡ Some number
    either true from e = e
    either false from e = ⊎_elim
        (λ (z : (((r - m.start) == (i - m.start)) ≡ true) × (r - m.start ≡ i - m.start)).
        absurd (set_bare m.places (i - m.start) (place_at m i) (ap (λ o. copy_of
        (slice_index_or (slice_set m.places (i - m.start) (without_copy (place_at m i))) o Gone)) (sym z.1) ∙ e)))
        (λ (z : (((r - m.start) == (i - m.start)) ≡ false) × (r - m.start ≢ i - m.start)).
        ap copy_of (sym (get_or-set_other m.places (i - m.start) (r - m.start) (without_copy (place_at m i)) Gone z.1)) ∙ e)
        (eqb_tells (r - m.start) (i - m.start))

    lost : has_number q (place_at m i) ≡ true → copy_of (place_at (record (at_place without_copy i m) { unmapped = true }) r) ≡ Some number → copy_of (place_at m r) ≡ Some number
    lost b e = either (nat_lt r m.start) refl e

module _ (s : Store) (x : NumberedFile) (j i q : ℕ) (jl : j < length x.maps) (there : copy_of (place_at (mapping_at x j) i) ≡ Some q) (level : AreLevel x.maps) where
  abbrev y : NumberedFile
  y = with_taken_back q j i x

  abbrev m : Map
  m = map_shown s (mapping_at x j)

  pub back_label : label_of y ≡ label_of x
  back_label = ap (λ ks. record { name = x.name; keys = ks })
      (map-set key_of (map (robbed_at q i) x.maps) j (mapping_at x j) ∙ ap (λ ks. slice_set ks j (key_of (mapping_at x j))) (keys x.maps)
      ∙ sym (map-set key_of x.maps j (mapping_at x j)) ∙ ap (map key_of) (set_read x.maps j no_mapping))
    where
      keys : (ms : List (Mapping ℕ)) → map key_of (map (robbed_at q i) ms) ≡ map key_of ms
      keys [] = refl
      keys (z ∷ ms) = ap (λ key. key ∷ map key_of (map (robbed_at q i) ms)) (robbed_key q i z) ∙ ap (λ ks. key_of z ∷ ks) (keys ms)

  pub back_level : AreLevel y.maps
  back_level = fewer_level x.maps y.maps (λ a r number e. (a, from a r number e)) level
    where
      from : (a r number : ℕ) → copy_in y.maps a r ≡ Some number → copy_in x.maps a r ≡ Some number
      from a r number e = ⊎_elim
          (λ (z : ((a == j) ≡ true) × (a ≡ j)).
          (let long = length-map x.maps (robbed_at q i) in
          let here : slice_index_or y.maps a no_mapping ≡ mapping_at x j = ap (λ b. slice_index_or y.maps b no_mapping) z.1
          ∙ get_or-set_same (map (robbed_at q i) x.maps) j (mapping_at x j) no_mapping (omega (arith, long, jl)) in
          ap (λ b. copy_in x.maps b r) z.1 ∙ ap (λ (z : Mapping ℕ). copy_of (place_at z r)) (sym here) ∙ e))
          (λ (z : ((a == j) ≡ false) × (a ≢ j)).
          mapped_copy (robbed_at q i) (robbed_less q i) x.maps a r number (ap (λ (z : Mapping ℕ). copy_of (place_at z r))
          (sym (get_or-set_other (map (robbed_at q i) x.maps) j a (mapping_at x j) no_mapping z.1)) ∙ e))
          (eqb_tells a j)

  map_here : slice_index_or (map (map_shown s) x.maps) j no_map ≡ m
  map_here = get_or-map (map_shown s) x.maps j no_mapping no_map jl

  maps_shown : map (map_shown s) (map (robbed_at q i) x.maps) ≡ map (robbed q) (map (map_shown s) x.maps)
  maps_shown = through (robbed_at q i) (map_shown s) x.maps
      ∙ map_alike (λ z. map_shown s (robbed_at q i z)) (λ z. robbed q (map_shown s z)) no_mapping x.maps
      (λ a l. robbed_shown s q i (slice_index_or x.maps a no_mapping) (λ r e. level q a j r i e there))
      ∙ sym (through (map_shown s) (robbed q) x.maps)
    where
      through : {X Y Z : Type 0} (f : X → Y) (g : Y → Z) (xs : List X) → map g (map f xs) ≡ map (λ z. g (f z)) xs
      through f g [] = refl
      through f g (z ∷ xs) = ap (λ zs. g (f z) ∷ zs) (through f g xs)

  abbrev shown : File
  shown = file_shown s x

  pub back_shown : file_shown s y ≡ with_map (record shown { maps = map (robbed q) shown.maps }) j (slice_index_or shown.maps j no_map)
  back_shown = ap (λ ms. record shown { maps = ms })
      (map-set (map_shown s) (map (robbed_at q i) x.maps) j (mapping_at x j) ∙ ap (λ ms. slice_set ms j m) maps_shown ∙ ap (slice_set (map (robbed q) (map (map_shown s) x.maps)) j) (sym map_here))

  pub back_reserves : file_reserves (file_shown s y) + 0 ≡ file_reserves (file_shown s x)
  back_reserves =
      let copy : copy_of (place_at m i) ≡ Some (copy_shown s q) = ap copy_of (shown_place s (mapping_at x j) i) ∙ copy_seen s (place_at (mapping_at x j) i) q there in
      let live = live_of (place_at m i) (copy_shown s q) copy in
      let grows = takes_back shown j m i live.0 (copy_shown s q) (record {
        within = (let long = length-map x.maps (map_shown s) in omega (arith, long, jl));
        is = λ d. get_or-map (map_shown s) x.maps j no_mapping d jl;
      }) live.1 (agreed_shown s x) in
      let is = ap file_reserves (back_shown ∙ ap (with_map (record shown { maps = map (robbed q) shown.maps }) j) map_here) in
      let pages = grows.pages in
      let usage = grows.usage in
      omega (arith, is, pages, usage)

-- ---- as code leaves it: x is what it read, and y what it left there

module _ (n : Noted) (s t : Store) (more now maps : ℕ) (tally : ℕ → ℕ) (fs : List NumberedFile) (is : IsFiles n s more maps tally fs) (k j i : ℕ)
    (l : k < length (files_shown s fs)) (jl : j < length (file_at (files_shown s fs) k).maps) (x y : NumberedFile) (read : x ≡ slice_index_or fs k x)
    (y_is : (q : ℕ) → copy_of (place_at (mapping_at x j) i) ≡ Some q → y ≡ with_taken_back q j i x)
    (d : IsDropping (λ r. in_file r x) (λ r. in_file r y) s t) (counted : now ≡ more_in t.pages) (copy : Copy)
    (there : copy_of (place_at (map_among (files_shown s fs) k j) i) ≡ Some copy) where
  found : (q : ℕ) × (copy_of (place_at (mapping_at x j) i) ≡ Some q)
  found = number_there s more fs is.held k j i l jl x read copy there

  within : k < length fs
  within = (let long = files_len s fs in omega (arith, l, long))

  jl_x : j < length x.maps
  jl_x = jl_read s more fs is.held k j i l jl x read

  left : y ≡ with_taken_back found.0 j i x
  left = y_is found.0 found.1

  label : label_of y ≡ label_of x
  label = ap label_of left ∙ back_label s x j i found.0 jl_x found.1 (level_read fs k x within read is.level)

  cells : (r : ℕ) → sum_by (in_cell r) y.cells ≤ sum_by (in_cell r) x.cells
  cells r = (let same = ap (λ (f : NumberedFile). sum_by (in_cell r) f.cells) left in omega (arith, same))

  pub back_keeps : IsFiles n t now maps tally (slice_set fs k y)
  back_keeps = keeps n s t more now maps tally fs is k l x y read d counted label cells
      (λ level. same_level (with_taken_back found.0 j i x).maps y.maps (ap (λ (f : NumberedFile). f.maps) left) (back_level s x j i found.0 jl_x found.1 level))

  pub back_files : files_shown t (slice_set fs k y) ≡ taken_back_at k j copy.stamp (files_shown s fs)
  back_files =
      given_shows s t more now fs is.held k within x y (read_is fs k x within read) d counted cells
      ∙ ap (slice_set (files_shown s fs) k) (ap (file_shown s) left ∙ back_shown s x j i found.0 jl_x found.1 (level_read fs k x within read is.level)
      ∙ ap (λ (f : File). with_map (record f { maps = map (robbed found.0) f.maps }) j (slice_index_or f.maps j no_map)) (sym (file_read s fs k l x read)))
      ∙ ap (λ r. taken_back_at k j r (files_shown s fs)) (sym (stamp_there s more fs is.held k j i l jl x read (mapping_at x j)
      (map_reads s more fs is.held k j i l jl x read) found.0 found.1 copy there))

  pub back_left : IsLeft 0 (view s more fs) (view t now (slice_set fs k y))
  back_left = leaves n s t more now maps tally fs is k l x y read d counted label cells 0
      (ap (λ (f : NumberedFile). file_reserves (file_shown s f) + 0) left ∙ back_reserves s x j i found.0 jl_x found.1 (level_read fs k x within read is.level))

  -- the others hold it no more
  bare_others : (ms : List (Mapping ℕ)) → ((a r : ℕ) → copy_in ms a r ≡ Some found.0 → r ≡ i) → sum_by (in_map found.0) (map (robbed_at found.0 i) ms) ≡ 0
  bare_others [] only = refl
  bare_others (m ∷ ms) only =
      let here = bare_robbed s found.0 i m (λ r e. only 0 r e) in
      let rest = bare_others ms (λ a r e. only (suc a) r e) in
      omega (arith, here, rest, sum_by-cons (in_map found.0) (robbed_at found.0 i m) (map (robbed_at found.0 i) ms))

  pub back_once : IsCopyState state.HeldOnce (file_at (files_shown t (slice_set fs k y)) k) (place_at (map_among (files_shown t (slice_set fs k y)) k j) i)
  back_once =
      let q : ℕ = found.0 in
      let rob : Mapping ℕ → Mapping ℕ = robbed_at found.0 i in
      let level = level_read fs k x within read is.level in
      let long = length-map x.maps rob in
      let jr : j < length (map rob x.maps) = omega (arith, long, jl_x) in
      let others = bare_others x.maps (λ a r e. level found.0 a j r i e found.1) in
      let step = sum_by-set (in_map q) (map rob x.maps) j (mapping_at x j) no_mapping jr in
      let few = at_most (λ (z : Mapping ℕ). z) (λ z. z) (in_map q) (λ z e. refl) (map rob x.maps) j no_mapping jr in
      let one = one_place s q i (mapping_at x j) (λ r e. level found.0 j j r i e found.1) found.1 in
      let had = is.held.held q in
      let went = d.held q in
      let same = ap (in_file q) left in
      let most = at_most (λ (z : Mapping ℕ). z) (λ z. z) (in_map q) (λ z e. refl) x.maps j no_mapping jl_x in
      let x_there = ap (in_file q) (read_is fs k x within read) in
      let all = is.held.apart q k within (omega (arith, x_there, one, most)) in
      let cells = ap (λ (f : NumberedFile). sum_by (in_cell q) f.cells) (read_is fs k x within read) in
      let none = no_cells s more fs is.held k j i l jl x read (mapping_at x j) (map_reads s more fs is.held k j i l jl x read) q found.1 in
      let wide = ap (λ (f : NumberedFile). length f.maps) left ∙ length-set (map rob x.maps) j (mapping_at x j) in
      let here = ap (λ (f : NumberedFile). copy_of (place_at (mapping_at f j) i)) left
      ∙ ap (λ (m : Mapping ℕ). copy_of (place_at m i)) (get_or-set_same (map rob x.maps) j (mapping_at x j) no_mapping jr) ∙ found.1 in
      once_left t now fs k j i y q back_keeps.held within (omega (arith, wide, jr)) here
      (omega (arith, others, step, few, one, had, went, same, x_there, all, cells, none))
