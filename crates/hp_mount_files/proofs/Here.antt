use Rattle.std.proofs.lemmas.Grind.{common_steps}
-- What is said of the files as a caller sees them is so of them as the fields show them, and of the file and map that code reads.
use Rattle.std.proofs.Common.{◌≡◌, ℕ, ◌<◌, true, None, Some, List, length, refl, ap, subst, sym, ◌∙◌, arith, IsSome, slice_index_or}
use Rattle.std.proofs.lemmas.List.{get_or_default, length-map}
use Rattle.hp_laws.proofs.Variants.{Gone, Live, Place}
use Rattle.hp_model.proofs.Words.{Copy, copy_of, is_live, place_at}
use Rattle.hp_store.specs.Store.{Store}
use Rattle.hp_lookup.specs.declared.copy_state.CopyState.{CopyState}
use Rattle.hp_lookup.proofs.Words.{Files, IsHeld, NumberedFile, file_at, files_shown, in_file, in_files, map_among, mapping_at, numbered_at, place_shown}
use Rattle.hp_lookup.proofs.Cells.{file_is, no_file}
use Rattle.hp_lookup.proofs.Lifting.{at_most}
use Rattle.hp_lookup.proofs.Views.{files_len, map_seen, place_seen, read_is, view}
use Rattle.hp_file.specs.HeldPages.{AreHeld}
use Rattle.hp_file.proofs.Counting.{part_held}
use Rattle.hp_file.specs.States.{IsCopyState}
use Rattle.hp_mount_files.proofs.Lent.{live_shown}

module _ {v w : Files} (same : v ≡ w) (k : ℕ) where
  pub file_here : k < length w.files → k < length v.files
  file_here below = subst (λ (x : Files). k < length x.files) (sym same) below

  module _ (j : ℕ) where
    pub map_here : j < length (file_at w.files k).maps → j < length (file_at v.files k).maps
    map_here below = subst (λ (x : Files). j < length (file_at x.files k).maps) (sym same) below

    pub place_here : (i : ℕ) {p : Place Copy} → place_at (map_among w.files k j) i ≡ p → place_at (map_among v.files k j) i ≡ p
    place_here i is = ap (λ (x : Files). place_at (map_among x.files k j) i) same ∙ is

    pub state_here : (i : ℕ) (state : CopyState) → IsCopyState state (file_at w.files k) (place_at (map_among w.files k j) i)
        → IsCopyState state (file_at v.files k) (place_at (map_among v.files k j) i)
    state_here i state is = subst (λ (x : Files). IsCopyState state (file_at x.files k) (place_at (map_among x.files k j) i)) (sym same) is

-- ---- the file and the map that code reads

some_shown : (s : Store) (p : Place ℕ) → IsSome (copy_of (place_shown s p)) → IsSome (copy_of p)
some_shown s Gone some = some
some_shown s (Live c None) some = some
some_shown s (Live c (Some n)) some = some

-- what the files hold is held
pub all_held : {N : Type 0} (s : Store) (more : ℕ) (fs : List NumberedFile) → IsHeld s more fs → AreHeld {N = N} (λ n. in_files n fs) (record { store = s; more = more })
all_held s more fs h = record { held = λ n. (let all = h.held n in omega (arith, all)); some = h.some; counted = h.counted }

module _ (s : Store) (more : ℕ) (fs : List NumberedFile) {w : Files} (same : view s more fs ≡ w) (k : ℕ) (below : k < length w.files) where
  pub file_inside : k < length fs
  file_inside = (let here : k < length (files_shown s fs) = file_here same k below in let wide = files_len s fs in omega (arith, here, wide))

  module _ (x : NumberedFile) (read : x ≡ slice_index_or fs k x) where
    x_is : x ≡ numbered_at fs k
    x_is = read_is fs k x file_inside read

    -- its pages and copies are held
    pub held_inside : {N : Type 0} → IsHeld s more fs → AreHeld {N = N} (λ n. in_file n x) (record { store = s; more = more })
    held_inside h = part_held (all_held s more fs h)
        (λ n. (let most = at_most (λ (f : NumberedFile). f) (λ f. f) (in_file n) (λ f e. refl) fs k no_file file_inside in let own = ap (in_file n) x_is in omega (arith, most, own)))

    module _ (j : ℕ) (there : j < length (file_at w.files k).maps) where
      pub map_inside : j < length x.maps
      map_inside = grind (arith, common_steps, map_here, file_is, file_inside, length-map, x_is)

      module _ (i : ℕ) where
        place_inside : place_at (map_among w.files k j) i ≡ place_shown s (place_at (mapping_at x j) i)
        place_inside = grind (arith, common_steps, file_here, map_here, get_or_default, map_inside, map_seen, place_seen)

        pub live_inside : is_live (place_at (map_among w.files k j) i) ≡ true → is_live (place_at (mapping_at x j) i) ≡ true
        live_inside live = sym (ap is_live place_inside ∙ live_shown s (place_at (mapping_at x j) i)) ∙ live

        pub copy_inside : IsSome (copy_of (place_at (map_among w.files k j) i)) → IsSome (copy_of (place_at (mapping_at x j) i))
        copy_inside some = some_shown s (place_at (mapping_at x j) i) (subst (λ p. IsSome (copy_of p)) place_inside some)
