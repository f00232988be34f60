use Rattle.std.proofs.lemmas.Grind.{common_steps}
-- A private copy, as code puts it in.
use Rattle.std.proofs.Common.{◌≡◌, ℕ, ◌-◌, ◌<◌, ◌||◌, Bool, true, false, None, Some, List, length, refl, sym, ap, ◌∙◌, arith, slice_set, slice_index_or, IsTrue, flat_map, sum_by}
use Rattle.std.proofs.lemmas.List.{get_or_default, get_or-set_same, length-map, length-set}
use Rattle.hp_mapping.specs.Mapped.{at_place}
use Rattle.hp_laws.proofs.Variants.{Gone, Live, Place}
use Rattle.hp_model.proofs.Words.{Copy, File, Map, Mapping, Page, copy_of, is_among, is_live, place_at, stamps_of, with_map, with_place}
use Rattle.hp_store.specs.Store.{Store, page_at, inserted}
use Rattle.hp_lookup.proofs.Words.{AreLevel, IsHeld, NumberedFile, copied_at, file_at, files_shown, in_file, in_files, in_map, map_among, map_shown, mapping_at, no_mapping, numbered_at, place_shown}
use Rattle.hp_file.specs.Taking.{first_copy}
use Rattle.hp_lookup.proofs.Cells.{inserted_agrees, inserted_is, inserted_more, free_is_fresh, file_is, no_file}
use Rattle.hp_file.proofs.Copies.{with_copy_at, copy_shows, copy_held, number_is_fresh}
use Rattle.hp_file.proofs.Drops.{place_here}
use Rattle.hp_file.proofs.FirstCopy.{live_inside, place_put}
use Rattle.hp_lookup.proofs.Level.{put_level, same_level}
use Rattle.hp_file.proofs.PutLevel.{no_copy_in, put_place}
use Rattle.hp_lookup.proofs.Lifting.{at_most}
use Rattle.hp_lookup.proofs.Views.{view, read_is, files_len, map_seen, place_seen}

bare_is : (s : Store) (p : Place ℕ) (c : Bool) → place_shown s p ≡ Live c None → p ≡ Live c None
bare_is s Gone c e = cc
bare_is s (Live d None) c e = (let same : d ≡ c = cc in ap (λ b. Live b None) same)
bare_is s (Live d (Some n)) c e = cc

module _ (s : Store) (more : ℕ) (fs : List NumberedFile) (h : IsHeld s more fs) (k j i : ℕ) (l : k < length (files_shown s fs))
    (jl : j < length (file_at (files_shown s fs) k).maps) (x : NumberedFile) (read : x ≡ slice_index_or fs k x) where
  pub within : k < length fs
  within = (let same = files_len s fs in omega (arith, l, same))

  pub x_is : x ≡ numbered_at fs k
  x_is = read_is fs k x within read

  f_read : numbered_at fs k ≡ slice_index_or fs k (numbered_at fs k)
  f_read = sym (read_is fs k (slice_index_or fs k (numbered_at fs k)) within (get_or_default fs k (numbered_at fs k) (slice_index_or fs k (numbered_at fs k)) within))

  pub jl_in : j < length (numbered_at fs k).maps
  jl_in = (let same = ap (λ (f : File). length f.maps) (file_is s fs k within) in let long = length-map (numbered_at fs k).maps (map_shown s) in omega (arith, jl, same, long))

  -- the map, and what it shows
  abbrev pub mapping : Mapping ℕ
  mapping = mapping_at (numbered_at fs k) j

  y_read : mapping ≡ slice_index_or (numbered_at fs k).maps j mapping
  y_read = get_or_default (numbered_at fs k).maps j no_mapping mapping jl_in

  pub seen : map_among (files_shown s fs) k j ≡ map_shown s mapping
  seen = map_seen s fs k j l (numbered_at fs k) f_read mapping y_read jl

  pub seen_place : place_at (map_among (files_shown s fs) k j) i ≡ place_shown s (place_at mapping i)
  seen_place = ap (λ (m : Map). place_at m i) seen ∙ place_seen s fs k j l (numbered_at fs k) f_read mapping y_read jl i

  module _ (n : ℕ) (page : Page) (t : Store) (free : page_at s n ≡ None) (below : n < length s.pages) (t_is : t ≡ inserted n page s) where
    pub put_fresh : is_among n (flat_map stamps_of (files_shown s fs)) ≡ false
    put_fresh = number_is_fresh s n fs (free_is_fresh s more fs n h free)

    nowhere : in_files n fs ≡ 0
    nowhere = free_is_fresh s more fs n h free

    -- the number is the copy at the index
    module _ (c : Bool) (g : NumberedFile) (g_is : g ≡ record (numbered_at fs k) { maps = slice_set (numbered_at fs k).maps j (with_copy_at mapping (i - mapping.start) c n) }) where
      pub put_shows : files_shown t (slice_set fs k g) ≡ slice_set (files_shown s fs) k
          (with_map (file_at (files_shown s fs) k) j (with_place (map_among (files_shown s fs) k j) i
          (Live c (Some (record { stamp = n; page = page })))))
      put_shows =
          ap (λ u. files_shown u (slice_set fs k g)) t_is ∙ ap (λ f. files_shown (inserted n page s) (slice_set fs k f)) g_is
          ∙ copy_shows n s (inserted n page s) (inserted_agrees n page s) page (inserted_is n page s below) fs k j (i - mapping.start) c within jl_in nowhere
          ∙ ap (λ (m : Map). slice_set (files_shown s fs) k (with_map (file_at (files_shown s fs) k) j (with_place m i (Live c (Some (record { stamp = n; page = page })))))) (sym seen)

      pub put_levels : is_live (place_at mapping i) ≡ true → AreLevel x.maps → AreLevel g.maps
      put_levels live level =
          let few = at_most (λ (f : NumberedFile). f) (λ f. f) (in_file n) (λ f h. refl) fs k no_file within in
          let none : sum_by (in_map n) (numbered_at fs k).maps ≡ 0 = (let bare = nowhere in omega (arith, few, bare)) in
          same_level (slice_set (numbered_at fs k).maps j (with_copy_at mapping (i - mapping.start) c n)) g.maps (ap (λ (f : NumberedFile). f.maps) g_is)
          (put_level (numbered_at fs k).maps j jl_in (with_copy_at mapping (i - mapping.start) c n) n i (no_copy_in n (numbered_at fs k).maps none) (put_place mapping i n c live)
          (same_level x.maps (numbered_at fs k).maps (ap (λ (f : NumberedFile). f.maps) (sym x_is)) level))

      pub put_in : j < length g.maps
      put_in = (let inside = jl_in in let long = length-set (numbered_at fs k).maps j (with_copy_at mapping (i - mapping.start) c n) in
          let same = ap (λ (f : NumberedFile). length f.maps) g_is in omega (arith, inside, long, same))

      pub put_there : is_live (place_at mapping i) ≡ true → copy_of (place_at (mapping_at g j) i) ≡ Some n
      put_there live = grind (arith, common_steps, get_or-set_same, with_copy_at, jl_in, place_put)

    -- where there was none, and an owner's reservation is consumed
    module _ (g : NumberedFile) (g_is : g ≡ record x {
      maps = slice_set x.maps j (at_place (first_copy (mapping_at x j).owner n) i (mapping_at x j));
    }) (c : Bool)
        (place : place_at (map_among (files_shown s fs) k j) i ≡ Live c None) where
      bare : place_at mapping i ≡ Live c None
      bare = bare_is s (place_at mapping i) c (sym seen_place ∙ place)

      pub live : is_live (place_at mapping i) ≡ true
      live = ap is_live bare

      slot_is : slice_index_or mapping.places (i - mapping.start) Gone ≡ Live c None
      slot_is = sym (place_here mapping i (live_inside mapping i live).0) ∙ bare

      pub put : g ≡ record (numbered_at fs k) { maps = slice_set (numbered_at fs k).maps j (with_copy_at mapping (i - mapping.start) (mapping.owner || c) n) }
      put = grind (arith, common_steps, x_is, bare)

      pub put_view : view t more (slice_set fs k g) ≡ copied_at k j i ((map_among (files_shown s fs) k j).owner || c) n page (view s more fs)
      put_view = grind (arith, common_steps, put_shows, put, view, seen)

      pub put_keeps : 0 < s.room - more → IsHeld t more (slice_set fs k g)
      put_keeps room = grind (arith, common_steps, put, copy_held, inserted_agrees, inserted_is, within, jl_in, nowhere, live_inside, live, slot_is, inserted_more)

      pub put_stays_level : AreLevel x.maps → AreLevel g.maps
      put_stays_level = put_levels (mapping.owner || c) g put live

-- a live place without a copy
pub bare_place : (p : Place Copy) → IsTrue (is_live p) → copy_of p ≡ None → (c : Bool) × (p ≡ Live c None)
bare_place Gone live e = cc
bare_place (Live c None) live e = (c, refl)
bare_place (Live c (Some copy)) live e = cc
