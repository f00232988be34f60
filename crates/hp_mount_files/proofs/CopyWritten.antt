-- Bytes are written into a copy that one map alone holds.
use Rattle.std.proofs.Common.{◌≡◌, ℕ, ◌-◌, ◌<◌, ◌==◌, Some, List, length, map, refl, sym, ap, subst, ◌∙◌, arith, slice_index_or, slice_set, count_by}
use Rattle.std.proofs.lemmas.Bool.{eqb-true}
use Rattle.hp_laws.proofs.Variants.{Gone, Live, Place}
use Rattle.hp_model.proofs.Words.{File, Map, Mapping, copy_of, place_at, place_written, stamps_of, with_map, with_place}
use Rattle.hp_store.specs.Store.{Holding, Store, holders_of, page_at}
use Rattle.hp_store.specs.Store as store
use Rattle.hp_lookup.specs.declared.copy_state.CopyState.TheVariants as state
use Rattle.hp_lookup.proofs.Words.{IsHeld, NumberedFile, cell_shown, file_at, file_shown, files_shown, in_cell, in_file, in_map, in_place, map_among, map_shown, no_mapping, numbered_at, page_in}
use Rattle.hp_lookup.proofs.Words.{place_shown, placed_at}
use Rattle.hp_file.specs.States.{IsCopyState}
use Rattle.hp_lookup.proofs.Cells as cells
use Rattle.hp_lookup.proofs.Cells.{file_is, no_file, write_agrees, write_held}
use Rattle.hp_mount_files.proofs.CopyHeld.{holders_counted, stamp_there, y_is}
use Rattle.hp_file.proofs.Drops.{live_copy, place_here, place_inside}
use Rattle.hp_lookup.proofs.Lifting.{at_most, cell_same, file_same, is_it, map_but, map_same, map_shows_same, place_same}
use Rattle.hp_file.proofs.PutCopy.{jl_in, mapping, seen, seen_place, within}
use Rattle.hp_lookup.proofs.Views.{some_of, some_within, view}

module _ (s : Store) (more : ℕ) (fs : List NumberedFile) (h : IsHeld s more fs) (k j i : ℕ) (l : k < length (files_shown s fs))
    (jl : j < length (file_at (files_shown s fs) k).maps) (x : NumberedFile) (read : x ≡ slice_index_or fs k x) (y : Mapping ℕ)
    (map_read : y ≡ slice_index_or x.maps j y)
    (n : ℕ) (there : copy_of (place_at y i) ≡ Some n) (once : IsCopyState state.HeldOnce (file_at (files_shown s fs) k) (place_at (map_among (files_shown s fs) k j) i)) where
  same_stamp : once.0.stamp ≡ n
  same_stamp = stamp_there s more fs h k j i l jl x read y map_read n there once.0 once.1

  pub copy_alone : holders_of (page_at s n) ≡ 1
  copy_alone =
      let counted : count_by (λ q. q == once.0.stamp) (stamps_of (file_at (files_shown s fs) k)) ≡ 1 = eqb-true _ 1 once.2 in
      holders_counted s more fs h k j i l jl x read y map_read n there ∙ ap (λ m. count_by (λ q. q == m) (stamps_of (file_at (files_shown s fs) k))) (sym same_stamp) ∙ counted

  holding : (some : Holding) × (page_at s n ≡ Some some)
  holding = some_of (page_at s n) copy_alone

  abbrev some : Holding
  some = holding.0

  abbrev is : page_at s n ≡ Some some
  is = holding.1

  below : n < length s.pages
  below = some_within s.pages n some is

  module _ (offset : ℕ) (bytes : List ℕ) (t : Store) (t_is : t ≡ store.overwritten n offset bytes s) where
    pub copy_write_keeps : IsHeld t more fs
    copy_write_keeps = subst (λ u. IsHeld u more fs) (sym t_is) (write_held n s offset bytes some is below more fs h)

    abbrev u : Store
    u = store.overwritten n offset bytes s

    abbrev f : NumberedFile
    f = numbered_at fs k

    abbrev m : Mapping ℕ
    m = mapping s more fs h k j i l jl x read

    abbrev o : ℕ
    o = i - m.start

    here : copy_of (place_at m i) ≡ Some n
    here = ap (λ m. copy_of (place_at m i)) (sym (y_is s more fs h k j i l jl x read y map_read)) ∙ there

    inside : o < length m.places
    inside = (place_inside m i n here).0

    written_place : (p : Place ℕ) → copy_of p ≡ Some n → place_shown u p ≡ place_written offset bytes (place_shown s p)
    written_place p e =
        let live = live_copy p n e in
        let now : page_at u n ≡ Some (store.written_in offset bytes some) = now_is in
        ap (place_shown u) live.1 ∙ ap (λ h. Live live.0 (Some (record { stamp = n; page = page_in h }))) now
        ∙ ap (λ h. place_written offset bytes (Live live.0 (Some (record { stamp = n; page = page_in h })))) (sym is) ∙ ap (λ p. place_written offset bytes (place_shown s p)) (sym live.1)
      where
        now_is : page_at u n ≡ Some (store.written_in offset bytes some)
        now_is = cells.now_is n s offset bytes some is below

    shows : files_shown u fs ≡ (placed_at k j i (place_written offset bytes (place_at (map_among (files_shown s fs) k j) i)) (view s more fs)).files
    shows =
        let agree = write_agrees n s offset bytes some is below in
        let inner = within s more fs h k j i l jl x read in
        let jl' = jl_in s more fs h k j i l jl x read in
        let at = place_inside m i n here in
        let one = ap (in_place n) (live_copy (slice_index_or m.places o Gone) n at.1).1 ∙ is_it n in
        let place_most = at_most (λ (p : Place ℕ). p) (λ p. p) (in_place n) (λ p h. refl) m.places o Gone at.0 in
        let map_most = at_most (λ (m : Mapping ℕ). m) (λ m. m) (in_map n) (λ m h. refl) f.maps j no_mapping jl' in
        let file_most = at_most (λ (f : NumberedFile). f) (λ f. f) (in_file n) (λ f h. refl) fs k no_file inner in
        let all = sym (h.held n) ∙ copy_alone in
        let places = map_but (place_shown s) (place_shown u) (in_place n) (place_same n s u agree) m.places o Gone at.0 (omega (arith, one, place_most, map_most, file_most, all)) in
        let maps = map_but (map_shown s) (map_shown u) (in_map n) (map_shows_same n s u agree) f.maps j no_mapping jl' (omega (arith, one, place_most, map_most, file_most, all)) in
        let bare = map_same (cell_shown s) (cell_shown u) (in_cell n) (cell_same n s u agree) f.cells (omega (arith, one, place_most, map_most, file_most, all)) in
        let files = map_but (file_shown s) (file_shown u) (in_file n) (file_same n s u agree) fs k no_file inner (omega (arith, one, place_most, map_most, file_most, all)) in
        let place_now : place_shown u (slice_index_or m.places o Gone) ≡ place_written offset bytes (place_shown s (place_at m i)) =
        ap (place_shown u) (sym (place_here m i at.2)) ∙ written_place (place_at m i) here in
        let map_now : map_shown u m ≡ with_place (map_shown s m) i (place_written offset bytes (place_at (map_among (files_shown s fs) k j) i)) =
        ap (λ ps. record (map_shown s m) { places = ps }) (places ∙ ap (slice_set (map (place_shown s) m.places) o)
        (place_now ∙ ap (place_written offset bytes) (sym (seen_place s more fs h k j i l jl x read)))) in
        let file_now : file_shown u f ≡ with_map (file_shown s f) j (with_place (map_among (files_shown s fs) k j) i (place_written offset bytes (place_at (map_among (files_shown s fs) k j) i))) =
        ap (λ cs. record { name = f.name; cells = cs; maps = map (map_shown u) f.maps }) bare
        ∙ ap (λ ms. record (file_shown s f) { maps = ms }) (maps ∙ ap (slice_set (map (map_shown s) f.maps) j)
        (map_now ∙ ap (λ (q : Map). with_place q i (place_written offset bytes (place_at (map_among (files_shown s fs) k j) i)))
        (sym (seen s more fs h k j i l jl x read)))) in
        files ∙ ap (slice_set (files_shown s fs) k) (file_now ∙ ap (λ (g : File).
        with_map g j (with_place (map_among (files_shown s fs) k j) i (place_written offset bytes (place_at (map_among (files_shown s fs) k j) i))))
        (sym (file_is s fs k inner)))

    pub copy_write_view : view t more fs ≡ placed_at k j i (place_written offset bytes (place_at (map_among (files_shown s fs) k j) i)) (view s more fs)
    copy_write_view = ap (λ u. view u more fs) t_is ∙ ap (λ xs. record { files = xs; going = s.going; room = s.room - more }) shows
