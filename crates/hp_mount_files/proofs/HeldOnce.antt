-- A copy that one map alone holds, as code leaves it.
use Rattle.std.proofs.Common.{◌≡◌, ℕ, ◌-◌, ◌<◌, ◌||◌, Bool, true, None, Some, List, length, sym, ap, ◌∙◌, arith, slice_index_or, slice_set}
use Rattle.std.proofs.lemmas.Bool.{eq-eqb}
use Rattle.std.proofs.lemmas.List.{get_or-set_same, length-map, length-set}
use Rattle.hp_mapping.specs.Mapped.{at_place}
use Rattle.hp_laws.proofs.Variants.{Live}
use Rattle.hp_model.proofs.Words.{File, Page, copy_of, place_at}
use Rattle.hp_store.specs.Store.{Store, holders_of, inserted, page_at}
use Rattle.hp_lookup.specs.declared.copy_state.CopyState.TheVariants as state
use Rattle.hp_lookup.proofs.Words.{IsHeld, NumberedFile, copy_shown, file_at, file_shown, files_shown, map_among, map_shown, mapping_at}
use Rattle.hp_file.specs.States.{IsCopyState}
use Rattle.hp_file.specs.Taking.{first_copy}
use Rattle.hp_lookup.proofs.Cells.{file_is, inserted_is, no_file}
use Rattle.hp_mount_files.proofs.CopyHeld.{copy_there, held_once, map_reads}
use Rattle.hp_file.proofs.PutCopy.{live, mapping, put, put_in, put_keeps, put_there, within}
use Rattle.hp_lookup.proofs.Views.{files_len}

-- ---- the file that code leaves

pub once_left : (t : Store) (now : ℕ) (fs : List NumberedFile) (k j i : ℕ) (g : NumberedFile) (n : ℕ) → IsHeld t now (slice_set fs k g) →
    k < length fs → j < length g.maps → copy_of (place_at (mapping_at g j) i) ≡ Some n → holders_of (page_at t n) ≡ 1
    → IsCopyState state.HeldOnce (file_at (files_shown t (slice_set fs k g)) k) (place_at (map_among (files_shown t (slice_set fs k g)) k j) i)
once_left t now fs k j i g n h within jg there one =
    let gs : List NumberedFile = slice_set fs k g in
    let long = length-set fs k g in
    let wide = files_len t gs in
    let l : k < length (files_shown t gs) = omega (arith, within, long, wide) in
    let read : g ≡ slice_index_or gs k g = sym (get_or-set_same fs k g g within) in
    let here : file_at (files_shown t gs) k ≡ file_shown t g = file_is t gs k (omega (arith, within, long)) ∙ ap (file_shown t) (get_or-set_same fs k g no_file within) in
    let maps = ap (λ (f : File). length f.maps) here ∙ length-map g.maps (map_shown t) in
    let jl : j < length (file_at (files_shown t gs) k).maps = omega (arith, jg, maps) in
    let reads = map_reads t now gs h k j i l jl g read in (
      copy_shown t n,
      copy_there t now gs h k j i l jl g read (mapping_at g j) reads n there,
      held_once t now gs h k j i l jl g read (mapping_at g j) reads n there true (eq-eqb (holders_of (page_at t n)) 1 one),
    )

-- a copy that is put in where there was none
module _ (s : Store) (more : ℕ) (fs : List NumberedFile) (h : IsHeld s more fs) (k j i : ℕ) (l : k < length (files_shown s fs))
    (jl : j < length (file_at (files_shown s fs) k).maps) (x : NumberedFile) (read : x ≡ slice_index_or fs k x) (n : ℕ) (page : Page) (t : Store)
    (free : page_at s n ≡ None) (below : n < length s.pages) (t_is : t ≡ inserted n page s)
    (g : NumberedFile) (g_is : g ≡ record x { maps = slice_set x.maps j (at_place (first_copy (mapping_at x j).owner n) i (mapping_at x j)) })
    (c : Bool) (place : place_at (map_among (files_shown s fs) k j) i ≡ Live c None) where
  pub put_once : 0 < s.room - more → IsCopyState state.HeldOnce (file_at (files_shown t (slice_set fs k g)) k) (place_at (map_among (files_shown t (slice_set fs k g)) k j) i)
  put_once room =
      let owned : Bool = (mapping s more fs h k j i l jl x read).owner || c in
      let is = put s more fs h k j i l jl x read n page t free below t_is g g_is c place in
      once_left t more fs k j i g n (put_keeps s more fs h k j i l jl x read n page t free below t_is g g_is c place room) (within s more fs h k j i l jl x read)
      (put_in s more fs h k j i l jl x read n page t free below t_is owned g is)
      (put_there s more fs h k j i l jl x read n page t free below t_is owned g is (live s more fs h k j i l jl x read n page t free below t_is g g_is c place))
      (ap (λ (u : Store). holders_of (page_at u n)) t_is ∙ ap holders_of (inserted_is n page s below))
