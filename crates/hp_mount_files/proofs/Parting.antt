use Rattle.std.proofs.lemmas.Grind.{common_steps}
-- A map parts from the others that hold its copy: it gets a page of its own.
use Rattle.std.proofs.Common.{◌≡◌, ◌≢◌, ℕ, ◌+◌, ◌-◌, ◌<◌, ◌==◌, Bool, true, false, cond, Option, None, Some, List, [], ◌∷◌, ◌++◌, zero, suc, length, refl, sym, ap, subst, ◌∙◌, arith, slice_index_or}
use Rattle.std.proofs.Common.{slice_set, count_by}
use Rattle.std.proofs.lemmas.Bool.{eqb-false}
use Rattle.std.proofs.lemmas.Bool.Decides.{eqb_tells, nat_tests}
use Rattle.std.proofs.lemmas.List.{get_or_default}
use Rattle.hp_mapping.specs.Mapped.{at_place, with_copy}
use Rattle.hp_laws.proofs.Variants.{Gone, Live, Place}
use Rattle.hp_model.proofs.Words.{Copy, Mapping, Page, copy_of, is_live, place_at, stamps_of}
use Rattle.hp_store.specs.Store as store
use Rattle.hp_store.specs.Store.{Holding, Store, holders_of, inserted, page_at}
use Rattle.hp_lookup.specs.declared.copy_state.CopyState.TheVariants as state
use Rattle.hp_lookup.proofs.Words.{AreLevel, IsDropping, IsHeld, NumberedFile, file_at, files_shown, in_place, map_among, mapping_at, more_in, numbered_at, parted_at, place_shown}
use Rattle.hp_file.specs.States.{IsCopyState}
use Rattle.hp_lookup.proofs.Cells.{free_is_fresh, no_file, inserted_agrees, inserted_is, inserted_more, some_put}
use Rattle.hp_file.proofs.Copies.{fresh_stands, with_copy_at}
use Rattle.hp_mount_files.proofs.CopyHeld.{holders_counted, in_maps, map_reads, number_there, stamp_there}
use Rattle.hp_file.proofs.Drops.{drop_more, drop_next, drop_start, one_at, place_here}
use Rattle.hp_file.proofs.FirstCopy.{live_inside}
use Rattle.hp_mount_files.proofs.HeldOnce.{once_left}
use Rattle.hp_lookup.proofs.Lifting.{is_it, is_other}
use Rattle.hp_file.proofs.Placing.{place_held}
use Rattle.hp_file.proofs.PutCopy.{jl_in, mapping, put_in, put_levels, put_there, put_shows, seen_place, within, x_is}
use Rattle.hp_lookup.proofs.Staying.{files_stay}
use Rattle.hp_lookup.proofs.Views.{files_len, view}

shown_live : (s : Store) (p : Place ℕ) (c : Bool) (copy : Copy) (q : ℕ) → copy_of p ≡ Some q → place_shown s p ≡ Live c (Some copy) → p ≡ Live c (Some q)
shown_live s Gone c copy q there e = cc
shown_live s (Live d None) c copy q there e = cc
shown_live s (Live d (Some r)) c copy q there e = (let same : d ≡ c = cc in ap (λ b. Live b (Some r)) same ∙ ap (λ o. Live c o) there)

-- no page goes with one holder of several
going_stays : (q : ℕ) (s : Store) → 1 < holders_of (page_at s q) → (store.dropped q s).going ≡ s.going
going_stays q s two = by (page_at s q) two
  where
    either : (h : Holding) (b : Bool) → (h.holders == 1) ≡ b → 1 < h.holders → (store.dropped_by q (Some h) s).going ≡ s.going
    either h true e l = (let one : h.holders ≡ 1 = grind (arith, nat_tests, e) in absurd (omega (arith, one, l)))
    either h false e l = ap (λ b. (cond b (record (store.with_page q None s) { going = s.going ++ store.held_page h ∷ [] }) (store.with_page q (Some (store.held_once_less h)) s)).going) e

    by : (o : Option Holding) → 1 < holders_of o → (store.dropped_by q o s).going ≡ s.going
    by None l = refl
    by (Some h) l = either h (h.holders == 1) refl l

module _ (s : Store) (more : ℕ) (fs : List NumberedFile) (h : IsHeld s more fs) (k j i : ℕ) (l : k < length (files_shown s fs))
    (jl : j < length (file_at (files_shown s fs) k).maps) (x : NumberedFile) (read : x ≡ slice_index_or fs k x)
    (several : IsCopyState state.HeldBySeveral (file_at (files_shown s fs) k) (place_at (map_among (files_shown s fs) k j) i)) where
  abbrev m : Mapping ℕ
  m = mapping s more fs h k j i l jl x read

  x_there : mapping_at x j ≡ m
  x_there = ap (λ (f : NumberedFile). mapping_at f j) (x_is s more fs h k j i l jl x read)

  abbrev map_read : mapping_at x j ≡ slice_index_or x.maps j (mapping_at x j)
  map_read = map_reads s more fs h k j i l jl x read

  -- the number of the copy
  pub number : (q : ℕ) × (copy_of (place_at (mapping_at x j) i) ≡ Some q)
  number = number_there s more fs h k j i l jl x read several.0 several.1

  module _ (q : ℕ) (there : copy_of (place_at (mapping_at x j) i) ≡ Some q) where
    same_stamp : several.0.stamp ≡ q
    same_stamp = stamp_there s more fs h k j i l jl x read (mapping_at x j) map_read q there several.0 several.1

    pub two : 1 < holders_of (page_at s q)
    two =
        let all = holders_counted s more fs h k j i l jl x read (mapping_at x j) map_read q there in
        let other : (count_by (λ n. n == q) (stamps_of (file_at (files_shown s fs) k)) == 1) ≡ false =
        ap (λ r. count_by (λ n. n == r) (stamps_of (file_at (files_shown s fs) k)) == 1) (sym same_stamp) ∙ several.2 in
        let not_one : count_by (λ n. n == q) (stamps_of (file_at (files_shown s fs) k)) ≢ 1 = differs _ other in
        let inside = within s more fs h k j i l jl x read in
        let maps = in_maps s more fs h k j i l jl x read (mapping_at x j) map_read q there in
        let had = h.held q in
        let one = h.apart q k inside (omega (arith, maps)) in
        more_than_one (holders_of (page_at s q)) (omega (arith, had, one, maps)) (λ e. not_one (sym all ∙ e))
      where
        differs : (n : ℕ) → (n == 1) ≡ false → n ≢ 1
        differs n e = eqb-false n 1 e

        more_than_one : (n : ℕ) → 0 < n → n ≢ 1 → 1 < n
        more_than_one zero l other = absurd (omega (arith, l))
        more_than_one (suc zero) l other = absurd (other refl)
        more_than_one (suc (suc n)) l other = omega arith

    pub some_more : 0 < more
    some_more = grind (arith, common_steps, two, drop_more)

    module _ (n : ℕ) (page : Page) (u : Store) (free : page_at s n ≡ None) (below : n < length s.pages) (u_is : u ≡ inserted n page s) where
      pub still_there : 0 < holders_of (page_at u q)
      still_there = grind (arith, common_steps, two, inserted_agrees)

    module _ (n : ℕ) (page : Page) (u : Store) (free : page_at s n ≡ None) (below : n < length s.pages) (u_is : u ≡ inserted n page s)
        (g : NumberedFile) (g_is : g ≡ record x { maps = slice_set x.maps j (at_place (with_copy n) i (mapping_at x j)) })
        (t : Store) (t_is : t ≡ store.dropped q u) (now : ℕ) (counted : now ≡ more_in t.pages) where
      abbrev v : Store
      v = inserted n page s

      abbrev gs : List NumberedFile
      gs = slice_set fs k g

      apart_numbers : q ≢ n
      apart_numbers e = (let count = two in let none = ap (λ r. holders_of (page_at s r)) e ∙ ap holders_of free in absurd (omega (arith, count, none)))

      same_there : holders_of (page_at v q) ≡ holders_of (page_at s q)
      same_there = ap holders_of (inserted_agrees n page s q apart_numbers)

      two_still : 1 < holders_of (page_at v q)
      two_still = (let count = two in let same = same_there in omega (arith, count, same))

      t_of : t ≡ store.dropped q v
      t_of = t_is ∙ ap (store.dropped q) u_is

      d : IsDropping (one_at q) (λ r. 0) v t
      d = drop_next (one_at q) (one_at q) (λ r. 0) v v (drop_start (one_at q) v (some_put n s v (inserted_agrees n page s) page (inserted_is n page s below) h.some)) q
          (let one = is_it q in let count = two_still in omega (arith, one, count)) (λ r. omega arith) t t_of

      put_one : (r : ℕ) → holders_of (page_at v r) ≡ holders_of (page_at s r) + in_place r (Live true (Some n))
      put_one r = grind (arith, common_steps, inserted_is, is_it, inserted_agrees, is_other, eqb_tells)

      one_less : now + 1 ≡ more
      one_less = grind (arith, common_steps, two_still, drop_more, t_of, inserted_more)

      module _ (c : Bool) (copy : Copy) (place : place_at (map_among (files_shown s fs) k j) i ≡ Live c (Some copy)) where
        place_is : place_at m i ≡ Live c (Some q)
        place_is = shown_live s (place_at m i) c copy q (ap (λ y. copy_of (place_at y i)) (sym x_there) ∙ there) (sym (seen_place s more fs h k j i l jl x read) ∙ place)

        live : is_live (place_at m i) ≡ true
        live = ap is_live place_is

        put : g ≡ record (numbered_at fs k) { maps = slice_set (numbered_at fs k).maps j (with_copy_at m (i - m.start) c n) }
        put = g_is ∙ ap (λ (f : NumberedFile). record f { maps = slice_set f.maps j (at_place (with_copy n) i (mapping_at f j)) }) (x_is s more fs h k j i l jl x read)
            ∙ ap (λ p. record (numbered_at fs k) { maps = slice_set (numbered_at fs k).maps j (record m { places = slice_set m.places (i - m.start) (with_copy n p) }) }) place_is

        slot_is : slice_index_or m.places (i - m.start) Gone ≡ Live c (Some q)
        slot_is = sym (place_here m i (live_inside m i live).0) ∙ place_is

        pub part_keeps : IsHeld t now gs
        part_keeps =
            let parts = h.parts in
            let less = one_less in
            let room = d.room in
            let inner = within s more fs h k j i l jl x read in
            subst (λ f. IsHeld t now (slice_set fs k f)) (sym put)
            (place_held fs k j (i - m.start) inner (jl_in s more fs h k j i l jl x read) (live_inside m i live).1 (Live c (Some n)) s t more now h
            (λ r. (let had = d.held r in let one = put_one r in let was = ap (in_place r) slot_is in omega (arith, had, one, was)))
            d.some (fresh_stands n fs k inner (free_is_fresh s more fs n h free) c) counted (omega (arith, parts, less, room)))

        pub part_view : view t now gs ≡ parted_at k j i c n page (view s more fs)
        part_view =
            let stay : files_shown t gs ≡ files_shown v gs = files_stay v t gs (λ r some. d.same r (let same = part_keeps.held r in omega (arith, same, some))) in
            let going : t.going ≡ s.going = ap (λ (z : Store). z.going) t_of ∙ going_stays q v two_still in
            let less = one_less in
            let parts = h.parts in
            let room = d.room in
            let left : t.room - now ≡ s.room - more = omega (arith, less, parts, room) in
            ap (λ xs. record { files = xs; going = t.going; room = t.room - now }) (stay ∙ put_shows s more fs h k j i l jl x read n page v free below refl c g put)
            ∙ ap (λ gone. record { files = (parted_at k j i c n page (view s more fs)).files; going = gone; room = t.room - now }) going
            ∙ ap (λ r. record { files = (parted_at k j i c n page (view s more fs)).files; going = s.going; room = r }) left

        pub part_levels : AreLevel x.maps → AreLevel g.maps
        part_levels = put_levels s more fs h k j i l jl x read n page v free below refl c g put live

        pub part_once : IsCopyState state.HeldOnce (file_at (files_shown t gs) k) (place_at (map_among (files_shown t gs) k j) i)
        part_once =
            let had = d.held n in
            let none = is_other q n apart_numbers in
            let one = ap holders_of (inserted_is n page s below) in
            once_left t now fs k j i g n part_keeps (within s more fs h k j i l jl x read) (put_in s more fs h k j i l jl x read n page v free below refl c g put)
            (put_there s more fs h k j i l jl x read n page v free below refl c g put live) (omega (arith, had, none, one))

-- there is room for its page
pub room_there : (s : Store) (more : ℕ) (fs : List NumberedFile) (h : IsHeld s more fs) (k j i : ℕ) → k < length (files_shown s fs) → j < length (file_at (files_shown s fs) k).maps
    → IsCopyState state.HeldBySeveral (file_at (files_shown s fs) k) (place_at (map_among (files_shown s fs) k j) i) → 0 < s.room
room_there s more fs h k j i l jl several =
    let long = files_len s fs in
    let x : NumberedFile = numbered_at fs k in
    let read : x ≡ slice_index_or fs k x = get_or_default fs k no_file x (omega (arith, l, long)) in
    let q = number s more fs h k j i l jl x read several in
    let some = some_more s more fs h k j i l jl x read several q.0 q.1 in
    let parts = h.parts in
    omega (arith, some, parts)
