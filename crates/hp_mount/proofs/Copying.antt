use Rattle.std.proofs.lemmas.Grind.{common_steps}
-- What the share and the files keep where a private map gets a copy, or takes one back.
use Rattle.std.proofs.Common.{◌≡◌, ℕ, zero, suc, ◌+◌, ◌<◌, ◌||◌, ◌&&◌, Bool, true, false, Option, None, Some, List, [], ◌∷◌, length, map, max, refl, sym, ap, subst, ◌∙◌, arith, not, slice_set, IsTrue}
use Rattle.std.proofs.Common.{flat_map, sum_by}
use Rattle.std.proofs.lemmas.Bool.{and_parts, or_parts}
use Rattle.std.proofs.lemmas.List.{get_or_default}
use Rattle.hp_laws.proofs.steps.CopyWrites.{copy_parts, takes_back}
use Rattle.hp_laws.proofs.counts.FileMoves.{IsMapAt, copy_consumes, copy_grows}
use Rattle.hp_model.proofs.Distinct.{is_among-append}
use Rattle.hp_laws.proofs.Variants.{Live, Place}
use Rattle.hp_model.proofs.Words.{Copy, File, Map, Mount, Page, file_in, file_pages, is_among, is_held_once, is_unconsumed, map_in, no_map, place_at, robbed, stamps_of, with_file, with_map}
use Rattle.hp_model.proofs.Words.{with_place}
use Rattle.hp_mount_door.specs.Door.{with_granted, with_page}
use Rattle.hp_lookup.proofs.Words.{Files, IsLeft, copied_at, file_at, parted_at, taken_back_at}
use Rattle.hp_file.specs.States.{AreAgreed}
use Rattle.hp_mount_laws.specs.Reach.{has_reserve, with_place_at}
use Rattle.hp_mount_laws.specs.Kept.{IsKept, mount_from}
use Rattle.hp_mount_laws.proofs.Keeping.{grown, grows, mount_left}
use Rattle.hp_mount_laws.proofs.Ways.{fresh_choice, is_fresh}
use Rattle.hp_subpool.specs.Subpool.{Subpool, used}

-- a stamp that no file holds
pub fresh_in : (stamp : ℕ) (fs : List File) (k : ℕ) → k < length fs → is_among stamp (flat_map stamps_of fs) ≡ false → is_among stamp (stamps_of (file_at fs k)) ≡ false
fresh_in stamp [] k l e = absurd (omega (arith, l))
fresh_in stamp (f ∷ fs) zero l e = (or_parts (is_among stamp (stamps_of f)) (is_among stamp (flat_map stamps_of fs)) (sym (is_among-append stamp (stamps_of f) (flat_map stamps_of fs)) ∙ e)).0
fresh_in stamp (f ∷ fs) (suc k) l e = fresh_in stamp fs k (omega (arith, l))
    (or_parts (is_among stamp (stamps_of f)) (is_among stamp (flat_map stamps_of fs))
    (sym (is_among-append stamp (stamps_of f) (flat_map stamps_of fs)) ∙ e)).1

-- the stamp above all is fresh
above : (m : Mount) → is_among (fresh_choice false (Some m)).stamp (flat_map stamps_of m.files) ≡ false
above m = told (is_among (fresh_choice false (Some m)).stamp (flat_map stamps_of m.files)) (is_fresh false (Some m))
  where
    told : (b : Bool) → IsTrue (not b) → b ≡ false
    told true e = cc
    told false e = refl

-- an owner's reservation, or none
pub owes : (m : Map) (i : ℕ) (consumed : Bool) → place_at m i ≡ Live consumed None → has_reserve m i ≡ true → (m.owner ≡ true) × (consumed ≡ false)
owes m i consumed place e = (let parts = and_parts m.owner (is_unconsumed (place_at m i)) e in (parts.0, either consumed (ap is_unconsumed (sym place) ∙ parts.1)))
  where
    either : (b : Bool) → is_unconsumed {C = Copy} (Live b None) ≡ true → b ≡ false
    either true e = cc
    either false e = refl

pub owes_nothing : (m : Map) (i : ℕ) (consumed : Bool) → place_at m i ≡ Live consumed None → has_reserve m i ≡ false → (m.owner || consumed) ≡ consumed
owes_nothing m i consumed place e = either m.owner consumed (ap (λ p. m.owner && is_unconsumed p) (sym place) ∙ e)
  where
    either : (a b : Bool) → (a && is_unconsumed {C = Copy} (Live b None)) ≡ false → (a || b) ≡ b
    either true true e = refl
    either true false e = cc
    either false b e = refl

-- The mount is `m` as a caller sees it, and `mount_of s inodes v.files` as its fields show it.
module _ (s : Subpool) (v : Files) (inodes : Option ℕ) (m : Mount) (c : IsKept s v (mount_from s inodes v.files)) (view : mount_from s inodes v.files ≡ m)
    (k j i : ℕ) (file : k < length m.files) (inside : j < length (file_in m k).maps) where
  abbrev f : File
  f = file_at v.files k

  abbrev y : Map
  y = map_in f j

  l : k < length v.files
  l = subst (λ (x : Mount). k < length x.files) (sym view) file

  here : IsMapAt f j y
  here = (let jl = subst (λ (x : Mount). j < length (file_in x k).maps) (sym view) inside in record { within = jl; is = λ d. get_or_default f.maps j d no_map jl })

  -- what is left is the mount with the copy
  pub placed_left : (p : Place Copy) (new : Subpool) (w : Files) → new.max ≡ s.max → new.min ≡ s.min →
      w.files ≡ slice_set v.files k (with_map f j (with_place y i p)) → mount_from new inodes w.files ≡ with_place_at m k j i p
  placed_left p new w max_is min_is files = mount_left s new inodes (slice_set v.files k (with_map f j (with_place y i p))) w.files max_is min_is
      files ∙ ap (λ (x : Mount). with_place_at x k j i p) view

  -- a reservation of an owner is held
  pub owner_held : (consumed : Bool) → place_at y i ≡ Live consumed None → has_reserve y i ≡ true → 0 < s.held
  owner_held consumed place e = grind (arith, common_steps, owes, fresh_choice, above, grows, l, copy_consumes, here, fresh_in)

  -- a first copy by the owner's reservation
  module _ (stamp : ℕ) (page : Page) (fresh : is_among stamp (flat_map stamps_of v.files) ≡ false) (consumed : Bool) (place : place_at y i ≡ Live consumed None) (new : Subpool) (w : Files) where
    abbrev copy : Copy
    copy = record { stamp = stamp; page = page }

    fresh_here : is_among stamp (stamps_of f) ≡ false
    fresh_here = fresh_in stamp v.files k l fresh

    pub reserved_kept : has_reserve y i ≡ true → new ≡ with_page s → w ≡ copied_at k j i (y.owner || consumed) stamp page v → IsKept new w (mount_from new inodes w.files)
    reserved_kept e new_is w_is = grind (arith, common_steps, owes, owner_held, grown, l, copy_consumes, here, fresh_here)

    pub reserved_left : has_reserve y i ≡ true → new ≡ with_page s → w ≡ copied_at k j i (y.owner || consumed) stamp page v →
        mount_from new inodes w.files ≡ with_place_at m k j i (Live true (Some copy))
    reserved_left e new_is w_is = placed_left (Live true (Some copy)) new w (ap (λ (x : Subpool). x.max) new_is) (ap (λ (x : Subpool). x.min) new_is)
        (ap (λ (x : Files). x.files) w_is ∙ ap (λ b. slice_set v.files k (with_map f j (with_place y i (Live (b || consumed) (Some copy))))) (owes y i consumed place e).0)

    -- by a grant
    module _ (spare : ℕ) (none : has_reserve y i ≡ false) (new_is : new ≡ with_granted s) (w_is : w ≡ copied_at k j i (y.owner || consumed) stamp page (record v { room = max v.room spare })) where
      files_are : w.files ≡ slice_set v.files k (with_map f j (with_place y i (Live consumed (Some copy))))
      files_are = ap (λ (x : Files). x.files) w_is ∙ ap (λ b. slice_set v.files k (with_map f j (with_place y i (Live b (Some copy))))) (owes_nothing y i consumed place none)

      pub granted_kept : s.held < spare → IsKept new w (mount_from new inodes w.files)
      granted_kept enough = grind (arith, common_steps, grown, l, copy_grows, here, fresh_here, files_are)

      pub granted_left : mount_from new inodes w.files ≡ with_place_at m k j i (Live consumed (Some copy))
      granted_left = placed_left (Live consumed (Some copy)) new w (ap (λ (x : Subpool). x.max) new_is) (ap (λ (x : Subpool). x.min) new_is) files_are

  -- a copy that several maps hold
  module _ (consumed : Bool) (old : Copy) (place : place_at y i ≡ Live consumed (Some old)) (agreed : AreAgreed f) (new : Subpool) (w : Files) where
    module _ (stamp : ℕ) (page : Page) (fresh : is_among stamp (flat_map stamps_of v.files) ≡ false) (several : is_held_once f old.stamp ≡ false)
        (new_is : new ≡ with_granted s) (w_is : w ≡ parted_at k j i consumed stamp page v) where
      pub parted_kept : IsKept new w (mount_from new inodes w.files)
      parted_kept =
          let held_is = ap (λ (x : Subpool). x.held) new_is in
          let pages_is = ap (λ (x : Subpool). x.pages) new_is in
          let room_is = ap (λ (x : Files). x.room) w_is in
          let room = c.room in
          let copy : Copy = record { stamp = stamp; page = page } in
          grown s v inodes c k l new w (with_map f j (with_place y i (Live consumed (Some copy)))) page.node 1 1
          (copy_parts f j y i consumed old copy here place agreed several (fresh_in stamp v.files k l fresh)) (ap (λ (x : Subpool). x.max) new_is) (ap (λ (x : Subpool). x.min) new_is)
          pages_is (omega (arith, held_is, pages_is)) (omega (arith, held_is, room_is, room)) (ap (λ (x : Files). x.going) w_is) (ap (λ (x : Files). x.files) w_is)

      pub parted_left : mount_from new inodes w.files ≡ with_place_at m k j i (Live consumed (Some (record { stamp = stamp; page = page })))
      parted_left = placed_left (Live consumed (Some (record { stamp = stamp; page = page }))) new w (ap (λ (x : Subpool). x.max) new_is)
          (ap (λ (x : Subpool). x.min) new_is) (ap (λ (x : Files). x.files) w_is)

    module _ (new_is : new ≡ s) (files : w.files ≡ taken_back_at k j old.stamp v.files) (left : IsLeft 0 v w) where
      abbrev g : File
      g = with_map (record f { maps = map (robbed old.stamp) f.maps }) j y

      pub back_kept : IsKept new w (mount_from new inodes w.files)
      back_kept =
          let grew = takes_back f j y i consumed old here place agreed in
          let all = grows s v inodes c k l g 0 0 0 grew in
          let same = all.pages in
          let pages = left.pages ∙ ap (λ gone. length gone + sum_by file_pages v.files) c.going in
          let shown = ap (sum_by file_pages) files in
          let none : length w.going ≡ 0 = omega (arith, pages, shown, same) in
          let more = left.room in
          let room = c.room in
          let held_is = ap (λ (x : Subpool). x.held) new_is in
          let pages_is = ap (λ (x : Subpool). x.pages) new_is in
          let used_is = ap used new_is in
          grown s v inodes c k l new w g 0 0 0 grew (ap (λ (x : Subpool). x.max) new_is) (ap (λ (x : Subpool). x.min) new_is)
          (omega (arith, pages_is)) (omega (arith, used_is)) (omega (arith, held_is, more, room)) (nothing w.going none ∙ sym c.going) files
        where
          nothing : (ps : List Page) → length ps ≡ 0 → ps ≡ []
          nothing [] e = refl
          nothing (p ∷ ps) e = absurd (omega (arith, e))

      pub back_left : mount_from new inodes w.files ≡ with_file m k (with_map (record (file_in m k) { maps = map (robbed old.stamp) (file_in m k).maps }) j (map_in (file_in m k) j))
      back_left = mount_left s new inodes (slice_set v.files k g) w.files (ap (λ (x : Subpool). x.max) new_is) (ap (λ (x : Subpool). x.min) new_is) files
          ∙ ap (λ (x : Mount). with_file x k (with_map (record (file_in x k) { maps = map (robbed old.stamp) (file_in x k).maps }) j (map_in (file_in x k) j))) view
