use Rattle.std.proofs.lemmas.Grind.{common_steps}
-- What a mount keeps, through each change of its files.
use Rattle.std.proofs.Common.{◌≡◌, ℕ, zero, suc, ◌+◌, ◌<◌, ◌≤◌, max, Bool, Option, List, [], ◌∷◌, ◌++◌, length, None, refl, sym, ap, ◌∙◌, arith, rules, slice_set}
use Rattle.std.proofs.lemmas.List.{get_or_default, get_or-set_same, length-append, length-set}
use Rattle.hp_mount_door.specs.Door.{with_page, with_granted, with_reserves}
use Rattle.hp_laws.proofs.Variants.{Cell, Entered, Hole, Present, Reserving, Sharing}
use Rattle.hp_model.proofs.Words.{File, Mount, Page, asked, cell_at, file_in, mapped, most_files, new_file, with_cell, with_file, with_new}
use Rattle.hp_model.specs.pool.Grant as grant
use Rattle.hp_laws.proofs.counts.OneMapMore.{mapped_grows}
use Rattle.hp_laws.proofs.counts.FileMoves as moves
use Rattle.hp_laws.proofs.counts.FileMoves.{FileGrows}
use Rattle.hp_laws.proofs.counts.MountMoves.{MountGrows, IsFileAt, file_grows, new_grows}
use Rattle.hp_lookup.specs.declared.next_map.MapRange.{MapRange}
use Rattle.hp_lookup.proofs.Words.{Files, file_at, filled_at, mapped_at, wants, with_anon, with_cell_at}
use Rattle.hp_mount_laws.specs.Kept.{IsKept, mount_from}
use Rattle.hp_subpool.specs.Subpool as share
use Rattle.hp_subpool.specs.Subpool.{Subpool, used}
use Rattle.hp_lookup.proofs.Keys.{set_read}

-- ---- what is asked of the share is what is asked of the mount

module _ (s : Subpool) (v : Files) (m : Mount) (c : IsKept s v m) (max_is : m.limits.max ≡ s.max) (min_is : m.limits.min ≡ s.min) where
  pub full_is : (k : ℕ) → share.is_full s k ≡ grant.is_full m k
  full_is k = (let u = c.used in rw (u, max_is) refl)

  pub rise_is : (k : ℕ) → share.rise s k ≡ grant.rise m k
  rise_is k = (let u = c.used in omega (arith, u, min_is))

-- ---- the mount that a share and files leave

pub mount_left : (s new : Subpool) (inodes : Option ℕ) (fs gs : List File) → new.max ≡ s.max → new.min ≡ s.min → gs ≡ fs → mount_from new inodes gs ≡ mount_from s inodes fs
mount_left s new inodes fs gs max_is min_is files = grind (arith, common_steps)

-- ---- files with so many pages and so much usage more

module _ (s : Subpool) (v : Files) (inodes : Option ℕ) (c : IsKept s v (mount_from s inodes v.files)) where
  pub raised : (fs : List File) (node p u : ℕ) → MountGrows (mount_from s inodes v.files) (mount_from s inodes fs) node p u → length fs ≤ most_files → (new : Subpool) (w : Files)
      → new.max ≡ s.max → new.min ≡ s.min → new.pages ≡ s.pages + p → used new ≡ used s + u → new.held ≤ w.room → w.going ≡ v.going → w.files ≡ fs → IsKept new w (mount_from new inodes w.files)
  raised fs node p u all few new w max_is min_is pages_is used_is room going files = grind (arith, common_steps, mount_left)

  -- a file without name more, with one map
  module _ (task number a n more : ℕ) (sharing : Sharing) (reserving : Reserving) (new : Subpool) (w : Files)
      (more_is : more ≡ asked sharing reserving a n (new_file None)) (new_is : new ≡ with_reserves more s)
      (w_is : w ≡ with_anon task number a n (max v.room (s.held + more)) sharing reserving v) where
    abbrev anon : File
    anon = mapped task number a n sharing reserving (new_file None)

    pub anon_kept : length v.files < most_files → IsKept new w (mount_from new inodes w.files)
    anon_kept l =
        let held_is = ap (λ (x : Subpool). x.held) new_is in
        let pages_is = ap (λ (x : Subpool). x.pages) new_is in
        let room_is = ap (λ (x : Files). x.room) w_is in
        let same : s.pages ≡ s.pages + 0 = omega arith in
        let all = new_grows (mount_from s inodes v.files) None anon (asked sharing reserving a n (new_file None)) (mapped_grows task number a n sharing reserving (new_file None)) in
        raised (v.files ++ anon ∷ []) 0 0 (asked sharing reserving a n (new_file None)) all
        (let long = length-append v.files (anon ∷ []) in omega (arith, long, l)) new w (ap (λ (x : Subpool). x.max) new_is)
        (ap (λ (x : Subpool). x.min) new_is)
        (pages_is ∙ same) (omega (arith, held_is, pages_is, more_is)) (omega (arith, held_is, room_is)) (ap (λ (x : Files). x.going) w_is) (ap (λ (x : Files). x.files) w_is)

    pub anon_left : mount_from new inodes w.files ≡ with_new (mount_from s inodes v.files) anon
    anon_left = mount_left s new inodes (v.files ++ anon ∷ []) w.files (ap (λ (x : Subpool). x.max) new_is) (ap (λ (x : Subpool). x.min) new_is) (ap (λ (x : Files). x.files) w_is)

-- ---- a file for another, with so many pages and so much usage more

module _ (s : Subpool) (v : Files) (inodes : Option ℕ) (c : IsKept s v (mount_from s inodes v.files)) (k : ℕ) (l : k < length v.files) where
  abbrev m : Mount
  m = mount_from s inodes v.files

  here : IsFileAt m k (file_at v.files k)
  here = record { within = l; is = λ d. get_or_default v.files k d (new_file None) l }

  pub grows : (g : File) (node p u : ℕ) → FileGrows (file_at v.files k) g node p u → MountGrows m (with_file m k g) node p u
  grows g node p u h = file_grows m k (file_at v.files k) g node p u here h

  pub grown : (new : Subpool) (w : Files) (g : File) (node p u : ℕ) → FileGrows (file_at v.files k) g node p u → new.max ≡ s.max → new.min ≡ s.min → new.pages ≡ s.pages + p → used new ≡ used s + u
      → new.held ≤ w.room → w.going ≡ v.going → w.files ≡ slice_set v.files k g → IsKept new w (mount_from new inodes w.files)
  grown new w g node p u h max_is min_is pages_is used_is room going files = grind (arith, common_steps, raised, grows, length-set)

  -- an entry without a page is a reservation that is held
  pub some_held : (i : ℕ) → i < length (file_at v.files k).cells → cell_at (file_at v.files k) i ≡ Entered → 0 < s.held
  some_held i below entered = grind (arith, common_steps, grows, moves.fill_entry)

  -- ---- an entered index gets its page

  pub entry_kept : (i : ℕ) (page : Page) (new : Subpool) (w : Files) → i < length (file_at v.files k).cells → cell_at (file_at v.files k) i ≡ Entered → new ≡ with_page s → w ≡ filled_at k i page v
      → IsKept new w (mount_from new inodes w.files)
  entry_kept i page new w below entered new_is w_is = grind (arith, common_steps, some_held, grown, moves.fill_entry)

  pub entry_left : (i : ℕ) (page : Page) (new : Subpool) (w : Files) → new ≡ with_page s → w ≡ filled_at k i page v →
      mount_from new inodes w.files ≡ with_file m k (with_cell (file_in m k) i (Present page))
  entry_left i page new w new_is w_is = mount_left s new inodes (slice_set v.files k (with_cell (file_at v.files k) i (Present page))) w.files
      (ap (λ (x : Subpool). x.max) new_is) (ap (λ (x : Subpool). x.min) new_is) (ap (λ (x : Files). x.files) w_is)

  -- ---- an index without an entry gets a page, by a grant: it is entered first

  set_twice : {Y : Type 0} (xs : List Y) (j : ℕ) (x y : Y) → slice_set (slice_set xs j x) j y ≡ slice_set xs j y
  set_twice [] j x y = refl
  set_twice (z ∷ xs) zero x y = refl
  set_twice (z ∷ xs) (suc j) x y = ap (λ ys. z ∷ ys) (set_twice xs j x y)

  abbrev roomier : ℕ → Files
  roomier spare = record v { room = max v.room spare }

  entered_file : (i spare : ℕ) (cell : Cell Page) → with_cell (file_at (with_cell_at k i Entered (roomier spare)).files k) i cell ≡ with_cell (file_at v.files k) i cell
  entered_file i spare cell = grind (arith, common_steps, get_or-set_same, set_twice)

  pub again_files : (i spare : ℕ) (cell : Cell Page) → (with_cell_at k i cell (with_cell_at k i Entered (roomier spare))).files ≡ slice_set v.files k (with_cell (file_at v.files k) i cell)
  again_files i spare cell = grind (arith, common_steps, entered_file, set_twice)

  pub hole_kept : (i spare : ℕ) (page : Page) (new : Subpool) (w : Files) → i < length (file_at v.files k).cells → cell_at (file_at v.files k) i ≡ Hole → s.held < spare → new ≡ with_granted s
      → w ≡ filled_at k i page (with_cell_at k i Entered (roomier spare)) → IsKept new w (mount_from new inodes w.files)
  hole_kept i spare page new w below hole enough new_is w_is = grind (arith, common_steps, grown, moves.fill_hole, again_files)

  pub granted_left : (i spare : ℕ) (page : Page) (new : Subpool) (w : Files) → new ≡ with_granted s →
      w ≡ filled_at k i page (with_cell_at k i Entered (roomier spare)) → mount_from new inodes w.files
      ≡ with_file m k (with_cell (file_in m k) i (Present page))
  granted_left i spare page new w new_is w_is = mount_left s new inodes (slice_set v.files k (with_cell (file_at v.files k) i (Present page))) w.files
      (ap (λ (x : Subpool). x.max) new_is) (ap (λ (x : Subpool). x.min) new_is)
      (ap (λ (x : Files). x.files) w_is ∙ again_files i spare (Present page))

  -- refused: the index is a hole again
  pub hole_again : (i spare : ℕ) → cell_at (file_at v.files k) i ≡ Hole → (with_cell_at k i Hole (with_cell_at k i Entered (roomier spare))).files ≡ v.files
  hole_again i spare hole =
      again_files i spare Hole ∙ ap (λ c. slice_set v.files k (record (file_at v.files k) { cells = slice_set (file_at v.files k).cells i c })) (sym hole)
      ∙ ap (λ cs. slice_set v.files k (record (file_at v.files k) { cells = cs })) (set_read (file_at v.files k).cells i Hole) ∙ set_read v.files k (new_file None)

  pub hole_stays : (i spare : ℕ) (new : Subpool) (w : Files) → cell_at (file_at v.files k) i ≡ Hole → new ≡ s →
      w ≡ with_cell_at k i Hole (with_cell_at k i Entered (roomier spare)) → mount_from new inodes w.files ≡ m
  hole_stays i spare new w hole new_is w_is = mount_left s new inodes v.files w.files (ap (λ (x : Subpool). x.max) new_is)
      (ap (λ (x : Subpool). x.min) new_is) (ap (λ (x : Files). x.files) w_is ∙ hole_again i spare hole)

  pub hole_keeps : (i spare : ℕ) (new : Subpool) (w : Files) → cell_at (file_at v.files k) i ≡ Hole → new ≡ s →
      w ≡ with_cell_at k i Hole (with_cell_at k i Entered (roomier spare)) → IsKept new w (mount_from new inodes w.files)
  hole_keeps i spare new w hole new_is w_is = search (rules, hole_stays)

  -- ---- a map more

  module _ (task number a n more : ℕ) (sharing : Sharing) (reserving : Reserving) (new : Subpool) (w : Files)
      (more_is : more ≡ asked sharing reserving a n (file_at v.files k)) (new_is : new ≡ with_reserves more s)
      (w_is : w ≡ mapped_at k task number a n (max v.room (s.held + more)) sharing reserving v) where
    pub map_kept : IsKept new w (mount_from new inodes w.files)
    map_kept = grind (arith, common_steps, grown, mapped_grows)

    pub map_left : mount_from new inodes w.files ≡ with_file m k (mapped task number a n sharing reserving (file_in m k))
    map_left = mount_left s new inodes (slice_set v.files k (mapped task number a n sharing reserving (file_at v.files k))) w.files
        (ap (λ (x : Subpool). x.max) new_is) (ap (λ (x : Subpool). x.min) new_is) (ap (λ (x : Files). x.files) w_is)

-- ---- more room alone

module _ (s : Subpool) (v w : Files) (inodes : Option ℕ) (c : IsKept s v (mount_from s inodes v.files)) (w_is : w ≡ record v { room = w.room }) where
  pub room_left : mount_from s inodes w.files ≡ mount_from s inodes v.files
  room_left = ap (λ (x : Files). mount_from s inodes x.files) w_is

-- ---- what a new map asks for

module _ (s : Subpool) (v : Files) (inodes : Option ℕ) (m : Mount) (c : IsKept s v (mount_from s inodes v.files)) (view : mount_from s inodes v.files ≡ m) where
  pub wants_is : (k : ℕ) (range : MapRange) → wants range (file_at v.files k) ≡ wants range (file_at m.files k)
  wants_is k range = ap (λ (x : Mount). wants range (file_at x.files k)) view

  pub full_as : (k n : ℕ) (b : Bool) → n ≡ k → b ≡ share.is_full s n → grant.is_full m k ≡ b
  full_as k n b n_is b_is = ap (grant.is_full m) (sym n_is) ∙ sym (ap (λ (x : Mount). grant.is_full x n) view) ∙ sym (full_is s v (mount_from s inodes v.files) c refl refl n) ∙ sym b_is

  pub rise_as : (k : ℕ) → share.rise s k ≡ grant.rise m k
  rise_as k = rise_is s v (mount_from s inodes v.files) c refl refl k ∙ ap (λ (x : Mount). grant.rise x k) view
