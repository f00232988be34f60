-- Faults at indices that follow one another, by what code did.
use Rattle.std.proofs.Common.{◌≡◌, ◌≢◌, ◌+◌, ◌-◌, ◌<◌, ◌≤◌, ℕ, suc, false, true, Option, None, Some, Ok, List, [], ◌∷◌, length, refl, sym, ap, subst, ◌∙◌, arith}
use Rattle.std.proofs.lemmas.Bool.Decides.{nat_tests}
use Rattle.std.proofs.lemmas.Grind.{common_steps}
use Rattle.std.proofs.lemmas.List.{get_or_default, get_or-set_other, get_or-set_same, length-set}
use Rattle.hp_laws.proofs.Variants.{Cell, Done, Hole, Intent, Present}
use Rattle.hp_model.specs.declared.refusal.Refusal.TheVariants.{NoSuchMap}
use Rattle.hp_model.specs.threads.LocalRun.{Goes}
use Rattle.hp_model.proofs.Words.{Choice, File, Mount, Page, Plan, Spot, access, fault, fault_tests, file_in}
use Rattle.hp_model.proofs.Words.{filled, is_map, is_shared, map_in, new_file, no_map, reserved_page, shared_access, spot, with_cell, with_file}
use Rattle.hp_model.proofs.Words.{with_value, zeros}
use Rattle.hp_laws.proofs.counts.MountMoves.{IsSpot, spot_is}
use Rattle.hp_laws.proofs.names.Accessed.{file_put}
use Rattle.hp_laws.proofs.names.Keys.{keys}
use Rattle.hp_laws.proofs.names.Placed.{lead_same, placed}
use Rattle.hp_subpool.specs.Subpool.{Subpool, with_page, with_pages}
use Rattle.hp_lookup.proofs.Words.{Files, file_at, filled_at}
use Rattle.hp_mount_laws.specs.Kept.{IsKept, mount_from}
use Rattle.hp_mount_laws.specs.Reach.{first_of, spot_at}
use Rattle.hp_mount_laws.proofs.Keeping.{entry_kept, mount_left}
use Rattle.hp_mount_laws.proofs.Trying.{tests_pass}
use Rattle.hp_mount_laws.proofs.Ways.{fresh_choice, is_fresh}
use Rattle.hp_mount.specs.Running.{AreFaulted, AreReserved, IsFaulted, IsReserved, filled_from, reserved_at}
use Rattle.hp_mount.proofs.Commands.{shared_is}

-- ---- the indices that are reserved still

-- those behind the one that gets its page
above_kept : (f : File) (map i j : ℕ) (c : Cell Page) → i < j → IsReserved f map j → IsReserved (with_cell f i c) map j
above_kept f map i j c above r =
    let apart : j ≢ i = λ same. absurd (omega (arith, above, same)) in
    record {
      below = (let long = length-set f.cells i c in let was = r.below in omega (arith, long, was));
      live = r.live;
      entered = get_or-set_other f.cells i j c Hole apart ∙ r.entered;
    }

rest_reserved : (v : Files) (k map i n : ℕ) (page : Page) → k < length v.files → AreReserved (file_at v.files k) map i (suc n)
    → AreReserved (file_at (filled_at k i page v).files k) map (suc i) n
rest_reserved v k map i n page there all j from below =
    subst (λ (f : File). IsReserved f map j) (sym (get_or-set_same v.files k (with_cell (file_at v.files k) i (Present page)) (new_file None) there))
    (above_kept (file_at v.files k) map i j (Present page) (omega (arith, from)) (all j (omega (arith, from)) (omega (arith, below))))

first_reserved : (f : File) (map i n : ℕ) → AreReserved f map i (suc n) → IsReserved f map i
first_reserved f map i n all = all i (omega arith) (omega arith)

pub fewer_reserved : (f : File) (map i n count : ℕ) → n ≤ count → AreReserved f map i count → AreReserved f map i n
fewer_reserved f map i n count few all j from below = all j from (omega (arith, few, below))

-- the list has as many files
still_there : (v : Files) (k i : ℕ) (page : Page) → k < length v.files → k < length (filled_at k i page v).files
still_there v k i page there =
    let long = length-set v.files k (with_cell (file_at v.files k) i (Present page)) in
    omega (arith, long, there)

-- ---- one fault

spot_here : (n : Mount) (s : Spot) → IsSpot n s → s ≡ spot_at n s.file_no s.map_no
spot_here n s at =
    let file : file_in n s.file_no ≡ s.file = at.file.is (new_file None) in
    let map : map_in s.file s.map_no ≡ s.map = at.map.is no_map in
    sym (ap (λ (f : File). record { file_no = s.file_no; file = f; map_no = s.map_no; map = map_in f s.map_no }) file
    ∙ ap (λ x. record { file_no = s.file_no; file = s.file; map_no = s.map_no; map = x }) map)

-- the map stands where it stood
spot_stays : (m : Mount) (task map k j i : ℕ) (c : Cell Page) → k < length m.files → spot m (is_map task map) ≡ Some (spot_at m k j)
    → spot (with_file m k (with_cell (file_in m k) i c)) (is_map task map) ≡ Some (spot_at (with_file m k (with_cell (file_in m k) i c)) k j)
spot_stays m task map k j i c there is =
    let g : File = with_cell (file_in m k) i c in
    let n : Mount = with_file m k g in
    let same = file_put m k (file_in m k) g (λ d. get_or_default m.files k d (new_file None) there) refl in
    let now = (placed m n (lead_same (keys m) (keys n) same)).numbers task map (spot_at m k j) is in
    let file : now.0.file_no ≡ k = ap (λ p. p.0) now.2 in
    let number : now.0.map_no ≡ j = ap (λ p. p.1) now.2 in
    now.1 ∙ ap Some (spot_here n now.0 (spot_is n (is_map task map) now.0 now.1) ∙ ap (λ x. spot_at n x now.0.map_no) file ∙ ap (spot_at n k) number)

module _ (size task map : ℕ) (m : Mount) (k j i node : ℕ) (found : spot m (is_map task map) ≡ Some (spot_at m k j))
    (shared : is_shared (map_in (file_in m k) j).sharing ≡ true) (r : IsReserved (file_in m k) j i) where
  abbrev s : Spot
  s = spot_at m k j

  abbrev now : Mount
  now = with_file m k (with_cell (file_in m k) i (Present (record { node = node; bytes = zeros size })))

  begins : first_of (fault_tests i s) ≡ None
  begins = (let live = r.live in let below = r.below in grind (arith, common_steps, nat_tests))

  takes_page : (c : Choice) (home : ℕ) (intent : Intent) → fault c size m home i intent s ≡ reserved_page home (λ n. filled m s i (record { node = n; bytes = zeros size }))
  takes_page c home intent =
      tests_pass (fault_tests i s) (access c size m s home i intent) begins
      ∙ shared_is c size m s home i intent shared
      ∙ ap (shared_access c size m s home i) r.entered

  one_faulted : (slot : ℕ) → IsFaulted size slot task map i node (Some m) (Some now)
  one_faulted slot home place intent =
      let c : Choice = fresh_choice false (Some m) in (
        c,
        is_fresh false (Some m),
        subst (λ (p : Plan). Goes p (Some (reserved_at home place node)) (Some m) (Ok Done) (Some now))
            (sym (ap (λ o. with_value o NoSuchMap (fault c size m home i intent)) found ∙ takes_page c home intent)) (refl, (refl, refl)),
      )

-- ---- all of them

module _ (size task map k j : ℕ) (inodes : Option ℕ) where
  all_faulted : (slot i : ℕ) (nodes : List ℕ) (s : Subpool) (v : Files) → k < length v.files → spot (mount_from s inodes v.files) (is_map task map) ≡ Some (spot_at (mount_from s inodes v.files) k j)
      → is_shared (map_in (file_at v.files k) j).sharing ≡ true → AreReserved (file_at v.files k) j i (length nodes)
      → AreFaulted size slot task map i nodes (Some (mount_from s inodes v.files)) (Some (mount_from s inodes (filled_from size k i nodes v).files))
  all_faulted slot i [] s v there found shared all = refl
  all_faulted slot i (node ∷ nodes) s v there found shared all =
      let page : Page = record { node = node; bytes = zeros size } in
      let w : Files = filled_at k i page v in
      let m : Mount = mount_from s inodes v.files in
      let file : file_at w.files k ≡ with_cell (file_at v.files k) i (Present page) = get_or-set_same v.files k (with_cell (file_at v.files k) i (Present page)) (new_file None) there in (
        Some (mount_from s inodes w.files),
        one_faulted size task map m k j i node found shared (first_reserved (file_at v.files k) j i (length nodes) all) slot,
        all_faulted slot (suc i) nodes s w (still_there v k i page there) (spot_stays m task map k j i (Present page) there found)
            (ap (λ (f : File). is_shared (map_in f j).sharing) file ∙ shared) (rest_reserved v k j i (length nodes) page there all),
      )

-- ---- what the mount keeps

none_taken : (s : Subpool) → with_pages 0 s ≡ s
none_taken s = grind (arith, common_steps)

one_taken : (s : Subpool) (n : ℕ) → with_pages n (with_page s) ≡ with_pages (suc n) s
one_taken s n =
    let held : s.held - 1 - n ≡ s.held - suc n = omega arith in
    let pages : s.pages + 1 + n ≡ s.pages + suc n = omega arith in
    grind (arith, common_steps)

module _ (size k j : ℕ) (inodes : Option ℕ) where
  all_kept : (i : ℕ) (nodes : List ℕ) (s : Subpool) (v : Files) → IsKept s v (mount_from s inodes v.files) → k < length v.files → AreReserved (file_at v.files k) j i (length nodes)
      → IsKept (with_pages (length nodes) s) (filled_from size k i nodes v) (mount_from (with_pages (length nodes) s) inodes (filled_from size k i nodes v).files)
  all_kept i [] s v kept there all = subst (λ x. IsKept x v (mount_from x inodes v.files)) (sym (none_taken s)) kept
  all_kept i (node ∷ nodes) s v kept there all =
      let page : Page = record { node = node; bytes = zeros size } in
      let w : Files = filled_at k i page v in
      let first = first_reserved (file_at v.files k) j i (length nodes) all in
      let once = entry_kept s v inodes kept k there i page (with_page s) w first.below first.entered refl refl in
      let left : Files = filled_from size k (suc i) nodes w in
      subst (λ x. IsKept x left (mount_from x inodes left.files)) (one_taken s (length nodes))
      (all_kept (suc i) nodes (with_page s) w once (still_there v k i page there) (rest_reserved v k j i (length nodes) page there all))

-- ---- a page more, by what code did

module _ (size k i : ℕ) (v w : Files) (old rest : List ℕ) (page : Page) (old_is : old ≡ page.node ∷ rest) (w_is : w ≡ filled_at k i page v) where
  next : suc i ≡ i + 1
  next = omega arith

  pub step_filled : page.bytes ≡ zeros size → filled_from size k (i + 1) rest w ≡ filled_from size k i old v
  step_filled bytes =
      ap (λ n. filled_from size k n rest w) (sym next)
      ∙ ap (filled_from size k (suc i) rest) (w_is ∙ ap (λ b. filled_at k i (record { node = page.node; bytes = b }) v) bytes)
      ∙ ap (λ nodes. filled_from size k i nodes v) (sym old_is)

  pub step_reserved : (map : ℕ) → k < length v.files → AreReserved (file_at v.files k) map i (length old) → AreReserved (file_at w.files k) map (i + 1) (length rest)
  step_reserved map there all =
      subst (λ n. AreReserved (file_at w.files k) map n (length rest)) next
      (subst (λ (x : Files). AreReserved (file_at x.files k) map (suc i) (length rest)) (sym w_is)
      (rest_reserved v k map i (length rest) page there (subst (λ nodes. AreReserved (file_at v.files k) map i (length nodes)) old_is all)))

  pub step_there : k < length v.files → k < length w.files
  step_there there = subst (λ (x : Files). k < length x.files) (sym w_is) (still_there v k i page there)

-- ---- all of them, by what code did

module _ (size k j i : ℕ) (nodes : List ℕ) (inodes : Option ℕ) (s : Subpool) (v : Files) (there : k < length v.files) (all : AreReserved (file_at v.files k) j i (length nodes))
    (new : Subpool) (w : Files) (new_is : new ≡ with_pages (length nodes) s) (w_is : w ≡ filled_from size k i nodes v) where
  abbrev left : Files
  left = filled_from size k i nodes v

  pub run_kept : IsKept s v (mount_from s inodes v.files) → IsKept new w (mount_from new inodes w.files)
  run_kept kept =
      subst (λ x. IsKept new x (mount_from new inodes x.files)) (sym w_is)
      (subst (λ x. IsKept x left (mount_from x inodes left.files)) (sym new_is) (all_kept size k j inodes i nodes s v kept there all))

  left_is : mount_from new inodes w.files ≡ mount_from s inodes left.files
  left_is = mount_left s new inodes left.files w.files (ap (λ (x : Subpool). x.max) new_is) (ap (λ (x : Subpool). x.min) new_is) (ap (λ (x : Files). x.files) w_is)

  pub run_faulted : (task map slot : ℕ) (m : Mount) → mount_from s inodes v.files ≡ m → spot m (is_map task map) ≡ Some (spot_at m k j) → is_shared (map_in (file_at v.files k) j).sharing ≡ true
      → AreFaulted size slot task map i nodes (Some m) (Some (mount_from new inodes w.files))
  run_faulted task map slot m view found shared =
      let here = subst (λ (x : Mount). spot x (is_map task map) ≡ Some (spot_at x k j)) (sym view) found in
      subst (λ (x : Mount). AreFaulted size slot task map i nodes (Some m) (Some x)) (sym left_is)
      (subst (λ (x : Mount). AreFaulted size slot task map i nodes (Some x) (Some (mount_from s inodes left.files))) view
      (all_faulted size task map k j inodes slot i nodes s v there here shared all))
