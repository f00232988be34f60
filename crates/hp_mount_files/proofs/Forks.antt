use Rattle.std.proofs.lemmas.Grind.{common_steps}
-- A fork as code leaves the files: maps of the child's number gone, and then the child's maps behind their parent's.
use Rattle.std.proofs.Common.{◌≡◌, ℕ, suc, zero, ◌+◌, ◌-◌, ◌<◌, ◌≤◌, ◌^◌, ◌==◌, ◌||◌, nat_lt, Bool, true, false}
use Rattle.std.proofs.Common.{not, cond, None, max, replicate, List, [], ◌∷◌, ◌++◌, length, map, refl, sym, ap, subst, ◌∙◌}
use Rattle.std.proofs.Common.{arith, is_some, All, filter, sum_by}
use Rattle.std.proofs.lemmas.Bool.Decides.{nat_tests}
use Rattle.std.proofs.lemmas.List.{append-nil, length-map}
use Rattle.std.proofs.lemmas.List.Sums.{length-filter, sum_by-cons}
use Rattle.hp_model.proofs.Words.{File, Map, Mapping, file_forked, file_without, is_among, is_kept, is_of, map_for, map_punched}
use Rattle.hp_model.proofs.Counting.{count_not}
use Rattle.hp_store.specs.Store.{Store, held_count, page_at}
use Rattle.hp_lookup.proofs.Words.{AreReady, AreSame, Files, HaveJoined, HaveMapsLeft, IsCopied, IsFiles, IsKeyed, IsLeft, IsMoreButMapsOf, IsSharing, Label, Noted, NumberedFile}
use Rattle.hp_lookup.proofs.Words.{all_maps, children_of}
use Rattle.hp_lookup.proofs.Words.{count_at, emptied, files_shown, has_key, in_list, in_lists, in_map, is_listed, is_used}
use Rattle.hp_lookup.proofs.Words.{joined, keys_in, label_of, labels_of, left_by, list_copies, map_sum, maps_by, numbered_at}
use Rattle.hp_lookup.proofs.Words.{noted_numbers, tally_of, with_children, with_truncated}
use Rattle.hp_file.specs.ForkLists.{AreFit}
use Rattle.hp_file.specs.HeldPages.{AreHeld}
use Rattle.hp_file.specs.declared.fork_lists.FileMaps.{FileMaps}
use Rattle.hp_file.proofs.Entering.{room_keeps, room_view}
use Rattle.hp_mount_files.proofs.Exiting.{exit_files, exit_keeps, exit_keys, exit_left, keys_gone}
use Rattle.hp_file.proofs.FileLeaves.{empty_file}
use Rattle.hp_mount_files.proofs.Forked.{few_kids, fork_held, fork_keeps, fork_keyed, fork_shows, in_kids, keys_child, owed_same}
use Rattle.hp_file.proofs.Joining.{none_joined}
use Rattle.hp_lookup.proofs.Keys.{noted_same}
use Rattle.hp_lookup.proofs.Notes.{gone_other}
use Rattle.hp_lookup.proofs.Leaving.{files_owe, used_label, used_sum}
use Rattle.hp_file.proofs.Sharing.{share_as}
use Rattle.hp_lookup.proofs.Stored.{stored_at, stored_pages}
use Rattle.hp_lookup.proofs.Tallies.{maps_labelled, none_leave}
use Rattle.hp_lookup.proofs.Unique.{maps_counted}
use Rattle.hp_lookup.proofs.Views.{view}

-- ---- files that are used

used_still : (fs : List NumberedFile) → All (λ (l : Label). is_listed l ≡ true) (labels_of fs) → filter is_used fs ≡ fs
used_still [] all = refl
used_still (f ∷ fs) all =
    ap (λ b. cond b (f ∷ filter is_used fs) (filter is_used fs)) (sym (used_label f) ∙ all 0 (label_of f) (omega arith))
    ∙ ap (λ gs. f ∷ gs) (used_still fs (λ i e l. all (suc i) e (omega (arith, l))))

-- as many maps go as the task had
maps_leave : (task : ℕ) (fs : List NumberedFile) → map_sum (map (λ f. emptied (left_by task f)) fs) + sum_by (maps_by task) fs ≡ map_sum fs
maps_leave task [] = refl
maps_leave task (f ∷ fs) =
    let here = long (is_used (left_by task f)) in
    let few = length-filter (λ m. not (is_of task m)) f.maps in
    let both = count_not (is_of task) f.maps in
    let rest = maps_leave task fs in
    omega (
      arith,
      here,
      few,
      both,
      rest,
      sum_by-cons (λ (f : NumberedFile). length f.maps) (emptied (left_by task f))
          (map (λ f. emptied (left_by task f)) fs),
      sum_by-cons (maps_by task) f fs,
      sum_by-cons (λ (f : NumberedFile). length f.maps) f fs,
    )
  where
    long : (b : Bool) → length (cond b (left_by task f) (with_truncated 0 (left_by task f))).maps ≡ length (left_by task f).maps
    long true = refl
    long false = length-map (left_by task f).maps _

-- ---- a parent's maps are no child's

module _ (parent child : ℕ) (apart : (parent == child) ≡ false) where
  either_task : (k : ℕ) → (k == child) ≡ true → (k == parent) ≡ false
  either_task k e = grind (arith, nat_tests, e, apart)

  clash : true ≡ false → ⊥
  clash e = cc

  module _ {C : Type 0} where
    parents_stay : (ms : List (Mapping C)) → filter (is_of parent) (filter (λ m. not (is_of child m)) ms) ≡ filter (is_of parent) ms
    parents_stay [] = refl
    parents_stay (m ∷ ms) = at (is_of child m) refl (is_of parent m) refl (parents_stay ms)
      where
        at : (b : Bool) → is_of child m ≡ b → (c : Bool) → is_of parent m ≡ c → filter (is_of parent) (filter (λ m. not (is_of child m)) ms) ≡ filter (is_of parent) ms
            → filter (is_of parent) (cond (not b) (m ∷ filter (λ m. not (is_of child m)) ms) (filter (λ m. not (is_of child m)) ms)) ≡ cond c (m ∷ filter (is_of parent) ms) (filter (is_of parent) ms)
        at true e true f rest = absurd (clash (sym f ∙ either_task m.task e))
        at true e false f rest = rest
        at false e c f rest = ap (λ b. cond b (m ∷ filter (is_of parent) (filter (λ m. not (is_of child m)) ms))
            (filter (is_of parent) (filter (λ m. not (is_of child m)) ms))) f ∙ ap (λ xs. cond c (m ∷ xs) xs) rest

  -- ---- the files of the machine

  abbrev grown_by : File → File
  grown_by f = record f { maps = f.maps ++ map (map_for child) (filter (is_of parent) f.maps) }

  kept_same : (f : File) → is_kept (grown_by f) ≡ is_kept f
  kept_same f = at f.maps
    where
      some : (m : Map) (ms : List Map) → nat_lt 0 (length (m ∷ ms)) ≡ true
      some m ms = grind (arith, nat_tests)

      at : (ms : List Map) → (is_some f.name || nat_lt 0 (length (ms ++ map (map_for child) (filter (is_of parent) ms)))) ≡ (is_some f.name || nat_lt 0 (length ms))
      at [] = refl
      at (m ∷ ms) = ap (λ b. is_some f.name || b) (some m (ms ++ map (map_for child) (filter (is_of parent) (m ∷ ms))) ∙ sym (some m ms))

  forked_is : (fs : List File) → map (λ f. grown_by f) (filter is_kept (map (file_without child) fs)) ≡ filter is_kept (map (file_forked parent child) fs)
  forked_is [] = refl
  forked_is (f ∷ fs) =
      at (is_kept (file_without child f)) (is_kept (file_forked parent child f)) (sym (kept_same (file_without child f)) ∙ ap is_kept same) (forked_is fs)
    where
      same : grown_by (file_without child f) ≡ file_forked parent child f
      same = ap (λ ms. record (file_without child f) { maps = (file_without child f).maps ++ map (map_for child) ms }) (parents_stay f.maps)

      at : (b c : Bool) → b ≡ c → map (λ f. grown_by f) (filter is_kept (map (file_without child) fs)) ≡ filter is_kept (map (file_forked parent child) fs)
          → map (λ f. grown_by f) (cond b (file_without child f ∷ filter is_kept (map (file_without child) fs))
          (filter is_kept (map (file_without child) fs))) ≡ cond c (file_forked parent child f
          ∷ filter is_kept (map (file_forked parent child) fs)) (filter is_kept (map (file_forked parent child) fs))
      at true true e rest = ap (λ g. g ∷ map (λ f. grown_by f) (filter is_kept (map (file_without child) fs))) same ∙ ap (λ gs. file_forked parent child f ∷ gs) rest
      at true false e rest = absurd (clash e)
      at false true e rest = absurd (clash (sym e))
      at false false e rest = rest

  -- ---- lists that are ready

  ended_children : (f : NumberedFile) → (children_of parent child (emptied (left_by child f)).maps ≡ children_of parent child f.maps) × (length (emptied (left_by child f)).maps ≤ length f.maps)
  ended_children f = at (is_used (left_by child f)) refl
    where
      few_left : (ms : List (Mapping ℕ)) → length (filter (λ m. not (is_of child m)) ms) ≤ length ms
      few_left [] = omega arith
      few_left (m ∷ ms) = by (is_of child m) (few_left ms)
        where
          by : (b : Bool) → length (filter (λ m. not (is_of child m)) ms) ≤ length ms →
              length (cond (not b) (m ∷ filter (λ m. not (is_of child m)) ms) (filter (λ m. not (is_of child m)) ms)) ≤ length (m ∷ ms)
          by true rest = omega (arith, rest)
          by false rest = omega (arith, rest)

      at : (b : Bool) → is_used (left_by child f) ≡ b → (children_of parent child (cond b (left_by child f) (with_truncated 0 (left_by child f))).maps
          ≡ children_of parent child f.maps) × (length (cond b (left_by child f) (with_truncated 0 (left_by child f))).maps ≤ length f.maps)
      at true e = (ap (map (map_for child)) (parents_stay f.maps), few_left f.maps)
      at false e =
          let bare : (left_by child f).maps ≡ [] = (empty_file (left_by child f) e).0 in
          let none : map (map_punched 0 (0 + length f.cells)) (left_by child f).maps ≡ [] = ap (map (map_punched 0 (0 + length f.cells))) bare in (
            ap (children_of parent child) none ∙ sym (ap (children_of parent child) bare) ∙ ap (map (map_for child)) (parents_stay f.maps),
            (let short = ap length none in omega (arith, short)),
          )

  ready_ended : (fs : List NumberedFile) (lists : List (List (Mapping ℕ))) → AreReady parent child fs lists → AreReady parent child (map (λ f. emptied (left_by child f)) fs) lists
  ready_ended [] [] all = tt
  ready_ended [] (v ∷ vs) all = absurd all
  ready_ended (f ∷ fs) [] all = ((ended_children f).0 ∙ all.0, ready_ended fs [] all.1)
  ready_ended (f ∷ fs) (v ∷ vs) all =
      (all.0 ∙ sym (ended_children f).0, ready_ended fs vs all.1)

  ended_few : (fs : List NumberedFile) (k : ℕ) → length (numbered_at (map (λ f. emptied (left_by child f)) fs) k).maps ≤ length (numbered_at fs k).maps
  ended_few [] k = omega arith
  ended_few (f ∷ fs) zero = (ended_children f).1
  ended_few (f ∷ fs) (suc k) = ended_few fs k

  fit_ended : (n : ℕ) (fs : List NumberedFile) (xs : List FileMaps) → AreFit n fs xs → AreFit n (map (λ f. emptied (left_by child f)) fs) xs
  fit_ended n fs [] fit = tt
  fit_ended n fs (x ∷ xs) fit =
      let few = ended_few fs x.file in
      let long = length-map fs (λ (f : NumberedFile). emptied (left_by child f)) in
      let within = fit.1 in (
        fit.0,
        omega (arith, long, within),
        λ some. (let room = fit.2 some in omega (arith, room, few)),
        fit_ended (x.file + 1) fs xs fit.3,
      )

  ready_joined : (fs : List NumberedFile) (lists : List (List (Mapping ℕ))) → AreReady parent child fs lists → joined fs lists ≡ map (λ f. with_children parent child f) fs
  ready_joined [] lists all = refl
  ready_joined (f ∷ fs) [] all =
      let same : with_children parent child f ≡ f = ap (λ ms. record f { maps = f.maps ++ ms }) all.0 ∙ ap (λ ms. record f { maps = ms }) (append-nil f.maps) in
      ap (λ g. g ∷ fs) (sym same) ∙ ap (λ gs. with_children parent child f ∷ gs) (sym (none_joined fs) ∙ ready_joined fs [] all.1)
  ready_joined (f ∷ fs) (v ∷ vs) all = ap (λ ms. record f { maps = f.maps ++ ms } ∷ joined fs vs) all.0 ∙ ap (λ gs. with_children parent child f ∷ gs) (ready_joined fs vs all.1)

  ready_in : (n : ℕ) (fs : List NumberedFile) (lists : List (List (Mapping ℕ))) → AreReady parent child fs lists → in_lists n lists ≡ in_kids parent child apart n fs
  ready_in n [] [] all = refl
  ready_in n [] (v ∷ vs) all = absurd all
  ready_in n (f ∷ fs) [] all =
      let here = ap (sum_by (in_map n)) all.0 in
      let rest = ready_in n fs [] all.1 in
      omega (arith, here, rest, sum_by-cons (λ (f : NumberedFile). sum_by (in_map n) (children_of parent child f.maps)) f fs)
  ready_in n (f ∷ fs) (v ∷ vs) all =
      let here = ap (sum_by (in_map n)) all.0 in
      let rest = ready_in n fs vs all.1 in
      omega (arith, here, rest, sum_by-cons (in_list n) v vs, sum_by-cons (λ (f : NumberedFile). sum_by (in_map n) (children_of parent child f.maps)) f fs)

  used_in : (n : ℕ) (fs : List NumberedFile) → in_kids parent child apart n (filter is_used fs) ≡ in_kids parent child apart n fs
  used_in n fs = used_sum (λ f. sum_by (in_map n) (children_of parent child f.maps)) (λ f out. ap (λ ms. sum_by (in_map n) (children_of parent child ms)) (empty_file f out).0) fs

  used_grown : (f : NumberedFile) → is_used (with_children parent child f) ≡ is_used f
  used_grown f = at f.maps
    where
      some : (m : Mapping ℕ) (ms : List (Mapping ℕ)) → nat_lt 0 (length (m ∷ ms)) ≡ true
      some m ms = grind (arith, nat_tests)

      at : (ms : List (Mapping ℕ)) → (is_some f.name || nat_lt 0 (length (ms ++ children_of parent child ms))) ≡ (is_some f.name || nat_lt 0 (length ms))
      at [] = refl
      at (m ∷ ms) = ap (λ b. is_some f.name || b) (some m (ms ++ children_of parent child (m ∷ ms)) ∙ sym (some m ms))

  pub used_all : (fs : List NumberedFile) → filter is_used (map (λ f. with_children parent child f) fs) ≡ map (λ f. with_children parent child f) (filter is_used fs)
  used_all [] = refl
  used_all (f ∷ fs) = at (is_used (with_children parent child f)) (is_used f) (used_grown f) (used_all fs)
    where
      at : (b c : Bool) → b ≡ c → filter is_used (map (λ f. with_children parent child f) fs) ≡ map (λ f. with_children parent child f) (filter is_used fs)
          → cond b (with_children parent child f ∷ filter is_used (map (λ f. with_children parent child f) fs))
          (filter is_used (map (λ f. with_children parent child f) fs)) ≡ map (λ f. with_children parent child f)
          (cond c (f ∷ filter is_used fs) (filter is_used fs))
      at true true e rest = ap (λ gs. with_children parent child f ∷ gs) rest
      at true false e rest = absurd (clash e)
      at false true e rest = absurd (clash (sym e))
      at false false e rest = rest

-- ---- lists are ready and room is made

-- what a fork goes on from, where the files showed as `v`
pub record IsSet (parent child held : ℕ) (v : Files) (n : Noted) (s : Store) (more maps : ℕ) (tally : ℕ → ℕ) (fs : List NumberedFile) (lists : List (List (Mapping ℕ))) : Type 0 where
  pub is : IsFiles n s more maps tally fs
  pub ready : AreReady parent child fs lists
  pub room : held + more + sum_by list_copies lists ≤ s.room
  pub few : held + more + sum_by list_copies lists ≤ 2 ^ 32
  pub shown : record (view s more fs) { room = held } ≡ record v { room = held }

pub set_out : {parent child held all maps : ℕ} {v : Files} {old n : Noted} {s t : Store} {more : ℕ} {tally : ℕ → ℕ} {fs : List NumberedFile}
    {lists counted : List (List (Mapping ℕ))} → IsFiles old s more maps tally fs → view s more fs ≡ v → AreSame old n
    → AreReady parent child fs lists → counted ≡ lists → (all < 2 ^ 64 - 1 → all ≡ held + more + sum_by list_copies counted) → held_count s.pages + all ≤ 2 ^ 32
    → t ≡ record s { pages = t.pages; room = max s.room all } → t.pages ≡ s.pages ++ replicate (length t.pages - length s.pages) None → ((m : ℕ) → page_at t m ≡ page_at s m)
    → IsSet parent child held v n t more maps tally fs lists
set_out {parent} {child} {held} {all} {maps} {v} {old} {n} {s} {t} {more} {tally} {fs} {lists} is view_is grown ready list room few made pages same =
    let copies = ap (sum_by list_copies) list in
    let all_is = room (omega (arith, few)) in
    let parts : all ≡ more + (held + sum_by list_copies lists) = omega (arith, all_is, copies) in
    let wide = ap (λ (u : Store). u.room) made in
    record {
      is = record {
        held = room_keeps s t more (held + sum_by list_copies lists) all fs is.held parts made pages same;
        keyed = is.keyed;
        noted = noted_same old n (labels_of fs) grown is.noted;
        level = is.level;
      };
      ready = ready;
      room = omega (arith, wide, parts);
      few = omega (arith, parts, few);
      shown = ap (λ (x : Files). record x { room = held }) (room_view s t more (held + sum_by list_copies lists) all fs is.held parts made pages same)
          ∙ ap (λ (x : Files). record x { room = held }) view_is;
    }

-- ---- the child's numbers are its parent's

pub keys_copied : {first n : Noted} {copy : List ℕ} (parent : ℕ) → AreSame first n → copy ≡ noted_numbers parent first → (q : ℕ) → is_among q copy ≡ has_key parent q n
keys_copied parent same copy_is q = ap (is_among q) copy_is ∙ sym (same.keys parent q)

pub counts_copied : {first n dropped table : Noted} {copy : List ℕ} (parent child : ℕ) → AreSame first n → IsMoreButMapsOf child n dropped
    → IsCopied child copy dropped table → copy ≡ noted_numbers parent first → (q : ℕ) → tally_of table q ≡ cond (child == q) (tally_of first parent) (tally_of first q)
counts_copied {first} {n} {dropped} {table} {copy} parent child same gone copied copy_is q = ap length (copied.maps q) ∙ by (child == q) refl
  where
    by : (b : Bool) → (child == q) ≡ b → length (cond b copy (noted_numbers q dropped)) ≡ cond b (tally_of first parent) (tally_of first q)
    by true own = ap length copy_is
    by false other = ap length (gone_other child n dropped gone q other) ∙ same.tally q

-- ---- the maps of the child's number are gone

module _ {n dropped : Noted} {s t : Store} {more now maps held : ℕ} {tally : ℕ → ℕ} {fs ended : List NumberedFile} {parent child r k : ℕ}
    {lists : List (List (Mapping ℕ))} {v : Files} (set : IsSet parent child held v n s more maps tally fs lists)
    (apart : (parent == child) ≡ false) (went : HaveMapsLeft child fs ended s t now k r) (gone : IsMoreButMapsOf child n dropped) where
  ended_is : ended ≡ map (λ f. emptied (left_by child f)) fs
  ended_is = went.left

  abbrev K : List NumberedFile
  K = filter is_used ended

  left : IsFiles dropped t now (maps - k) (λ q. cond (child == q) 0 (tally q)) K
  left = exit_keeps set.is went refl gone (maps - k) (λ q. cond (child == q) 0 (tally q)) refl (λ q. refl)

  ready_now : AreReady parent child ended lists
  ready_now = subst (λ gs. AreReady parent child gs lists) (sym ended_is) (ready_ended parent child apart fs lists set.ready)

  lists_in : (m : ℕ) → in_lists m lists ≡ in_kids parent child apart m K
  lists_in m = ready_in parent child apart m ended lists ready_now ∙ sym (used_in parent child apart m ended)

  pub join_room : (xs : List FileMaps) → AreFit 0 fs xs → AreFit 0 ended xs
  join_room xs fit = subst (λ gs. AreFit 0 gs xs) (sym ended_is) (fit_ended parent child apart 0 fs xs fit)

  pub join_held : {N : Type 0} → AreHeld {N = N} (λ m. in_lists m lists) (record { store = t; more = now })
  join_held = record {
    held = λ m. (let all = lists_in m in let few = few_kids parent child apart m K in let held = left.held.held m in omega (arith, all, few, held));
    some = left.held.some;
    counted = went.counted;
  }

  pub join_few : now + sum_by list_copies lists ≤ 2 ^ 32
  join_few = (let was = set.is.held.counted in let less = went.dropping.fewer in let few = set.few in omega (arith, was, less, few, went.counted))

  own_task : (child == child) ≡ true
  own_task = grind (arith, nat_tests)

  other_task : (child == parent) ≡ false
  other_task = grind (arith, nat_tests, apart)

  module _ {joint : List NumberedFile} {u : Store} {more2 : ℕ} (came : HaveJoined lists ended joint t u now more2) where
    joint_all : joint ≡ map (λ f. with_children parent child f) ended
    joint_all = came.files_are ∙ ready_joined parent child apart ended lists ready_now

    -- where no map went each file is used still
    pub all_used : k ≡ 0 → filter is_used joint ≡ joint
    all_used none =
        let left_all = ap map_sum ended_is in
        let bare : sum_by (maps_by child) fs ≡ 0 = (let gone = went.gone in let all = maps_leave child fs in omega (arith, none, gone, all, left_all)) in
        let same : ended ≡ fs = ended_is ∙ none_leave child fs (maps_labelled child fs ∙ bare) set.is.keyed.kept in
        let still : K ≡ ended = ap (filter is_used) same ∙ used_still fs set.is.keyed.kept ∙ sym same in
        ap (filter is_used) joint_all ∙ used_all parent child apart ended ∙ ap (map (λ f. with_children parent child f)) still ∙ sym joint_all

  module _ {joint kept : List NumberedFile} {u : Store} {more2 : ℕ} (came : HaveJoined lists ended joint t u now more2) (kept_is : kept ≡ filter is_used joint) where
    abbrev shares : IsSharing (λ m. in_lists m lists) t u
    shares = came.sharing

    enough : held + more2 ≤ u.room
    enough = grind (arith, common_steps)

    parts : more2 ≤ u.room
    parts = (let all = enough in omega (arith, all))

    kept_all : kept ≡ map (λ f. with_children parent child f) K
    kept_all = kept_is ∙ ap (filter is_used) (joint_all came) ∙ used_all parent child apart ended

    sharing : IsSharing (λ m. in_kids parent child apart m K) t u
    sharing = share_as (λ m. in_lists m lists) (λ m. in_kids parent child apart m K) t u shares (λ m. sym (lists_in m))

    pub forked_shows : files_shown u kept ≡ filter is_kept (map (file_forked parent child) v.files)
    forked_shows =
        ap (files_shown u) kept_all ∙ fork_shows parent child apart dropped t u now more2 (maps - k) (λ q. cond (child == q) 0 (tally q)) K left sharing came.counted parts
        ∙ ap (map (λ f. grown_by parent child apart f)) (exit_files set.is went refl)
        ∙ forked_is parent child apart (files_shown s fs) ∙ ap (λ (x : Files). filter is_kept (map (file_forked parent child) x.files)) set.shown

    pub forked_left : IsLeft r (record v { room = held }) (view u more2 kept)
    forked_left =
        let gave = exit_left set.is went refl in
        let now_held = fork_held parent child apart dropped t u now more2 (maps - k) (λ q. cond (child == q) 0 (tally q)) K left sharing came.counted parts in
        let hs : List NumberedFile = map (λ f. with_children parent child f) K in
        subst (λ x. IsLeft r x (view u more2 kept)) set.shown
        (subst (λ gs. IsLeft r (record (view s more fs) { room = held }) (view u more2 gs)) (sym kept_all)
        (record {
          pages = (let mid = stored_pages t now K left.held in let new = stored_pages u more2 hs now_held in let sum = gave.pages in
              let same = shares.pages in let going = ap length shares.going in omega (arith, mid, new, sum, same, going));
          nodes = λ i. (let mid = stored_at t now K left.held i in let new = stored_at u more2 hs now_held i in let sum = gave.nodes i in
              let same = shares.nodes i in let going = ap (count_at i) shares.going in omega (arith, mid, new, sum, same, going));
          reserved = (let mid = files_owe t K in let new = files_owe u hs in let sum = gave.reserved in let same = owed_same parent child apart K in omega (arith, mid, new, sum, same));
          room = (let room = enough in omega (arith, room));
        }))

    gone_keys : (q : ℕ) → sum_by (keys_in child q) (labels_of K) ≡ 0
    gone_keys q = keys_gone set.is went refl q

    fewer : (q m : ℕ) → sum_by (keys_in q m) (labels_of K) ≤ sum_by (keys_in q m) (labels_of fs)
    fewer q m = exit_keys set.is went refl q m

    module _ (next : ℕ → ℕ) (next_is : (q : ℕ) → next q ≡ cond (child == q) (tally parent) (tally q)) where
      keyed_all : IsKeyed (maps - k + tally parent) next (labels_of (map (λ f. with_children parent child f) K))
      keyed_all =
          fork_keyed parent child apart dropped t u now more2 (maps - k) (λ q. cond (child == q) 0 (tally q)) K left sharing came.counted parts gone_keys
          (maps - k + tally parent) next (ap (λ b. maps - k + cond b 0 (tally parent)) (sym other_task))
          (λ q. next_is q ∙ at q (child == q))
        where
          at : (q : ℕ) (b : Bool) → cond b (tally parent) (tally q) ≡ cond b 0 (tally q) + cond b (cond (child == parent) 0 (tally parent)) 0
          at q true = (let own = ap (λ b. cond b 0 (tally parent)) other_task in omega (arith, own))
          at q false = omega arith

      its_keys : (q : ℕ) → sum_by (keys_in child q) (labels_of (map (λ f. with_children parent child f) K)) ≡ sum_by (keys_in parent q) (labels_of K)
      its_keys q = keys_child parent child apart dropped t u now more2 (maps - k) (λ q. cond (child == q) 0 (tally q)) K left sharing came.counted parts gone_keys q

      far : (q : ℕ) → (q == child) ≡ false → (child == q) ≡ false
      far q e = grind (arith, nat_tests, e)

      -- the child has the numbers that its parent had
      pub forked_keeps : {copy : List ℕ} {table : Noted} → IsCopied child copy dropped table → ((q : ℕ) → is_among q copy ≡ has_key parent q n)
          → IsFiles table u more2 (maps - k + tally parent) next kept
      forked_keeps {copy} {table} copied known =
          subst (IsFiles table u more2 (maps - k + tally parent) next) (sym kept_all)
          (fork_keeps parent child apart dropped t u now more2 (maps - k) (λ q. cond (child == q) 0 (tally q)) K left sharing came.counted parts gone_keys
          table (λ name e. sym (copied.names name) ∙ e)
          (λ q m other e. (let none = set.is.noted.keys q m (sym (ap (is_among m) (gone_other child n dropped gone q (far q other))) ∙ sym (ap (is_among m) (others q (far q other))) ∙ e) in
          let less = fewer q m in omega (arith, none, less)))
          (λ q e. (let none = set.is.noted.keys parent q (sym (known q) ∙ sym (ap (is_among q) own) ∙ e) in let less = fewer parent q in let all = its_keys q in omega (arith, none, less, all)))
          (λ name e. copied.names name ∙ e)
          (λ q m other none. ap (is_among m) (others q (far q other)) ∙ left.noted.no_key q m none)
          (λ q none. ap (is_among q) own ∙ known q ∙ sym (ap (is_among q) (gone_other child n dropped gone parent other_task)) ∙ left.noted.no_key parent q (sym (its_keys q) ∙ none))
          (maps - k + tally parent) next keyed_all)
        where
          others : (q : ℕ) → (child == q) ≡ false → noted_numbers q table ≡ noted_numbers q dropped
          others q e = copied.maps q ∙ ap (λ b. cond b copy (noted_numbers q dropped)) e

          own : noted_numbers child table ≡ copy
          own = copied.maps child ∙ ap (λ b. cond b copy (noted_numbers child dropped)) own_task

    abbrev next_tally : ℕ → ℕ
    next_tally q = cond (child == q) (tally parent) (tally q)

    -- they are counted
    pub forked_few : maps - k + tally parent ≡ length (all_maps (filter is_kept (map (file_forked parent child) v.files)))
    forked_few =
        (subst (λ gs. IsKeyed (maps - k + tally parent) next_tally (labels_of gs)) (sym kept_all) (keyed_all next_tally (λ q. refl))).map_count ∙ maps_counted u kept
        ∙ ap (λ fs. length (all_maps fs)) forked_shows

-- the same, as code counts
pub files_as : (h g : Noted) (u : Store) (more k i : ℕ) (tally : ℕ → ℕ) (gs : List NumberedFile) → g ≡ h → i ≡ k → IsFiles h u more k tally gs → IsFiles g u more i tally gs
files_as h g u more k i tally gs noted maps is = subst (λ x. IsFiles x u more i tally gs) (sym noted) (subst (λ x. IsFiles h u more x tally gs) (sym maps) is)
