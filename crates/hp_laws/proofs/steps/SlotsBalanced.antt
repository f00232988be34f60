-- Each event on a slot balances.
use Rattle.std.proofs.Common.{◌≡◌, subst, ℕ, Bool, false, ◌||◌, ◌==◌, None, Some, Result, List, [], ◌∷◌, length, refl, ap, ◌∙◌, arith, if◌then◌else◌, flat_map}
use Rattle.std.specs.List.{list_any}
use Rattle.std.proofs.lemmas.Bool.{cond_both, not-true, leb-false, false_from_ne_true, both_ways}
use Rattle.std.proofs.lemmas.List.Folds.{list_any_at}
use Rattle.hp_laws.proofs.Variants.{BeyondEnd, Done, GrantAndReturn, Intent, Limits, MapNo, OutOfRange, Read, ReadAndGrant, Refusal, SlotEvent, Write}
use Rattle.hp_model.specs.declared.event.SlotEvent.TheVariants.{Mount as MountEvent}
use Rattle.hp_model.proofs.Words.{Choice, File, IsSoundFile, IsSoundMount, Mount, Plan, Pool, Slot, Spot, access, again, asked, byte_access, bytes_answer, fault, file_forked, file_named}
use Rattle.hp_model.proofs.Words.{file_pages_at, file_unmapped, file_without, gives, granted, has_name, is_among, is_beyond, is_map, is_unmapped, lacking, limits, load, mapped, mount_outcome}
use Rattle.hp_model.proofs.Words.{mount_pages, mount_section, new_file, next_number, on_mount, on_none, pages_at, punched, range_filled, refuse, remount_outcome, remount_section, rising_nodes}
use Rattle.hp_model.proofs.Words.{section, spot, stamps_of, store, truncated, unentered, unless, unlinked, value, wanted_of, with_file, written}
use Rattle.hp_laws.specs.Balance.{Change, Moves, IsBalanced, left_by}
use Rattle.hp_laws.specs.Laws.{SlotsAreBalanced}
use Rattle.hp_laws.proofs.steps.Accesses.{access_balanced, written_same}
use Rattle.hp_model.proofs.Distinct.{is_among-append}
use Rattle.hp_laws.proofs.counts.Copies.{agreed_file}
use Rattle.hp_laws.proofs.counts.Falls.{unmapped_falls, without_falls, forked_falls, punched_falls, truncated_falls, unlinked_falls}
use Rattle.hp_laws.proofs.counts.FileMoves.{FileGrows}
use Rattle.hp_laws.proofs.counts.Filled.{filled_fills}
use Rattle.hp_laws.proofs.lists.NodesOf.{length-nodes_of}
use Rattle.hp_laws.proofs.counts.OneMapMore.{mapped_grows}
use Rattle.hp_laws.proofs.counts.MountMoves.{MountFalls, MountGrows, IsSpot, IsFileAt, file_at, nothing_more, file_fills, file_grows, new_grows, file_sweeps, files_sweep, spot_is}
use Rattle.hp_laws.proofs.steps.Plans.{stays, grown_same, balanced_unless, balanced_fill, balanced_grant, balanced_gives, balanced_then, mount_falls}
use Rattle.hp_laws.proofs.steps.Walk.{Walks, walk_all}

-- ---- a new stamp

among_files : (q : ℕ) (fs : List File) → is_among q (flat_map stamps_of fs) ≡ list_any (λ f. is_among q (stamps_of f)) fs
among_files q [] = refl
among_files q (f ∷ fs) = is_among-append q (stamps_of f) (flat_map stamps_of fs) ∙ ap (λ b. is_among q (stamps_of f) || b) (among_files q fs)

pub new_in_file : (q : ℕ) (m : Mount) (at_no : ℕ) (f : File) → IsFileAt m at_no f → is_among q (flat_map stamps_of m.files) ≡ false → is_among q (stamps_of f) ≡ false
new_in_file q m at_no f at new =
    false_from_ne_true (is_among q (stamps_of f))
    (λ e. both_ways (is_among q (flat_map stamps_of m.files)) new
    (among_files q m.files ∙ list_any_at (λ f. is_among q (stamps_of f)) m.files at_no f at.within (ap (λ f. is_among q (stamps_of f)) (at.is f) ∙ e)))

-- ---- what changes nothing

same_file : (f : File) → FileGrows f f 0 0 0
same_file f = record { pages = omega arith; usage = omega arith; each = λ n. nothing_more (0 == n) (file_pages_at n f) }

same_mount : (m : Mount) → MountGrows m m 0 0 0
same_mount m = record { pages = omega arith; usage = omega arith; each = λ n. nothing_more (0 == n) (pages_at n m); limits = refl }

-- ---- accesses

balanced_last : (old : Slot) (b : Bool) (r : Refusal) (p : Plan) → (b ≡ false → IsBalanced old p) → IsBalanced old (unless ((b, r) ∷ []) p)
balanced_last old b r p h = cond_both b (refuse r) p (IsBalanced old) (λ e. stays old) h

module _ (c : Choice) (size : ℕ) (m : Mount) (sound : IsSoundMount m) (new : is_among c.stamp (flat_map stamps_of m.files) ≡ false) (home i : ℕ) (s : Spot) (at : IsSpot m s) where
  guarded : (intent : Intent) → IsBalanced (Some m) (unless ((is_beyond s i, BeyondEnd) ∷ []) (access c size m s home i intent))
  guarded intent =
      balanced_last (Some m) (is_beyond s i) BeyondEnd (access c size m s home i intent)
      (λ e. access_balanced c size m s at (agreed_file s.file (subst IsSoundFile (at.file.is s.file) (sound.files s.file_no s.file at.file.within)))
      (new_in_file c.stamp m s.file_no s.file at.file new) home i intent (leb-false (length s.file.cells) i e))

  fault_balanced : (intent : Intent) → IsBalanced (Some m) (fault c size m home i intent s)
  fault_balanced intent = balanced_unless (Some m) ((is_unmapped s i, OutOfRange) ∷ []) (unless ((is_beyond s i, BeyondEnd) ∷ []) (access c size m s home i intent)) (guarded intent)

  byte_balanced : (offset count : ℕ) (intent : Intent) → IsBalanced (Some m) (byte_access c size m home i offset count intent s)
  byte_balanced offset count intent = grind (arith, balanced_unless, guarded)

  load_balanced : (offset count : ℕ) → IsBalanced (Some m) (load c size m home i offset count s)
  load_balanced offset count =
      balanced_then (Some m) (λ n. bytes_answer offset count (value size (again n s).file (again n s).map i)) (λ n. n) (byte_access c size m home i offset count Read s)
      same_mount (byte_balanced offset count Read)

  store_balanced : (offset : ℕ) (bytes : List ℕ) → IsBalanced (Some m) (store c size m home i offset bytes s)
  store_balanced offset bytes =
      balanced_then (Some m) (λ n. Done) (λ n. written n s i offset bytes) (byte_access c size m home i offset (length bytes) Write s)
      (λ n. written_same n s i offset bytes) (byte_balanced offset (length bytes) Write)

-- ---- mount

nothing : Change None None 0 0 (λ n. 0) (λ n. 0) 0
nothing = stays None

mount_by : (stamp : ℕ) (refused after_grant granted : Bool) (node nr : ℕ) (pages : List ℕ) (l : Result Limits Refusal)
    → Moves None (mount_section (record { stamp = stamp; refused = refused; after_grant = after_grant }) (mount_pages (record { stamp = stamp; refused = refused; after_grant = after_grant }) l))
    (record { granted = granted; node = node; nr = nr; pages = pages })
    (left_by None (mount_outcome (record { stamp = stamp; refused = refused; after_grant = after_grant }) (record { granted = granted; node = node; nr = nr; pages = pages }) l))
mount_by stamp refused after_grant granted node nr pages l = grind arith

pub tells_nr : (p : Pool) (after_grant : Bool) (d : ℕ) → (section p (if after_grant then GrantAndReturn d else ReadAndGrant d)).0.nr ≡ p.nr
tells_nr p after_grant d = grind arith

-- ---- remount

remount_by : (m : Mount) (granted : Bool) (node nr : ℕ) (pages : List ℕ) (l : Result Limits Refusal)
    → Moves (Some m) (remount_section m l) (record { granted = granted; node = node; nr = nr; pages = pages })
    (left_by (Some m) (remount_outcome m (record { granted = granted; node = node; nr = nr; pages = pages }) l))
remount_by m granted node nr pages l = grind arith

pub remount_tells : (p : Pool) (m : Mount) (l : Result Limits Refusal) → (section p (remount_section m l)).0.nr ≡ p.nr
remount_tells p m l = grind arith

on_none_balanced : (size : ℕ) (c : Choice) (e : SlotEvent) → IsBalanced None (on_none size c e)
on_none_balanced size c (MountEvent options) = (
  (λ a. mount_by c.stamp c.refused c.after_grant a.granted a.node a.nr a.pages (limits a.nr size (wanted_of options))),
  (λ p. ap (λ nr. mount_section c (mount_pages c (limits nr size (wanted_of options)))) (tells_nr p c.after_grant (mount_pages c (limits p.nr size (wanted_of options))))),
)
on_none_balanced size c other = nothing

-- ---- the events of a mount

module _ (size slot : ℕ) (c : Choice) (m : Mount) (sound : IsSoundMount m) (new : is_among c.stamp (flat_map stamps_of m.files) ≡ false) where
  falls : (n : Mount) → MountFalls m n → IsBalanced (Some m) (gives Done (Some m) (Some n))
  falls n less = balanced_gives Done (Some m) (Some n) (mount_falls m n less)

  named : (name : List ℕ) (q : ℕ × File) → file_named m name ≡ Some q → IsFileAt m q.0 q.1
  named name q is = file_at m (has_name name) q is

  mapped_at : (task number : ℕ) (s : Spot) → spot m (is_map task number) ≡ Some s → IsSpot m s
  mapped_at task number s is = spot_is m (is_map task number) s is

  events_balanced : Walks size slot c m (λ e. IsBalanced (Some m))
  events_balanced = record {
    refuses = λ e r. stays (Some m);
    whole = λ name a b q is. stays (Some m);
    tells = λ e a yes. stays (Some m);
    reads = λ name i offset count bytes few. stays (Some m);
    creates = λ name new. grown_same m _ (new_grows m (Some name) (new_file (Some name)) 0 (same_file (new_file (Some name))));
    unlinks = λ name q is. falls _ (file_sweeps m q.0 q.1 (unlinked q.1) (named name q is) (unlinked_falls q.1));
    truncates = λ name n q is. falls _ (file_sweeps m q.0 q.1 (truncated n q.1) (named name q is) (truncated_falls n q.1));
    punches = λ name a b q is. falls _ (file_sweeps m q.0 q.1 (punched a b q.1) (named name q is) (punched_falls a b q.1));
    fills = λ name a b q is.
        balanced_fill c m (λ nodes. with_file m q.0 (range_filled size a b nodes q.1)) (lacking a b q.1) (unentered a b q.1)
        (λ pages. file_fills m q.0 q.1 _ _ _ (named name q is) (filled_fills size a b (rising_nodes (lacking a b q.1) pages) q.1 (length-nodes_of (lacking a b q.1) pages)));
    maps = λ task home name a n sharing reserving q is few.
        (let k = asked sharing reserving a n q.1 in
        let number = next_number task m in
        balanced_grant c m _ home k (MapNo number)
        (file_grows m q.0 q.1 (mapped task number a n sharing reserving q.1) 0 0 k (named name q is) (mapped_grows task number a n sharing reserving q.1)));
    anons = λ task home n sharing reserving few.
        (let k = asked sharing reserving 0 n (new_file None) in
        let number = next_number task m in
        balanced_grant c m _ home k (MapNo number)
        (new_grows m None (mapped task number 0 n sharing reserving (new_file None)) k (mapped_grows task number 0 n sharing reserving (new_file None))));
    unmaps = λ task number a b. falls _ (files_sweep m (file_unmapped (is_map task number) a b) (unmapped_falls (is_map task number) a b));
    forks = λ parent child few. falls _ (files_sweep m (file_forked parent child) (forked_falls parent child));
    exits = λ task. falls _ (files_sweep m (file_without task) (without_falls task));
    faults = λ task number s is home i intent. fault_balanced c size m sound new home i s (mapped_at task number s is) intent;
    loads = λ task number s is home i offset count. load_balanced c size m sound new home i s (mapped_at task number s is) offset count;
    stores = λ task number s is home i offset bytes. store_balanced c size m sound new home i s (mapped_at task number s is) offset bytes;
  }

  on_mount_balanced : (e : SlotEvent) → IsBalanced (Some m) (on_mount size slot c m e)
  on_mount_balanced e =
      walk_all size slot c m (λ e. IsBalanced (Some m)) events_balanced
      (λ options. (
        (λ a. remount_by m a.granted a.node a.nr a.pages (limits a.nr size (wanted_of options))),
        (λ p. ap (λ nr. remount_section m (limits nr size (wanted_of options))) (remount_tells p m (limits p.nr size (wanted_of options)))),
      ))
      (balanced_gives Done (Some m) None (record { committed = omega arith; each = λ n. omega arith; usage = omega arith })) e

pub slots_are_balanced : SlotsAreBalanced
slots_are_balanced size slot c h3 e new sound = grind (arith, on_none_balanced, on_mount_balanced, not-true)
