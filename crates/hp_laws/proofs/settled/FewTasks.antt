-- A slot has maps of no more tasks than there may be, whatever event it carries out.
use Rattle.std.proofs.lemmas.Grind.{common_steps}
use Rattle.std.proofs.Common.{◌≡◌, ℕ, ◌+◌, ◌<◌, ◌≤◌, Bool, true, false, ◌&&◌, ◌||◌, ◌==◌, not, None, Some, List, [], ◌∷◌, ◌++◌, length, map, cond, arith, refl, sym, ap, ◌∙◌, subst, nat_lt, nat_le}
use Rattle.std.proofs.Common.{count_by, filter, flat_map, sum_by}
use Rattle.std.proofs.lemmas.Bool.{cond_both, eqb-true, leb-false, ltb-false}
use Rattle.std.proofs.lemmas.List.Sums.{sum_by-append, sum_by-cons}
use Rattle.hp_laws.proofs.Variants.{Done, Read, Reserving, Sharing, SlotEvent, Write}
use Rattle.hp_model.specs.declared.event.SlotEvent.TheVariants as slot
use Rattle.hp_model.proofs.Words.{Answered, Choice, File, Map, Mount, Outcome, Slot, Spot, access, byte_access, distinct, fault_tests, file_unmapped, file_without, file_written, forked, gives}
use Rattle.hp_model.proofs.Words.{is_among, is_kept, is_map, is_new_task_over, is_of, lacking, map_punched, mapped, maps_of, most_maps, most_tasks, new_file, new_map, next_number, on_mount, punched}
use Rattle.hp_model.proofs.Words.{range_filled, rising_nodes, slot_event, swept, tasks_of, truncated, umount_tests, unlinked, with_file, with_new, without_task, written}
use Rattle.hp_laws.specs.Follows.{Shape, shape_of}
use Rattle.hp_model.proofs.Distinct.{is_among-append, length_if, same_members}
use Rattle.hp_laws.specs.Balance.{Always, left_by}
use Rattle.hp_laws.proofs.names.Accessed.{access_on, bytes_on, key_edit}
use Rattle.hp_laws.proofs.names.Keys.{FileKey, file_key, keys}
use Rattle.hp_laws.proofs.counts.MountMoves.{IsFileAt, IsSpot}
use Rattle.hp_laws.proofs.counts.MountsSound.{set_count}
use Rattle.hp_laws.proofs.steps.Outcomes.{always_then, always_weaker}
use Rattle.hp_laws.proofs.lists.Places.{sum_by-filter_le, sum_by-map_le}
use Rattle.hp_laws.proofs.accesses.Shown.{On, on_follows}
use Rattle.hp_laws.proofs.lists.AtMostOne.{bit}
use Rattle.hp_laws.proofs.accesses.SlotShows.{always_gives, always_mount, always_remount, always_unless}
use Rattle.hp_laws.proofs.steps.Walk.{AreFewMaps, walk}
use Rattle.hp_laws.proofs.settled.LeavesWalk.{Leaves, leaves_walk}
use Rattle.hp_laws.proofs.names.Meanings.{written_key}

-- ---- a list whose numbers are all in another has no more different ones

cond_le : (b : Bool) (n : ℕ) → n ≤ cond b n (n + 1)
cond_le b n = grind arith

grows : (ys xs : List ℕ) → length (distinct xs) ≤ length (distinct (ys ++ xs))
grows [] xs = omega arith
grows (y ∷ ys) xs = (let before = grows ys xs in let is = length_if (is_among y (ys ++ xs)) y (distinct (ys ++ xs)) in
    let le = cond_le (is_among y (ys ++ xs)) (length (distinct (ys ++ xs))) in omega (arith, before, is, le))

covers : (a b : Bool) → (b ≡ true → a ≡ true) → (a || b) ≡ a
covers a b h = grind arith

pub fewer : (xs ys : List ℕ) → ((q : ℕ) → is_among q xs ≡ true → is_among q ys ≡ true) → length (distinct xs) ≤ length (distinct ys)
fewer xs ys within =
    let more = grows ys xs in
    let same = same_members (ys ++ xs) ys (λ q. is_among-append q ys xs ∙ covers (is_among q ys) (is_among q xs) (within q)) in
    omega (arith, more, same)

or_right : (a b : Bool) → b ≡ true → (a || b) ≡ true
or_right a b e = grind arith

or_both : (a b c : Bool) → (b ≡ true → c ≡ true) → (a || b) ≡ true → (a || c) ≡ true
or_both a b c h e = grind arith

neither : (a b : Bool) → (a || b) ≡ false → (a ≡ false) × (b ≡ false)
neither a b e = grind arith

distinct_in : (q : ℕ) (xs : List ℕ) → is_among q (distinct xs) ≡ true → is_among q xs ≡ true
distinct_in q [] e = e
distinct_in q (x ∷ xs) e =
    cond_both (is_among x xs) (distinct xs) (x ∷ distinct xs) (λ (l : List ℕ). is_among q l ≡ true → ((x == q) || is_among q xs) ≡ true)
    (λ t i. or_right (x == q) (is_among q xs) (distinct_in q xs i)) (λ t i. or_both (x == q) (is_among q (distinct xs)) (is_among q xs) (distinct_in q xs) i) e

-- ---- how many maps a task has

abbrev by_task : ℕ → Mount → ℕ
by_task q m = count_by (is_of q) (maps_of m)

abbrev tasks : List Map → List ℕ
tasks xs = map (λ (x : Map). x.task) xs

one_or : (b : Bool) (n : ℕ) (r : Bool) → (0 < n → r ≡ true) → 0 < bit b + n → (b || r) ≡ true
one_or b n r h l = grind arith

or_one : (b : Bool) (n : ℕ) (r : Bool) → (r ≡ true → 0 < n) → (b || r) ≡ true → 0 < bit b + n
or_one b n r h e = grind arith

among_some : (q : ℕ) (xs : List Map) → 0 < count_by (is_of q) xs → is_among q (tasks xs) ≡ true
among_some q [] l = absurd (omega (arith, l))
among_some q (x ∷ xs) l =
    let parts = sum_by-cons (λ (y : Map). bit (is_of q y)) x xs in
    one_or (is_of q x) (count_by (is_of q) xs) (is_among q (tasks xs)) (among_some q xs) (omega (arith, l, parts))

some_among : (q : ℕ) (xs : List Map) → is_among q (tasks xs) ≡ true → 0 < count_by (is_of q) xs
some_among q [] e = cc
some_among q (x ∷ xs) e =
    let parts = sum_by-cons (λ (y : Map). bit (is_of q y)) x xs in
    let some = or_one (is_of q x) (count_by (is_of q) xs) (is_among q (tasks xs)) (some_among q xs) e in
    omega (arith, parts, some)

-- ---- over the files

in_files : (q : ℕ) (fs : List File) → count_by (is_of q) (flat_map (λ f. f.maps) fs) ≡ sum_by (λ f. count_by (is_of q) f.maps) fs
in_files q [] = refl
in_files q (f ∷ fs) =
    let both = sum_by-append (λ (x : Map). bit (is_of q x)) f.maps (flat_map (λ f. f.maps) fs) in
    omega (arith, both, sum_by-cons (λ f. count_by (is_of q) f.maps) f fs, in_files q fs)

abbrev shape_bit : ℕ → Shape → ℕ
shape_bit q s = bit (s.task == q)

by_shapes : (q : ℕ) (xs : List Map) → count_by (is_of q) xs ≡ sum_by (shape_bit q) (map shape_of xs)
by_shapes q xs = grind (arith, common_steps)

abbrev in_key : ℕ → FileKey → ℕ
in_key q k = sum_by (shape_bit q) k.1

by_keys : (q : ℕ) (fs : List File) → sum_by (λ f. count_by (is_of q) f.maps) fs ≡ sum_by (in_key q) (map file_key fs)
by_keys q fs = grind (arith, common_steps)

same_file : (q : ℕ) (f g : File) → file_key f ≡ file_key g → count_by (is_of q) f.maps ≡ count_by (is_of q) g.maps
same_file q f g e = by_shapes q f.maps ∙ ap (in_key q) e ∙ sym (by_shapes q g.maps)

same_keys : (q : ℕ) (m n : Mount) → keys n ≡ keys m → by_task q n ≡ by_task q m
same_keys q m n e = in_files q n.files ∙ by_keys q n.files ∙ ap (λ ks. sum_by (in_key q) ks) e ∙ sym (by_keys q m.files) ∙ sym (in_files q m.files)

swept_le : (q : ℕ) (m : Mount) → by_task q (swept m) ≤ by_task q m
swept_le q m =
    let less = sum_by-filter_le (λ (f : File). count_by (is_of q) f.maps) is_kept m.files in
    omega (arith, less, in_files q m.files, in_files q (filter is_kept m.files))

set_le : (q : ℕ) (m : Mount) (j : ℕ) (f g : File) → IsFileAt m j f → count_by (is_of q) g.maps ≤ count_by (is_of q) f.maps → by_task q (with_file m j g) ≤ by_task q m
set_le q m j f g at le = (let set = set_count (is_of q) m j f g at in omega (arith, set, le))

each_le : (q : ℕ) (m : Mount) (h : File → File) → ((f : File) → count_by (is_of q) (h f).maps ≤ count_by (is_of q) f.maps) → by_task q (record m { files = map h m.files }) ≤ by_task q m
each_le q m h le =
    let less = sum_by-map_le (λ (f : File). count_by (is_of q) f.maps) h le m.files in
    omega (arith, less, in_files q m.files, in_files q (map h m.files))

new_is : (q : ℕ) (m : Mount) (g : File) → by_task q (with_new m g) ≡ by_task q m + count_by (is_of q) g.maps
new_is q m g = grind (arith, common_steps)

kept_tasks : (q : ℕ) (h : Map → Map) → ((x : Map) → (h x).task ≡ x.task) → (xs : List Map) → count_by (is_of q) (map h xs) ≤ count_by (is_of q) xs
kept_tasks q h same xs = sum_by-map_le (λ (x : Map). bit (is_of q x)) h (λ x. (let e = ap (λ t. bit (t == q)) (same x) in omega (arith, e))) xs

-- ---- what an event leaves

abbrev pub Few : Mount → Type 0
Few m = length (tasks_of m) ≤ most_tasks

module _ (size k : ℕ) (c : Choice) (m : Mount) (few : Few m) where
  less_few : (n : Mount) → ((q : ℕ) → by_task q n ≤ by_task q m) → Few n
  less_few n le =
      let less = fewer (tasks (maps_of n)) (tasks (maps_of m)) (λ q e. (let some = some_among q (maps_of n) e in let l = le q in among_some q (maps_of m) (omega (arith, some, l)))) in
      omega (arith, less, few)

  -- maps of a task more, where that was tested
  more_few : (n : Mount) (task : ℕ) → is_new_task_over m task ≡ false → ((q : ℕ) → by_task q n ≤ by_task q m + bit (task == q)) → Few n
  more_few n task test le =
      let less = fewer (tasks (maps_of n)) (task ∷ tasks (maps_of m)) within in
      let long = length_if (is_among task (tasks (maps_of m))) task (distinct (tasks (maps_of m))) in
      let room = fits (is_among task (tasks_of m)) (is_among task (tasks (maps_of m))) (distinct_in task (tasks (maps_of m))) test in
      omega (arith, less, long, room)
    where
      within : (q : ℕ) → is_among q (tasks (maps_of n)) ≡ true → ((task == q) || is_among q (tasks (maps_of m))) ≡ true
      within q e = (let some = some_among q (maps_of n) e in let l = le q in one_or (task == q) (by_task q m) (is_among q (tasks (maps_of m))) (among_some q (maps_of m)) (omega (arith, some, l)))

      fits : (a b : Bool) → (a ≡ true → b ≡ true) → (not a && nat_le most_tasks (length (tasks_of m))) ≡ false → cond b (length (tasks_of m)) (length (tasks_of m) + 1) ≤ most_tasks
      fits true true h e = few
      fits a b h e = grind (arith, leb-false)

  edited_few : (q : ℕ × File) (g : File) → IsFileAt m q.0 q.1 → ((t : ℕ) → count_by (is_of t) g.maps ≤ count_by (is_of t) q.1.maps) → Few (swept (with_file m q.0 g))
  edited_few q g at le = less_few (swept (with_file m q.0 g)) (λ t. (let set = set_le t m q.0 q.1 g at (le t) in omega (arith, set, swept_le t (with_file m q.0 g))))

  each_few : (h : File → File) → ((t : ℕ) (f : File) → count_by (is_of t) (h f).maps ≤ count_by (is_of t) f.maps) → Few (swept (record m { files = map h m.files }))
  each_few h le = less_few (swept (record m { files = map h m.files })) (λ t. (let each = each_le t m h (le t) in omega (arith, each, swept_le t (record m { files = map h m.files }))))

  unmap_le : (test : Map → Bool) (a b t : ℕ) (f : File) → count_by (is_of t) (file_unmapped test a b f).maps ≤ count_by (is_of t) f.maps
  unmap_le test a b t f = grind (arith, common_steps, sum_by-filter_le, bit, kept_tasks, cond_both)

  -- a file with a map more, made after these tests
  mapped_le : (task number a n : ℕ) (sharing : Sharing) (reserving : Reserving) (xs : List Map) (t : ℕ) →
      count_by (is_of t) (xs ++ new_map task number a n sharing reserving ∷ []) ≡ count_by (is_of t) xs + bit (task == t)
  mapped_le task number a n sharing reserving xs t = grind (arith, common_steps)

  -- ---- accesses

  put_few : (s : Spot) → IsSpot m s → (f : File) → file_key f ≡ file_key s.file → Few (with_file m s.file_no f)
  put_few s at f e = less_few (with_file m s.file_no f) (λ t. set_le t m s.file_no s.file f at.file (let same = same_file t f s.file e in omega (arith, same)))

  written_few : (n : Mount) (s : Spot) (i offset : ℕ) (bytes : List ℕ) → Few n → Few (written n s i offset bytes)
  written_few n s i offset bytes h =
      let same = λ (q : ℕ). same_keys q n (written n s i offset bytes) (key_edit file_key (file_written s i offset bytes) (written_key s i offset bytes) n.files s.file_no) in
      let less = fewer (tasks (maps_of (written n s i offset bytes))) (tasks (maps_of n))
      (λ q e. (let some = some_among q (maps_of (written n s i offset bytes)) e in let l = same q in
      among_some q (maps_of n) (omega (arith, some, l)))) in
      omega (arith, less, h)

  -- a map of a task more, where not too many are there
  no_task_over : (task n : ℕ) → AreFewMaps m task n → is_new_task_over m task ≡ false
  no_task_over task n few = grind arith

  -- ---- each event

  stays_few : Leaves size k c m Few
  stays_few = record {
    same = few;
    creates = λ name new. less_few (with_new m (new_file (Some name))) (λ t. (let is = new_is t m (new_file (Some name)) in omega (arith, is)));
    unlinks = λ q at. edited_few q (unlinked q.1) at (λ t. omega arith);
    truncates = λ n q at. edited_few q (truncated n q.1) at (λ t. kept_tasks t (map_punched n (n + length q.1.cells)) (λ x. refl) q.1.maps);
    punches = λ a b q at. edited_few q (punched a b q.1) at (λ t. kept_tasks t (map_punched a b) (λ x. refl) q.1.maps);
    fills = λ a b pages q at. (let g : File = range_filled size a b (rising_nodes (lacking a b q.1) pages) q.1 in less_few (with_file m q.0 g) (λ t. set_le t m q.0 q.1 g at (omega arith)));
    maps = λ task a n sharing reserving q at fits.
        (let g : File = mapped task (next_number task m) a n sharing reserving q.1 in
        more_few (with_file m q.0 g) task (no_task_over task n fits)
        (λ x. (let set = set_count (is_of x) m q.0 q.1 g at in let one = mapped_le task (next_number task m) a n sharing reserving q.1.maps x in omega (arith, set, one))));
    anons = λ task n sharing reserving fits.
        (let g : File = mapped task (next_number task m) 0 n sharing reserving (new_file None) in
        more_few (with_new m g) task (no_task_over task n fits)
        (λ x. (let is = new_is x m g in let one = mapped_le task (next_number task m) 0 n sharing reserving [] x in omega (arith, is, one))));
    unmaps = λ task number a b. each_few (file_unmapped (is_map task number) a b) (unmap_le (is_map task number) a b);
    forks = λ parent child fits.
        ltb-false most_tasks (length (tasks_of (forked parent child m)))
        (neither (nat_lt most_maps (length (maps_of (forked parent child m)))) (nat_lt most_tasks (length (tasks_of (forked parent child m)))) fits).1;
    exits = λ task. each_few (file_without task) (λ t f. sum_by-filter_le (λ (x : Map). bit (is_of t x)) (λ x. not (is_of task x)) f.maps);
    faults = λ s at home i intent. always_unless (On Few) (λ r. tt) (fault_tests i s) (access c size m s home i intent) (access_on c m Few few s at (put_few s at) size home i intent);
    reads = λ s at home i offset count. bytes_on c m Few few s at (put_few s at) size home i offset count Read;
    stores = λ s at home i offset bytes.
        (let write = λ (n : Mount). Answered Done (Some (written n s i offset bytes)) in
        always_then (On Few) (On Few) write (on_follows Few Few write (λ n h. written_few n s i offset bytes h))
        (byte_access c size m home i offset (length bytes) Write s) (bytes_on c m Few few s at (put_few s at) size home i offset (length bytes) Write));
  }

-- ---- a slot

abbrev pub FewSlot : Slot → Type 0
FewSlot None = Unit {0}
FewSlot (Some m) = Few m

left_few : (m : Mount) → Few m → (o : Outcome) → On Few o → FewSlot (left_by (Some m) o)
left_few m few o on = grind arith

abbrev Stays : Slot → Outcome → Type 0
Stays old o = FewSlot (left_by old o)

pub slots_stay_few : (size k : ℕ) (c : Choice) (old : Slot) (e : SlotEvent) → FewSlot old → Always (λ o. FewSlot (left_by old o)) (slot_event size k c old e)
slots_stay_few size k c None (slot.Mount options) few = always_mount (Stays None) (λ r. tt) (λ l. omega arith) c size options
slots_stay_few size k c None other few = tt
slots_stay_few size k c (Some m) (slot.Remount options) few = always_remount (Stays (Some m)) (λ r. few) m (λ l. few) size k options
slots_stay_few size k c (Some m) slot.Umount few = always_unless (Stays (Some m)) (λ r. few) (umount_tests k m) (gives Done (Some m) None) (always_gives (Stays (Some m)) Done (Some m) None tt)
slots_stay_few size k c (Some m) e few = always_weaker (On Few) (Stays (Some m)) (left_few m few) (on_mount size k c m e)
    (walk size k c m (λ e. Always (On Few)) (leaves_walk size k c m Few (stays_few size k c m few)) e refl)

-- ---- a task's exit

one_stays : (b : Bool) (q : ℕ) (x : Map) (ys : List Map) → is_of q x ≡ b → count_by (is_of q) ys ≡ 0 → count_by (is_of q) (cond (not b) (x ∷ ys) ys) ≡ 0
one_stays b q x ys e none = grind arith

none_stay : (q : ℕ) (xs : List Map) → count_by (is_of q) (filter (λ (x : Map). not (is_of q x)) xs) ≡ 0
none_stay q [] = refl
none_stay q (x ∷ xs) = one_stays (is_of q x) q x (filter (λ (x : Map). not (is_of q x)) xs) refl (none_stay q xs)

none_left : (q : ℕ) (fs : List File) → sum_by (λ f. count_by (is_of q) f.maps) (map (file_without q) fs) ≡ 0
none_left q [] = refl
none_left q (f ∷ fs) = omega (arith, sum_by-cons (λ (f : File). count_by (is_of q) f.maps) (file_without q f) (map (file_without q) fs), none_stay q f.maps, none_left q fs)

exits : (q : ℕ) (m : Mount) → by_task q (without_task q m) ≡ 0
exits q m =
    let all : Mount = record m { files = map (file_without q) m.files } in
    omega (arith, swept_le q all, in_files q all.files, none_left q m.files)

exits_le : (q t : ℕ) (m : Mount) → by_task t (without_task q m) ≤ by_task t m
exits_le q t m =
    let all : Mount = record m { files = map (file_without q) m.files } in
    let each = each_le t m (file_without q) (λ f. sum_by-filter_le (λ (x : Map). bit (is_of t x)) (λ x. not (is_of q x)) f.maps) in
    omega (arith, each, swept_le t all)

not_true : (b : Bool) → (b ≡ true → ⊥) → b ≡ false
not_true b h = grind arith

-- the exit of a task that has maps leaves maps of a task less
pub exit_fewer : (q : ℕ) (m : Mount) → is_among q (tasks_of m) ≡ true → length (tasks_of (without_task q m)) < length (tasks_of m)
exit_fewer q m has =
    let n : Mount = without_task q m in
    let here : is_among q (tasks (maps_of m)) ≡ true = distinct_in q (tasks (maps_of m)) has in
    let gone : is_among q (tasks (maps_of n)) ≡ false = not_true (is_among q (tasks (maps_of n)))
    (λ e. (let some = some_among q (maps_of n) e in let none = exits q m in absurd (omega (arith, some, none)))) in
    let less = fewer (q ∷ tasks (maps_of n)) (tasks (maps_of m)) (λ t e. within t here e) in
    let long = length_if (is_among q (tasks (maps_of n))) q (distinct (tasks (maps_of n))) in
    let one = ap (λ b. cond b (length (tasks_of n)) (length (tasks_of n) + 1)) gone in
    omega (arith, less, long, one)
  where
    either : (t : ℕ) (b : Bool) → (q == t) ≡ b → is_among q (tasks (maps_of m)) ≡ true → (b || is_among t (tasks (maps_of (without_task q m)))) ≡ true → is_among t (tasks (maps_of m)) ≡ true
    either t true e here i = subst (λ x. is_among x (tasks (maps_of m)) ≡ true) (eqb-true q t e) here
    either t false e here i = (let some = some_among t (maps_of (without_task q m)) i in let le = exits_le q t m in among_some t (maps_of m) (omega (arith, some, le)))

    within : (t : ℕ) → is_among q (tasks (maps_of m)) ≡ true → ((q == t) || is_among t (tasks (maps_of (without_task q m)))) ≡ true → is_among t (tasks (maps_of m)) ≡ true
    within t here i = either t (q == t) refl here i
