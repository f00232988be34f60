-- How many maps each task has, by what files are called, and how many tasks there are.
use Rattle.std.proofs.Common.{◌≡◌, ℕ, suc, ◌+◌, ◌-◌, ◌<◌, ◌==◌, ◌||◌, nat_lt, Bool, true, false, not, cond, List, [], ◌∷◌, length, map, refl}
use Rattle.std.proofs.Common.{sym, ap, ◌∙◌, arith, All, count_by, filter, flat_map, sum_by, get_or}
use Rattle.std.specs.List.Sorted.{IsStrictlyIncreasing}
use Rattle.std.proofs.lemmas.Bool.Decides.{nat_tests}
use Rattle.std.proofs.lemmas.List.Sums.{sum_by-append, sum_by-cons}
use Rattle.hp_model.proofs.Words.{Map, Mapping, distinct, is_among, is_of}
use Rattle.hp_model.proofs.Counting.{count_cons, count_map}
use Rattle.hp_model.proofs.Distinct.{same_members}
use Rattle.hp_store.specs.Store.{Store}
use Rattle.hp_lookup.proofs.Words.{Label, NumberedFile, all_maps, all_tasks, emptied, files_shown, is_first_of, is_listed, is_used, key_of, label_of, labels_of, left_by, maps_by}
use Rattle.hp_lookup.proofs.Words.{maps_for, tasks_in, with_truncated}
use Rattle.hp_lookup.specs.Table.{IsTable, numbers_under}
use Rattle.hp_lookup.proofs.ForkCounts.{task_maps}
use Rattle.hp_lookup.proofs.Leaving.{used_label}
use Rattle.hp_lookup.proofs.MapNumbers.{among_distinct}
use Rattle.hp_lookup.proofs.Rising.{once, rise_removed}
use Rattle.hp_lookup.proofs.Unique.{tasks_counted}

pub own_maps : (task : ℕ) (f : NumberedFile) → maps_for task (label_of f) ≡ count_by (is_of task) f.maps
own_maps task f = count_map (λ (k : ℕ × ℕ). k.0 == task) key_of f.maps

pub maps_labelled : (task : ℕ) (fs : List NumberedFile) → sum_by (maps_for task) (labels_of fs) ≡ sum_by (maps_by task) fs
maps_labelled task [] = refl
maps_labelled task (f ∷ fs) = (let here = own_maps task f in let rest = maps_labelled task fs in
    omega (arith, here, rest, sum_by-cons (maps_for task) (label_of f) (labels_of fs), sum_by-cons (maps_by task) f fs))

-- files whose maps are none of the task's stay as they are when its maps go
pub none_leave : (task : ℕ) (fs : List NumberedFile) → sum_by (maps_for task) (labels_of fs) ≡ 0 → All (λ (l : Label). is_listed l ≡ true) (labels_of fs) → map (λ f. emptied (left_by task f)) fs ≡ fs
none_leave task [] none all = refl
none_leave task (f ∷ fs) none all =
    let step = sum_by-cons (maps_for task) (label_of f) (labels_of fs) in
    let own = own_maps task f in
    let rest = none_leave task fs (omega (arith, none, step)) (λ i e l. all (suc i) e (omega (arith, l))) in
    let same : left_by task f ≡ f = ap (λ ms. record f { maps = ms }) (others_all f.maps (omega (arith, none, step, own))) in
    let used : is_used f ≡ true = sym (used_label f) ∙ all 0 (label_of f) (omega arith) in
    ap (λ g. g ∷ map (λ f. emptied (left_by task f)) fs) (ap emptied same ∙ ap (λ b. cond b f (with_truncated 0 f)) used) ∙ ap (λ gs. f ∷ gs) rest
  where
    others_all : (ms : List (Mapping ℕ)) → count_by (is_of task) ms ≡ 0 → filter (λ m. not (is_of task m)) ms ≡ ms
    others_all [] e = refl
    others_all (m ∷ ms) e = at (is_of task m) refl (count_cons (is_of task) m ms) (others_all ms)
      where
        at : (b : Bool) → is_of task m ≡ b → count_by (is_of task) (m ∷ ms) ≡ cond {A = ℕ} (is_of task m) 1 0 + count_by (is_of task) ms →
            (count_by (is_of task) ms ≡ 0 → filter (λ m. not (is_of task m)) ms ≡ ms) →
            cond (not b) (m ∷ filter (λ m. not (is_of task m)) ms) (filter (λ m. not (is_of task m)) ms) ≡ m ∷ ms
        at true is step rest = (let one = ap (λ b. cond {A = ℕ} b 1 0 + 0) is in absurd (omega (arith, one, step, e)))
        at false is step rest = ap (λ qs. m ∷ qs) (rest (omega (arith, step, e)))

pub maps_tallied : (task : ℕ) (s : Store) (fs : List NumberedFile) → sum_by (maps_for task) (labels_of fs) ≡ count_by (is_of task) (all_maps (files_shown s fs))
maps_tallied task s fs = maps_labelled task fs ∙ task_maps task s fs

pub tasks_tallied : (task : ℕ) (ls : List Label) → sum_by (maps_for task) ls ≡ count_by (λ t. t == task) (flat_map tasks_in ls)
tasks_tallied task [] = refl
tasks_tallied task (l ∷ ls) =
    let here = count_map (λ t. t == task) (λ (k : ℕ × ℕ). k.0) l.keys in
    let both = sum_by-append (λ t. cond {A = ℕ} (t == task) 1 0) (tasks_in l) (flat_map tasks_in ls) in
    let rest = tasks_tallied task ls in
    omega (arith, here, both, rest, sum_by-cons (maps_for task) l ls)

-- ---- whether there is one

positive : (n : ℕ) → 0 < n → nat_lt 0 n ≡ true
positive n l = grind (arith, nat_tests)

pub among_count : (q : ℕ) (xs : List ℕ) → is_among q xs ≡ nat_lt 0 (count_by (λ x. x == q) xs)
among_count q [] = refl
among_count q (x ∷ xs) = at (x == q) refl (count_cons (λ x. x == q) x xs) (among_count q xs)
  where
    at : (b : Bool) → (x == q) ≡ b → count_by (λ x. x == q) (x ∷ xs) ≡ cond (x == q) 1 0 + count_by (λ x. x == q) xs →
        is_among q xs ≡ nat_lt 0 (count_by (λ x. x == q) xs) → ((x == q) || is_among q xs) ≡ nat_lt 0 (count_by (λ x. x == q) (x ∷ xs))
    at true e step rest = ap (λ b. b || is_among q xs) e ∙ sym (positive (count_by (λ x. x == q) (x ∷ xs)) (let here = ap (λ b. cond {A = ℕ} b 1 0 + 0) e in omega (arith, step, here)))
    at false e step rest = ap (λ b. b || is_among q xs) e ∙ rest ∙ ap (λ n. nat_lt 0 n) (let here = ap (λ b. cond {A = ℕ} b 1 0 + 0) e in omega (arith, step, here))

pub has_some : (task count : ℕ) (s : Store) (fs : List NumberedFile) → count ≡ sum_by (maps_for task) (labels_of fs) → nat_lt 0 count ≡ not (is_first_of task (files_shown s fs))
has_some task count s fs is =
    ap (λ n. nat_lt 0 n) (is ∙ tasks_tallied task (labels_of fs)) ∙ sym (among_count task (flat_map tasks_in (labels_of fs)))
    ∙ ap (is_among task) (tasks_counted s fs) ∙ sym (among_distinct task (map (λ (m : Map). m.task) (all_maps (files_shown s fs))))
    ∙ twice (is_among task (all_tasks (files_shown s fs)))
  where
    twice : (b : Bool) → b ≡ not (not b)
    twice true = refl
    twice false = refl

-- ---- a task that has maps is in the table once

once_rising : (xs : List ℕ) → IsStrictlyIncreasing xs → length (distinct xs) ≡ length xs
once_rising [] up = refl
once_rising (x ∷ xs) up =
    ap (λ b. length (cond b (distinct xs) (x ∷ distinct xs))) (once (x ∷ xs) up 0 (omega arith))
    ∙ (let rest = once_rising xs (rise_removed (x ∷ xs) up 0 (omega arith)) in omega (arith, rest))

known_some : (q : ℕ) (ts : List ℕ) (ms : List (List ℕ)) → length ms ≡ length ts → ((i : ℕ) → i < length ms → 0 < length (get_or ms i [])) → is_among q ts ≡ nat_lt 0 (length (numbers_under q ts ms))
known_some q [] ms each some = refl
known_some q (t ∷ ts) [] each some = absurd (omega (arith, each))
known_some q (t ∷ ts) (m ∷ ms) each some = by (t == q) (known_some q ts ms (omega (arith, each)) (λ i l. some (suc i) (omega (arith, l))))
  where
    by : (b : Bool) → is_among q ts ≡ nat_lt 0 (length (numbers_under q ts ms)) → (b || is_among q ts) ≡ nat_lt 0 (length (cond b m (numbers_under q ts ms)))
    by true rest = sym (positive (length m) (some 0 (omega arith)))
    by false rest = rest

pub tasks_once : (ts : List ℕ) (ms : List (List ℕ)) (tasks : List ℕ) → IsTable ts ms → ((q : ℕ) → length (numbers_under q ts ms) ≡ count_by (λ t. t == q) tasks) → length ts ≡ length (distinct tasks)
tasks_once ts ms tasks is counts =
    sym (once_rising ts is.rise) ∙ same_members ts tasks (λ q. known_some q ts ms is.each is.some ∙ ap (λ n. nat_lt 0 n) (counts q) ∙ sym (among_count q tasks))
