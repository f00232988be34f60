-- What takes away leaves less to take.
use Rattle.std.proofs.lemmas.Grind.{common_steps}
use Rattle.std.proofs.Common.{◌≡◌, ℕ, zero, suc, ◌+◌, ◌-◌, ◌*◌, ◌<◌, ◌≤◌, Bool, true, false, not, ◌||◌, ◌==◌, None, Some, Ok, Err, Option, List, [], ◌∷◌, length, map, cond, arith, refl, sym, ap, ◌∙◌}
use Rattle.std.proofs.Common.{subst, is_some, filter, find, sum, slice_index_or, option_map}
use Rattle.std.specs.List.{list_any}
use Rattle.std.proofs.lemmas.Bool.{cond_both, eqb-true, ltb-true}
use Rattle.std.proofs.lemmas.List.{length-map}
use Rattle.std.proofs.lemmas.List.Sums.{sum_by-cons}
use Rattle.hp_laws.proofs.Variants.{Done, NoSuchTask, OfPool, OfSlot, PoolEntry, PoolEvent, Remove, SlotEvent, TableEvent, TaskExists, TooMany}
use Rattle.hp_model.specs.declared.event.PoolEvent.TheVariants.{Nr}
use Rattle.hp_model.specs.declared.event.SlotEvent.TheVariants as slot
use Rattle.hp_model.proofs.Words.{Choice, GivesWhatIsInUse, IsInUse, IsPoolStep, IsSettledPool, KeepsPlaces, Map, Mount, Pool, Reply, Slot, Table, added, distinct, frames_of, has_maps_of, home_of}
use Rattle.hp_model.proofs.Words.{is_among, is_crowded, is_giving_back, is_known, is_of, most_tasks, or_refused, pool_event, puts_from, released, removed, removes_maps, removes_task, set_nr}
use Rattle.hp_model.proofs.Words.{slot_event, table_event, tasks_of, to_exit, to_return, trimmed, used as row_used, when_known}
use Rattle.hp_model.proofs.RowMoves.{same_frames, used_sum}
use Rattle.hp_laws.specs.Balance.{Always, left_by}
use Rattle.hp_laws.proofs.settled.FewTasks.{FewSlot, exit_fewer, slots_stay_few}
use Rattle.hp_laws.proofs.steps.Outcomes.{always_weaker}
use Rattle.hp_laws.proofs.sections.SectionFrames.{section_frames}
use Rattle.hp_laws.proofs.sections.Sections.{gave_back, set_leads, total-le-frames}
use Rattle.hp_laws.proofs.accesses.SlotShows.{always_gives}

-- ---- the table

abbrev Keeps : Table → Bool → Reply × Table → Type 0
Keeps t is_one r = KeepsPlaces most_tasks (length t) (length r.1) is_one

same_table : (t : Table) (r : Reply) → length t ≤ most_tasks → Keeps t false (r, t)
same_table t r few = record { enough = few; less = λ e. cc }

-- the last of the tests is that there is room
adds : (t : Table) (task home : ℕ) → length t ≤ most_tasks → Keeps t false (or_refused ((is_known t task, TaskExists) ∷ (is_crowded t, TooMany) ∷ []) t (Ok Done, added t task home))
adds t task home few = grind (arith, common_steps)

no_longer : {X : Type 0} (p : X → Bool) (xs : List X) → length (filter p xs) ≤ length xs
no_longer p [] = omega arith
no_longer p (x ∷ xs) = cond_both (p x) (x ∷ filter p xs) (filter p xs) (λ ys. length ys ≤ suc (length xs))
    (λ e. (let l = no_longer p xs in omega (arith, l))) (λ e. (let l = no_longer p xs in omega (arith, l)))

-- where one passes, fewer do not
shorter : {X Y : Type 0} (p : X → Bool) (f : X → Y) (xs : List X) → is_some (option_map f (find p xs)) ≡ true → length (filter (λ x. not (p x)) xs) < length xs
shorter p f [] e = cc
shorter p f (x ∷ xs) e = go (p x) (shorter p f xs) e
  where
    go : (b : Bool) → (is_some (option_map f (find p xs)) ≡ true → length (filter (λ x. not (p x)) xs) < length xs) → is_some (option_map f (cond b (Some x) (find p xs))) ≡ true
        → length (cond (not b) (x ∷ filter (λ x. not (p x)) xs) (filter (λ x. not (p x)) xs)) < suc (length xs)
    go true rest e = (let l = no_longer (λ x. not (p x)) xs in omega (arith, l))
    go false rest e = (let l = rest e in omega (arith, l))

pub table_places : (nodes : ℕ) (t : Table) (e : TableEvent) → length t ≤ most_tasks → Keeps t (removes_task t e) (table_event nodes t e)
table_places nodes t (Remove task) few = at (home_of t task) refl
  where
    at : (o : Option ℕ) → home_of t task ≡ o → Keeps t (is_some o) (when_known t o (λ home. (Ok Done, removed t task)))
    at None is = same_table t (Err NoSuchTask) few
    at (Some home) is =
        let less = shorter {X = ℕ × ℕ} (λ e. e.0 == task) (λ e. e.1) t (ap is_some is) in
        record { enough = omega (arith, less, few); less = λ e. less }
table_places nodes t e few = grind (arith, cond_both, same_table, adds)

-- ---- a slot

few_of : (s : Slot) → to_exit s ≤ most_tasks → FewSlot s
few_of s l = grind arith

enough_of : (s : Slot) → FewSlot s → to_exit s ≤ most_tasks
enough_of s f = grind arith

or_else : (a b c : Bool) → (b ≡ true → c ≡ true) → (a || b) ≡ true → (a || c) ≡ true
or_else a b c h e = grind arith

in_distinct : (q : ℕ) (xs : List ℕ) → is_among q xs ≡ true → is_among q (distinct xs) ≡ true
in_distinct q [] e = e
in_distinct q (x ∷ xs) e =
    cond_both (is_among x xs) (distinct xs) (x ∷ distinct xs) (λ (l : List ℕ). is_among q l ≡ true) (λ t. in_distinct q xs (hidden (x == q) refl e t))
    (λ t. or_else (x == q) (is_among q xs) (is_among q (distinct xs)) (in_distinct q xs) e)
  where
    hidden : (b : Bool) → (x == q) ≡ b → (b || is_among q xs) ≡ true → is_among x xs ≡ true → is_among q xs ≡ true
    hidden true is e t = subst (λ n. is_among n xs ≡ true) (eqb-true x q is) t
    hidden false is e t = e

has_task : (q : ℕ) (xs : List Map) → list_any (is_of q) xs ≡ true → is_among q (map (λ (x : Map). x.task) xs) ≡ true
has_task q [] e = e
has_task q (x ∷ xs) e = or_else (x.task == q) (list_any (is_of q) xs) (is_among q (map (λ (x : Map). x.task) xs)) (has_task q xs) e

leaves_few : (size k : ℕ) (c : Choice) (old : Slot) (e : SlotEvent) → to_exit old ≤ most_tasks → removes_maps old e ≡ false
    → Always (λ o. KeepsPlaces most_tasks (to_exit old) (to_exit (left_by old o)) (removes_maps old e)) (slot_event size k c old e)
leaves_few size k c old e few other = grind (arith, always_weaker, FewSlot, enough_of, slots_stay_few, few_of)

exit_places : (size k : ℕ) (c : Choice) (m : Mount) (task : ℕ) → length (tasks_of m) ≤ most_tasks → (b : Bool) → has_maps_of task (Some m) ≡ b
    → Always (λ o. KeepsPlaces most_tasks (to_exit (Some m)) (to_exit (left_by (Some m) o)) (has_maps_of task (Some m))) (slot_event size k c (Some m) (slot.ExitMaps task))
exit_places size k c m task few false is = leaves_few size k c (Some m) (slot.ExitMaps task) few is
exit_places size k c m task few true is = grind (arith, exit_fewer, in_distinct, has_task, always_gives)

pub slot_places : (size k : ℕ) (c : Choice) (old : Slot) (e : SlotEvent) → to_exit old ≤ most_tasks
    → Always (λ o. KeepsPlaces most_tasks (to_exit old) (to_exit (left_by old o)) (removes_maps old e)) (slot_event size k c old e)
slot_places size k c (Some m) (slot.ExitMaps task) few = exit_places size k c m task few (has_maps_of task (Some m)) refl
slot_places size k c None (slot.ExitMaps task) few = leaves_few size k c None (slot.ExitMaps task) few refl
slot_places size k c old other few = leaves_few size k c old other few refl

-- ---- the pool

pub most_return : (p : Pool) → IsSettledPool p → to_return p ≤ 2 * frames_of p.nodes.rows
most_return p s = grind (arith, total-le-frames)

-- what is left of each
abbrev minus : List ℕ → List ℕ → List ℕ
minus [] ps = []
minus (u ∷ us) [] = u ∷ us
minus (u ∷ us) (p ∷ ps) = (u - p) ∷ minus us ps

long : (us ps : List ℕ) → length (minus us ps) ≡ length us
long [] ps = refl
long (u ∷ us) [] = refl
long (u ∷ us) (p ∷ ps) = ap suc (long us ps)

nothing : (n : ℕ) → ◌≡◌ {A = ℕ} (slice_index_or [] n 0) 0
nothing n = grind arith

abbrev Within : List ℕ → List ℕ → Type 0
Within ps us = (n : ℕ) → slice_index_or ps n 0 ≤ slice_index_or us n 0

behind : (p u : ℕ) (ps us : List ℕ) → Within (p ∷ ps) (u ∷ us) → Within ps us
behind p u ps us within n = within (suc n)

each : (us ps : List ℕ) → Within ps us → (n : ℕ) → n < length us → slice_index_or (minus us ps) n 0 + slice_index_or ps n 0 ≡ slice_index_or us n 0
each [] ps within n l = absurd (omega (arith, l))
each (u ∷ us) [] within n l = omega (arith, nothing n)
each (u ∷ us) (p ∷ ps) within zero l = (let le = within 0 in omega (arith, le))
each (u ∷ us) (p ∷ ps) within (suc n) l = each us ps (behind p u ps us within) n (omega (arith, l))

none : (ps : List ℕ) → Within ps [] → sum ps ≡ 0
none [] within = refl
none (p ∷ ps) within = (let here = within 0 in let rest = none ps (λ n. within (suc n)) in omega (arith, sum_by-cons (λ x. x) p ps, here, rest))

sums : (us ps : List ℕ) → Within ps us → sum (minus us ps) + sum ps ≡ sum us
sums [] ps within = omega (arith, none ps within)
sums (u ∷ us) [] within = omega arith
sums (u ∷ us) (p ∷ ps) within =
    let le = within 0 in
    let rest = sums us ps (behind p u ps us within) in
    omega (arith, sum_by-cons (λ x. x) p ps, sum_by-cons (λ x. x) u us, sum_by-cons (λ x. x) (u - p) (minus us ps), le, rest)

given_less : (puts : List ℕ) (k : ℕ) (p q : Pool) → IsSettledPool p → IsInUse puts k p → q ≡ trimmed (released k (puts_from 0 puts p)) → 0 < sum puts + k → to_return q < to_return p
given_less puts k p q s held is some =
    let us : List ℕ = map row_used p.nodes.rows in
    let parts = sums us puts held.pages in
    let uses = used_sum p.nodes.rows s.rows in
    let covered = held.committed in
    let gave = gave_back puts k (minus us puts) p s (long us puts ∙ length-map p.nodes.rows row_used)
    (λ n l. each us puts held.pages n (omega (arith, l, length-map p.nodes.rows row_used))) (omega (arith, parts, uses, covered)) in
    let after = used_sum (trimmed (released k (puts_from 0 puts p))).nodes.rows gave.settled.rows in
    let same = ap sum gave.is_used in
    let left = gave.is_committed in
    let less : to_return (trimmed (released k (puts_from 0 puts p))) < to_return p = omega (arith, parts, uses, covered, after, same, left, some) in
    subst (λ (x : Pool). to_return x < to_return p) (sym is) less

event_frames : (p : Pool) (e : PoolEvent) → IsSettledPool p → frames_of (pool_event p e).1.nodes.rows ≡ frames_of p.nodes.rows
event_frames p (Nr n) s = same_frames (set_nr n p).nodes.rows p.nodes.rows (set_leads n p s).frames
event_frames p e s = grind (arith, cond_both)

pub step_frames : (p q : Pool) (e : PoolEntry) → IsSettledPool p → IsPoolStep p e q → frames_of q.nodes.rows ≡ frames_of p.nodes.rows
step_frames p q (OfSlot sec a) s step = section_frames p sec a q step
step_frames p q (OfPool e r) s step = ap (λ (x : Reply × Pool). frames_of x.1.nodes.rows) (sym step) ∙ event_frames p e s

pub pool_places : (p q : Pool) (e : PoolEntry) → IsSettledPool p → IsSettledPool q → IsPoolStep p e q → GivesWhatIsInUse p e
    → KeepsPlaces (2 * frames_of p.nodes.rows) (to_return p) (to_return q) (is_giving_back e) × (frames_of q.nodes.rows ≡ frames_of p.nodes.rows)
pool_places p q e s then step held = grind (arith, most_return, step_frames, given_less, ltb-true)
