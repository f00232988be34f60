-- The trails of all parts, from the start of a machine.
use Rattle.std.proofs.Common.{◌≡◌, inl, inr, ℕ, zero, suc, ◌-◌, ◌<◌, Bool, true, false, Option, None, Some, List, [], ◌∷◌, ◌++◌, length, refl, sym, ap, subst, ◌∙◌, arith, slice_index_or, IfSome}
use Rattle.std.specs.Global.{Vec}
use Rattle.std.proofs.lemmas.Bool.{false≢true}
use Rattle.hp_locked.specs.Views.{IsPoolTrail, IsTrailOf}
use Rattle.hp_trail.specs.Keeping.{Keeping, kept_if}
use Rattle.hp_trail.specs.Walk.{lists, trails_of}
use Rattle.hp_shared.specs.declared.shared.Trails.{Trails}
use Rattle.std.proofs.lemmas.Bool.{cases_lt}
use Rattle.std.proofs.lemmas.List.{get_or_append_left, get_or-replicate, length-append, length-map, length-replicate}
use Rattle.std.proofs.Math.Seq.{get_or-append_seam}
use Rattle.hp_laws.proofs.Variants.{PoolEntry, SlotEntry, TableEntry}
use Rattle.hp_model.proofs.Words.{IsLocalRun, IsPoolRun, IsTableRun, Pool, Slot, Table, idle_node, machine_of, slot_at, slots_from, start}
use Rattle.hp_pool.specs.Sums.{idle_pool}
use Rattle.hp_shared.specs.Slots.{slot_start}
use Rattle.hp_own_pool.proofs.Starting.{start_pool}
use Rattle.hp_shared.specs.Sharing.{AreGathered, EndsRuns, entries_of}

pub none_gathered : (size : ℕ) → AreGathered size [] []
none_gathered size = record { count = refl; runs = λ k below. absurd (omega (arith, below)) }

-- one slot more
pub one_gathered : (size : ℕ) (ts : List (List SlotEntry)) (ms : List Slot) (t : List SlotEntry) (m : Slot)
    → AreGathered size ts ms → IsLocalRun size (length ms) (slot_start (length ms)) t m → AreGathered size (ts ++ t ∷ []) (ms ++ m ∷ [])
one_gathered size ts ms t m all run =
    let many = all.count in
    record {
      count = omega (arith, many, length-append ts (t ∷ []), length-append ms (m ∷ []));
      runs = λ k below.
          elim (cases_lt k (length ms)) as (λ _. IsLocalRun size k (slot_start k) (slice_index_or (ts ++ t ∷ []) k []) (slice_index_or (ms ++ m ∷ []) k None)) [
            | inl front ↦
                subst (λ x. IsLocalRun size k (slot_start k) x (slice_index_or (ms ++ m ∷ []) k None)) (sym (get_or_append_left ts (t ∷ []) [] k (omega (arith, front, many))))
                (subst (λ y. IsLocalRun size k (slot_start k) (slice_index_or ts k []) y) (sym (get_or_append_left ms (m ∷ []) None k front)) (all.runs k front))
            | inr past ↦
                let last : length ms ≡ k = omega (arith, below, past, length-append ms (m ∷ [])) in
                subst (λ j. IsLocalRun size j (slot_start j) (slice_index_or (ts ++ t ∷ []) j []) (slice_index_or (ms ++ m ∷ []) j None)) last
                (subst (λ x. IsLocalRun size (length ms) (slot_start (length ms)) x (slice_index_or (ms ++ m ∷ []) (length ms) None))
                (sym (ap (λ j. slice_index_or (ts ++ t ∷ []) j []) (sym many) ∙ get_or-append_seam ts t [] []))
                (subst (λ y. IsLocalRun size (length ms) (slot_start (length ms)) t y) (sym (get_or-append_seam ms m [] None)) run))
          ];
    }

slots_long : (n : ℕ) → 0 < n → length (slots_from n) ≡ n
slots_long n some = omega (arith, some, length-replicate {A = Slot} (n - 1) None)

starts_so : (frames : List ℕ) (size n k : ℕ) → k < n → slot_start k ≡ slot_at (start frames size n) k
starts_so frames size n zero below = refl
starts_so frames size n (suc k) below = sym (get_or-replicate {A = Slot} (n - 1) k None None (omega (arith, below)))

-- trails of all parts, from the start of the machine
pub ends_runs : (frames : List ℕ) (size n : ℕ) (tasks : List TableEntry) (ts : List (List SlotEntry)) (pool : List PoolEntry) (table : Table) (ms : List Slot) (p : Pool)
    → 0 < n → length ms ≡ n → IsTableRun (length frames) [] tasks table → AreGathered size ts ms → IsPoolRun (idle_pool frames) pool p
    → EndsRuns (start frames size n) (record { tasks = tasks; slots = ts; pool = pool }) (machine_of size table ms p)
ends_runs frames size n tasks ts pool table ms p some long tabled gathered pooled =
    let all = slots_long n some in
    let many = gathered.count in
    record {
      runs = record {
        count = many ∙ long ∙ sym all;
        tasks = subst (λ k. IsTableRun k [] tasks table) (sym (length-map frames idle_node)) tabled;
        slots = λ k below.
            let within : k < length ms = omega (arith, below, all, long) in
            subst (λ x. IsLocalRun size k x (slice_index_or ts k []) (slice_index_or ms k None)) (starts_so frames size n k (omega (arith, within, long))) (gathered.runs k within);
        pool = subst (λ q. IsPoolRun q pool p) (sym (start_pool frames size n)) pooled;
      };
      count = long ∙ sym all;
      parts = refl;
    }

-- ---- trails that are kept

table_run : (keeps : Bool) (nodes : ℕ) (k : Keeping TableEntry) (es : List TableEntry) (t : Table) → keeps ≡ true → IsTrailOf es (kept_if keeps k) → IsTableRun nodes [] es t
    → IsTableRun nodes [] k.entries t
table_run true nodes k es t is kept run = subst (λ xs. IsTableRun nodes [] xs t) (sym kept) run
table_run false nodes k es t is kept run = absurd (false≢true is)

pool_run : (keeps : Bool) (start : Pool) (k : Keeping PoolEntry) (p : Pool) → keeps ≡ true → IsPoolTrail start (kept_if keeps k) p → IsPoolRun start k.entries p
pool_run true start k p is run = run
pool_run false start k p is run = absurd (false≢true is)

pub given_ends : (keeps in_order : Bool) (frames : List ℕ) (size n : ℕ) (tasks : Keeping TableEntry) (pool : Keeping PoolEntry) (slots : List (Vec SlotEntry))
    (table : Table) (ms : List Slot) (p : Pool) (given : Option Trails) (es : List TableEntry) → 0 < n → length ms ≡ n → IsTrailOf es (kept_if keeps tasks)
    → IsTableRun (length frames) [] es table → IsPoolTrail (idle_pool frames) (kept_if keeps pool) p → (keeps ≡ true → in_order ≡ true → AreGathered size (lists slots) ms)
    → IfSome given (λ t. (keeps ≡ true) × (in_order ≡ true) × (entries_of t ≡ trails_of tasks.entries slots pool.entries))
    → IfSome given (λ t. EndsRuns (start frames size n) (entries_of t) (machine_of size table ms p))
given_ends keeps in_order frames size n tasks pool slots table ms p None es some long kept tabled pooled gathered are = tt
given_ends keeps in_order frames size n tasks pool slots table ms p (Some t) es some long kept tabled pooled gathered are =
    subst (λ x. EndsRuns (start frames size n) x (machine_of size table ms p)) (sym are.2)
    (ends_runs frames size n tasks.entries (lists slots) pool.entries table ms p some long (table_run keeps (length frames) tasks es table are.0 kept tabled) (gathered are.0 are.1)
    (pool_run keeps (idle_pool frames) pool p are.0 pooled))
