-- The counts of a settled machine are sums over files and maps, and limits and minimums hold.
use Rattle.std.proofs.lemmas.Grind.{common_steps}
use Rattle.std.proofs.Common.{◌≡◌, ⊎_elim, subst, ℕ, ◌+◌, ◌<◌, ◌≤◌, None, List, length, ap, ◌∙◌, arith, sum, slice_set, slice_index_or}
use Rattle.std.specs.List.{range_with_len}
use Rattle.std.proofs.lemmas.Bool.{ltb-true}
use Rattle.std.proofs.lemmas.List.Sums.{sum-map}
use Rattle.hp_laws.proofs.Variants.{Event, Slot as OnSlot}
use Rattle.hp_laws.specs.Balance.{IsBalanced, IsLimited, left_by}
use Rattle.hp_model.proofs.Words.{Ask, CanHappen, Choice, Finish, IsSettledState, IsSound, IsWithinLimit, Plan, Reply, Slot, State, after, committed_pages, counts_by, least_of, planned, pool_of}
use Rattle.hp_model.proofs.Words.{section, slot_at, slot_pages, slot_pages_at, slot_usage, total_of, used_at, used_pages, with_pool, with_slot}
use Rattle.hp_model.specs.pool.PoolCounts.{used}
use Rattle.hp_laws.specs.Laws.{CountsAreSums, LimitsHold}
use Rattle.hp_laws.proofs.counts.NodeSums.{slot_below, slot_above, swap_le, sum_above, once_in_range, far_range}
use Rattle.hp_model.proofs.RowMoves.{used_sum}
use Rattle.hp_laws.proofs.sections.SectionTies.{used_is}
use Rattle.hp_laws.proofs.steps.SlotsBalanced.{slots_are_balanced}
use Rattle.hp_laws.proofs.sections.PoolTied.{settled_is, left_sound}

-- the pages in use at the nodes together are the pages of files and maps
used_are : (s : State) → IsSettledState s → used (pool_of s) ≡ used_pages s
used_are s st =
    let ns : List ℕ = range_with_len 0 (length s.nodes) in
    let is = used_is (pool_of s) st.pool in
    let sums = ap sum st.used ∙ sum-map (λ n. used_at n s) ns in
    let few = swap_le IsSound slot_pages_at slot_pages ns (slot_below ns (once_in_range 0 (length s.nodes))) s.slots st.slots in
    let many = sum_above ns slot_pages_at slot_pages (slot_above ns) s.slots (far_range (length s.nodes) (λ n. used_at n s) st.homed) in
    omega (arith, is, sums, few, many)

pub counts_are_sums : CountsAreSums
counts_are_sums s st =
    let p = pool_of s in
    let is = used_are s st in
    let settled = st.pool in
    let uses = used_sum p.nodes.rows settled.rows in
    let total = settled.total in
    let surplus = settled.surplus in
    let in_use = settled.used in
    record {
      counts = ap (λ u. counts_by p.nr p.overcommit p.committed u) is;
      total = total;
      free = omega (arith, is, total, uses);
      surp = omega (arith, total, surplus);
      covered = omega (arith, is, total, in_use, uses);
    }

-- ---- minimums

pub minimums_hold : (s : State) → IsSettledState s → (k : ℕ) → least_of (slot_at s k) + committed_pages (with_slot s k None) ≤ total_of (pool_of s).nodes.rows
minimums_hold s st k = grind (arith, common_steps)

-- ---- limits

plan_limited : (s : State) (k : ℕ) (p : Plan) → IsBalanced (slot_at s k) p → (n : Slot) × (IsLimited (slot_at s k) n × (((planned s k p).1.slots ≡ slice_set s.slots k n)))
plan_limited s k (Finish o) b = (left_by (slot_at s k) o, (b.limited, ap (λ x. x.slots) (settled_is s k o)))
plan_limited s k (Ask sec f) b =
    let q = section (pool_of s) (sec s.nr) in (left_by (slot_at s k) (f q.0), ((b.0 q.0).limited, ap (λ x. x.slots) (settled_is (with_pool s q.1) k (f q.0))))

not_risen : (a b : Slot) → IsLimited a b → slot_usage a < slot_usage b → IsWithinLimit b
not_risen a b h l = ⊎_elim (λ le. absurd (omega (arith, le, l))) (λ w. w) h

-- the slot of the event, and the others
at_slot : (xs : List Slot) (k j : ℕ) (n : Slot) → k < length xs → j < length xs → IsLimited (slice_index_or xs k None) n →
    IsLimited (slice_index_or xs j None) (slice_index_or (slice_set xs k n) j None)
at_slot xs k j n lk lj h = grind (arith, common_steps)

event_limited : (c : Choice) (s : State) (e : Event) (j : ℕ) → CanHappen c s e → j < length s.slots → IsSettledState s → IsLimited (slot_at s j) (slot_at (after c s e).1 j)
event_limited c s (OnSlot k e) j can lj st = grind (arith, ltb-true, plan_limited, slots_are_balanced, left_sound, at_slot)
event_limited c s e j can lj st = grind arith

pub limits_hold : LimitsHold
limits_hold s e reply t k l st is risen =
    let limited = subst (λ (x : Reply × State). IsLimited (slot_at s k) (slot_at x.1 k)) is.2 (event_limited is.0 s e k is.1 l st) in
    not_risen (slot_at s k) (slot_at t k) limited risen
