-- Where trails were joined, the pool's numbers are the sums over files and maps.
use Rattle.std.proofs.Common.{◌≡◌, ℕ, ◌+◌, None, List, [], ◌∷◌, length, map, refl, sym, ap, subst, ◌∙◌, arith, MatchResult, OnOk, Result, Ok, Err}
use Rattle.std.proofs.lemmas.List.{ext_get_or}
use Rattle.hp_laws.proofs.Variants.{Event, Receipt, Refusal}
use Rattle.hp_model.proofs.Words.{HasParts, IsReadyMachine, IsSettledState, Machine, Node, Pool, Slot, State, Table, Trails, node_of, pool_of, rows_of, slot_at, state_of}
use Rattle.hp_trail.specs.Audit.{IsJointList, IsUnjoined}
use Rattle.std.specs.Global.{Vec}
use Rattle.hp_shared.specs.Sharing.{EndsRuns}

nodes_back : (s : State) (k : ℕ) (ns : List Node) → map node_of (rows_of s k ns) ≡ ns
nodes_back s k [] = refl
nodes_back s k (n ∷ ns) = ap (λ xs. n ∷ xs) (nodes_back s (k + 1) ns)

-- a state is known by its slots and its pool, but for the bytes of a page and the tasks
abbrev with_other : State → ℕ → Table → State
with_other s size table = record s { page_size = size; table = table }

state_is : (end : State) (size : ℕ) (table : Table) (xs : List Slot) (p : Pool) → end.slots ≡ xs → pool_of end ≡ p → state_of size table xs p ≡ with_other end size table
state_is end size table xs p slots pool =
    ap (λ q. state_of size table xs q) (sym pool)
    ∙ (ap (λ ys. state_of size table ys (pool_of end)) (sym slots)
    ∙ ap (λ ns. record (with_other end size table) { nodes = ns }) (nodes_back end 0 end.nodes))

settled_so : (s : State) (size : ℕ) (table : Table) → IsSettledState s → IsSettledState (with_other s size table)
settled_so s size table h = record { pool = h.pool; used = h.used; homed = h.homed; slots = h.slots; nodes = h.nodes }

pub ready_at : (s end : State) (t : Trails) (m : Machine) → EndsRuns s t m → IsSettledState end → HasParts end (length s.slots) m.state.table (slot_at m.state) m.pool → IsReadyMachine m
ready_at s end t m ends settled has =
    let same : end.slots ≡ m.state.slots = ext_get_or None end.slots m.state.slots (has.count ∙ sym ends.count) (λ k below. has.slots k (omega (arith, below, has.count))) in
    let is : m.state ≡ with_other end m.state.page_size m.state.table =
    ap (λ (x : Machine). x.state) ends.parts ∙ state_is end m.state.page_size m.state.table m.state.slots m.pool same has.pool in
    record {
      tied = ap pool_of is ∙ has.pool;
      settled = subst IsSettledState (sym is) (settled_so end m.state.page_size m.state.table settled);
    }

pub joined_ready : (s : State) (t : Trails) (receipts : List (List Receipt)) (events : List Event) (m : Machine) → IsSettledState s → EndsRuns s t m
    → IsJointList t receipts events → IsReadyMachine m
joined_ready s t receipts events m settled ends joint =
    let run = joint.run s m.state.table (slot_at m.state) m.pool settled ends.runs in
    ready_at s run.0 t m ends run.2 run.3

pub when_joined : (t : Trails) (told : List (List Receipt)) (r : Result (Vec Event) Refusal)
    → MatchResult r (λ events. IsJointList t told events.items) (IsUnjoined t told)
    → OnOk r ((s : State) (m : Machine) → IsSettledState s → EndsRuns s t m → IsReadyMachine m)
when_joined t told (Ok events) h = λ s m settled ends. joined_ready s t told events.items m settled ends h
when_joined t told (Err e) h = tt
