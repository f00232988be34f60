-- The pool's numbers as sums over the slots are those that an event leaves.
use Rattle.std.proofs.lemmas.Grind.{common_steps}
use Rattle.std.proofs.Common.{◌≡◌, subst, ℕ, ◌+◌, ◌-◌, ◌<◌, ◌≤◌, None, List, [], ◌∷◌, length, map, refl, sym, ap, ◌∙◌, arith, sum, slice_set, All}
use Rattle.std.specs.List.{range_with_len}
use Rattle.std.proofs.lemmas.List.{length-map}
use Rattle.std.proofs.lemmas.List.Elements.{All-head, All-tail, All-set}
use Rattle.std.proofs.lemmas.List.Sums.{sum_by-set, sum-map, sum_by-le-sum_by}
use Rattle.hp_laws.specs.Balance.{Always, Moves, taken_at, left_by, IsBalanced}
use Rattle.hp_model.proofs.Words.{Ask, Finish, IsRow, IsSettledPool, IsSettledState, IsSound, Node, Outcome, Plan, Pool, Slot, State, committed_pages, no_pages, node_of, planned, pool_of, rows_of}
use Rattle.hp_model.proofs.Words.{section, slot_at, slot_committed, slot_pages, slot_pages_at, used as row_used, used_at, with_outcome, with_pool, with_slot}
use Rattle.hp_laws.proofs.Variants.{Grant, NodeRow, PoolAnswer, Section}
use Rattle.hp_laws.specs.Laws.{pool_after}
use Rattle.hp_laws.proofs.sections.Lengths.{long_rows}
use Rattle.hp_laws.proofs.counts.NodeSums.{slot_below, swap_le, once_in_range, pages-le-committed}
use Rattle.hp_laws.proofs.sections.SectionTies.{IsWanted, used_is, same_list, relead, section_leads}
use Rattle.hp_laws.proofs.sections.Sections.{Leads, long_as, unchanged}

-- ---- the machine

rows_back : (t : State) (a : ℕ) (rows : List NodeRow) → All IsRow rows → map row_used rows ≡ map (λ n. used_at n t) (range_with_len a (length rows)) → rows_of t a (map node_of rows) ≡ rows
rows_back t a [] all e = refl
rows_back t a (r ∷ rows) all e =
    let head = All-head IsRow r rows all in
    let free = head.free_in in
    let is : row_used r ≡ used_at a t = cc in
    let rest : map row_used rows ≡ map (λ n. used_at n t) (range_with_len (a + 1) (length rows)) = cc in
    let same : r.total - used_at a t ≡ r.free = omega (arith, is, free) in
    ap (λ x. record { frames = r.frames; total = r.total; free = x; surp = r.surp } ∷ rows_of t (a + 1) (map node_of rows)) same
    ∙ ap (λ xs. r ∷ xs) (rows_back t (a + 1) rows (All-tail IsRow r rows all) rest)

nodes_back : (s : State) (a : ℕ) (ns : List Node) → map node_of (rows_of s a ns) ≡ ns
nodes_back s a [] = refl
nodes_back s a (n ∷ ns) = ap (λ xs. n ∷ xs) (nodes_back s (a + 1) ns)

module _ (s : State) (st : IsSettledState s) (xs : List Slot) (sound : All IsSound xs) (q : Pool) where
  abbrev pub next : State
  next = record (with_pool s q) { slots = xs }

  -- where the pool is led to the sums of the new slots, these are its numbers again
  pub tied : Leads (pool_of s) q (committed_pages next) (map (λ n. used_at n next) (range_with_len 0 (length s.nodes))) → ((n : ℕ) → length s.nodes ≤ n → used_at n next ≡ 0)
      → (pool_of next ≡ q) × IsSettledState next
  tied l homed =
      let f = λ (n : ℕ). used_at n next in
      let long : length q.nodes.rows ≡ length s.nodes = long_as (pool_of s) q _ _ l ∙ long_rows s 0 s.nodes in
      let settled = l.settled in
      let rows = rows_back next 0 q.nodes.rows settled.rows (l.is_used ∙ ap (λ j. map f (range_with_len 0 j)) (sym long)) in
      let same : pool_of next ≡ q =
      ap (λ rs. record { nr = q.nr; overcommit = q.overcommit; committed = committed_pages next; nodes = record { rows = rs; growth = q.nodes.growth; release = q.nodes.release } }) rows
      ∙ ap (λ c. record { nr = q.nr; overcommit = q.overcommit; committed = c; nodes = q.nodes }) (sym l.is_committed) in
      let wide : length next.nodes ≡ length s.nodes = length-map q.nodes.rows node_of ∙ long in
      let few = st.nodes in (
        same,
        record {
          pool = subst (λ (p : Pool). IsSettledPool p) (sym same) settled;
          used = ap (λ (p : Pool). map row_used p.nodes.rows) same ∙ l.is_used ∙ ap (λ j. map f (range_with_len 0 j)) (sym wide);
          homed = λ n le. homed n (omega (arith, wide, le));
          slots = sound;
          nodes = omega (arith, wide, few);
        },
      )

module _ (s : State) (k : ℕ) (st : IsSettledState s) (new : Slot) (sound : IsSound new) (q : Pool) where
  abbrev after_it : State
  after_it = with_slot (with_pool s q) k new

  -- what the change of the slot says of the sums
  wanted : (sec : Section) (a : PoolAnswer) → k < length s.slots → Moves (slot_at s k) sec a new →
      IsWanted (pool_of s) sec a (λ n. used_at n s) (λ n. used_at n after_it) (committed_pages after_it) (length s.nodes)
  wanted sec a l change =
      let ns : List ℕ = range_with_len 0 (length s.nodes) in
      let commits = sum_by-set slot_committed s.slots k new None l in
      let change_commits = change.committed in
      let settled = st.pool in
      let used = used_is (pool_of s) settled in
      let used_sums = ap sum st.used ∙ sum-map (λ n. used_at n s) ns in
      let below = slot_below ns (once_in_range 0 (length s.nodes)) in
      let all_pages = swap_le IsSound slot_pages_at slot_pages ns below s.slots st.slots in
      let without = sum_by-set slot_pages s.slots k None None l in
      let uncommitted = sum_by-set slot_committed s.slots k None None l in
      let others = sum_by-le-sum_by slot_pages slot_committed (slice_set s.slots k None) pages-le-committed in
      let new_sums = sum-map (λ n. used_at n after_it) ns in
      let new_below = swap_le IsSound slot_pages_at slot_committed ns
      (λ x h. (let le = pages-le-committed x in omega (arith, below x h, le))) after_it.slots (All-set IsSound s.slots k new sound st.slots) in
      record {
        few = st.nodes;
        long = long_rows s 0 s.nodes;
        was = st.used;
        commits = omega (arith, commits, change_commits);
        pages = λ n lt. (let sums = sum_by-set (slot_pages_at n) s.slots k new None l in let e = change.pages n lt in omega (arith, sums, e));
        covered = (let room = change.covered in omega (arith, room, used, used_sums, all_pages, without, uncommitted, others));
        within = omega (arith, new_sums, new_below);
      }

  homed_after : (sec : Section) (a : PoolAnswer) → k < length s.slots → Moves (slot_at s k) sec a new → ((n : ℕ) → length s.nodes ≤ n → taken_at n sec a ≡ 0)
      → (n : ℕ) → length s.nodes ≤ n → used_at n after_it ≡ 0
  homed_after sec a l change there n le =
      let sums = sum_by-set (slot_pages_at n) s.slots k new None l in
      let far = change.far n in
      let none = there n le in
      let was = st.homed n le in
      omega (arith, sums, far, none, was)

-- ---- events

pub settled_is : (s : State) (k : ℕ) (o : Outcome) → (with_outcome s k o).1 ≡ with_slot s k (left_by (slot_at s k) o)
settled_is s k o = grind (arith, common_steps)

pub pool_back : (s : State) → with_pool s (pool_of s) ≡ s
pool_back s = ap (λ ns. record s { nodes = ns }) (nodes_back s 0 s.nodes)

pub left_sound : (s : State) (k : ℕ) → k < length s.slots → IsSettledState s → IsSound (slot_at s k)
left_sound s k l st = st.slots k None l

abbrev pub Tied : State → Plan → State → Type 0
Tied s p t = (pool_of t ≡ pool_after s p) × IsSettledState t

pub plan_tied : (s : State) (k : ℕ) (p : Plan) → k < length s.slots → IsSettledState s → IsBalanced (slot_at s k) p
    → Always (λ o. IsSound (left_by (slot_at s k) o)) p → Tied s p (planned s k p).1
plan_tied s k (Finish o) l st b sound =
    let new : Slot = left_by (slot_at s k) o in
    let p : Pool = pool_of s in
    let w = wanted s k st new sound p (Grant 0 0) no_pages l b in
    let homed = homed_after s k st new sound p (Grant 0 0) no_pages l b (λ n far. refl) in
    let leads = relead p p _ _ _ _ (unchanged p st.pool) (let x = w.commits in omega (arith, x))
    (same_list p (λ n. used_at n s) (λ n. used_at n (with_slot (with_pool s p) k new)) (length s.nodes) w.few w.was w.pages) in
    let t = tied s st (slice_set s.slots k new) (All-set IsSound s.slots k new sound st.slots) p leads homed in
    let is : with_slot (with_pool s p) k new ≡ (with_outcome s k o).1 = ap (λ x. with_slot x k new) (pool_back s) ∙ sym (settled_is s k o) in
    subst (λ (x : State). Tied s (Finish o) x) is t
plan_tied s k (Ask sec f) l st b sound =
    let q : PoolAnswer × Pool = section (pool_of s) (sec s.nr) in
    let new : Slot = left_by (slot_at s k) (f q.0) in
    let moves = subst (λ (x : Section). Moves (slot_at s k) x q.0 new) (b.1 (pool_of s)) (b.0 q.0) in
    let w = wanted s k st new (sound q.0) q.1 (sec s.nr) q.0 l moves in
    let leads = section_leads (pool_of s) (sec s.nr) (λ n. used_at n s) (λ n. used_at n (with_slot (with_pool s q.1) k new))
    (committed_pages (with_slot (with_pool s q.1) k new)) (length s.nodes) st.pool w in
    let homed = homed_after s k st new (sound q.0) q.1 (sec s.nr) q.0 l moves leads.1 in
    let t = tied s st (slice_set s.slots k new) (All-set IsSound s.slots k new (sound q.0) st.slots) q.1 leads.0 homed in
    subst (λ (x : State). Tied s (Ask sec f) x) (sym (settled_is (with_pool s q.1) k (f q.0))) t
