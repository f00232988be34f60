-- The machine starts settled, and stays so.
use Rattle.std.proofs.lemmas.Grind.{common_steps}
use Rattle.std.proofs.Common.{◌≡◌, replicate, subst, ℕ, ◌+◌, ◌-◌, ◌≤◌, None, Some, Ok, Err, List, [], ◌∷◌, length, map, refl, sym, ap, ◌∙◌, arith, nat_le, sum_by, All}
use Rattle.std.specs.List.{range_with_len}
use Rattle.std.proofs.lemmas.Bool.{ltb-true, cond_both}
use Rattle.std.proofs.lemmas.List.{length-map}
use Rattle.std.proofs.lemmas.List.Elements.{All-cons, All-nil, All-head, All-tail, All-replicate}
use Rattle.std.proofs.lemmas.List.Sums.{sum_by-cons}
use Rattle.hp_laws.proofs.Variants.{Done, Event, NodeRow, OutOfRange, PoolEvent, Step, Tasks}
use Rattle.hp_model.specs.declared.event.PoolEvent.TheVariants.{Nr, Overcommit, Meminfo, Nodes}
use Rattle.hp_model.proofs.Words.{Answer_with, Do, IsEvent, IsEventRun, IsRow, IsRun, IsScript, IsSettledState, IsSound, IsStep, Pool, Reply, Script, Slot, State, Table, Where_mapped, has_maps_of}
use Rattle.hp_model.proofs.Words.{idle_node, most_frames, most_overcommit, open_mount, pool_event, pool_of, row_of, rows_of, script, set_nr, slot_at, slot_committed, slot_pages_at, slots_from, start}
use Rattle.hp_model.proofs.Words.{surp_of, table_event, total_of, used as row_used, used_at, with_pool}
use Rattle.hp_laws.specs.Laws.{PoolIsTied, StartIsSettled, RunsAreSettled}
use Rattle.hp_laws.proofs.settled.EventsSound.{empty_sound, slots_stay_sound}
use Rattle.hp_laws.proofs.sections.SectionTies.{relead}
use Rattle.hp_laws.proofs.steps.Outcomes.{either_way}
use Rattle.hp_laws.proofs.sections.Sections.{Leads, unchanged, set_leads}
use Rattle.hp_laws.proofs.steps.SlotsBalanced.{slots_are_balanced}
use Rattle.hp_laws.proofs.sections.PoolTied.{tied, plan_tied, left_sound}

-- ---- the start

start_slots : (n : ℕ) → All IsSound (slots_from n)
start_slots n = All-cons IsSound (Some open_mount) (replicate (n - 1) None) (empty_sound open_mount.limits) (All-replicate IsSound (n - 1) None tt)

none_sum : (g : Slot → ℕ) → g None ≡ 0 → (n : ℕ) → sum_by g (replicate n None) ≡ 0
none_sum g e n = grind (arith, common_steps)

abbrev idle_rows : State → ℕ → List ℕ → List NodeRow
idle_rows s a frames = rows_of s a (map idle_node frames)

record Starts (s : State) (a : ℕ) (frames : List ℕ) : Type 0 where
  pub rows : All IsRow (idle_rows s a frames)
  pub total : total_of (idle_rows s a frames) ≡ 0
  pub surplus : surp_of (idle_rows s a frames) ≡ 0
  pub used : map row_used (idle_rows s a frames) ≡ map (λ n. used_at n s) (range_with_len a (length (map idle_node frames)))

starts : (s : State) → ((n : ℕ) → used_at n s ≡ 0) → (a : ℕ) (frames : List ℕ) → All (λ f. f ≤ most_frames) frames → Starts s a frames
starts s none a [] small = record { rows = All-nil IsRow; total = refl; surplus = refl; used = refl }
starts s none a (x ∷ xs) small =
    let rest = starts s none (a + 1) xs (All-tail (λ f. f ≤ most_frames) x xs small) in
    let total = rest.total in
    let surplus = rest.surplus in
    let few : x ≤ most_frames = All-head (λ f. f ≤ most_frames) x xs small in
    let r : NodeRow = row_of s a (idle_node x) in
    let here : row_used r ≡ used_at a s = omega (arith, none a) in
    record {
      rows = All-cons IsRow r (idle_rows s (a + 1) xs) (record { free_in = omega arith; surp_in = omega arith; total_in = omega arith; few = few }) rest.rows;
      total = omega (arith, total, sum_by-cons (λ r. r.total) r (idle_rows s (a + 1) xs));
      surplus = omega (arith, surplus, sum_by-cons (λ r. r.surp) r (idle_rows s (a + 1) xs));
      used = ap (λ v. v ∷ map row_used (idle_rows s (a + 1) xs)) here ∙ ap (λ vs. used_at a s ∷ vs) rest.used;
    }

pub start_is_settled : StartIsSettled
start_is_settled frames size n few small =
    let s : State = start frames size n in
    let none = λ (k : ℕ). (let first = sum_by-cons (slot_pages_at k) (Some open_mount) (replicate (n - 1) None) in
    let rest = none_sum (slot_pages_at k) refl (n - 1) in
    let sums : used_at k s ≡ 0 = omega (arith, first, rest) in sums) in
    let committed_first = sum_by-cons slot_committed (Some open_mount) (replicate (n - 1) None) in
    let committed_rest = none_sum slot_committed refl (n - 1) in
    let begin = starts s none 0 frames small in
    let total = begin.total in
    let surplus = begin.surplus in
    record {
      pool = record { rows = begin.rows; total = omega (arith, total, committed_first, committed_rest); surplus = omega (arith, surplus, total); used = omega (arith, total) };
      used = begin.used;
      homed = λ k le. none k;
      slots = start_slots n;
      nodes = (let long = length-map frames idle_node in omega (arith, long, few));
    }

-- ---- every event

module _ (s : State) (st : IsSettledState s) where
  -- a pool that is settled, with the nodes' pages in use as they are
  at_pool : (q : Pool) → Leads (pool_of s) q (pool_of s).committed (map row_used (pool_of s).nodes.rows) → (pool_of (with_pool s q) ≡ q) × IsSettledState (with_pool s q)
  at_pool q l =
      let leads = relead (pool_of s) q _ _ _ _ l refl st.used in tied s st s.slots st.slots q leads st.homed

  pool_moves : (e : PoolEvent) → (pool_of (with_pool s (pool_event (pool_of s) e).1) ≡ (pool_event (pool_of s) e).1) × IsSettledState (with_pool s (pool_event (pool_of s) e).1)
  pool_moves (Nr n) = at_pool (set_nr n (pool_of s)) (set_leads n (pool_of s) st.pool)
  pool_moves (Overcommit n) =
      let p : Pool = pool_of s in
      let settled = st.pool in
      let raised : Leads p (record p { overcommit = n }) p.committed (map row_used p.nodes.rows) = record {
        settled = record { rows = settled.rows; total = settled.total; surplus = settled.surplus; used = settled.used };
        is_committed = refl;
        is_used = refl;
        frames = refl;
      } in
      cond_both (nat_le n most_overcommit) (Ok Done, record p { overcommit = n }) (Err OutOfRange, p)
      (λ (x : Reply × Pool). (pool_of (with_pool s x.1) ≡ x.1) × IsSettledState (with_pool s x.1))
      (λ t. at_pool (record p { overcommit = n }) raised)
      (λ t. at_pool p (unchanged p settled))
  pool_moves Meminfo = at_pool (pool_of s) (unchanged (pool_of s) st.pool)
  pool_moves Nodes = at_pool (pool_of s) (unchanged (pool_of s) st.pool)

  -- the task table is no part of it
  with_tasks : (t : Table) → IsSettledState (record s { table = t })
  with_tasks t = record { pool = st.pool; used = st.used; homed = st.homed; slots = st.slots; nodes = st.nodes }

pub pool_is_tied : PoolIsTied
pool_is_tied c s (Tasks e) can st = (refl, with_tasks s st (table_event (length s.nodes) s.table e).1)
pool_is_tied c s other can st = grind (arith, common_steps, ltb-true, left_sound, plan_tied, slots_are_balanced, slots_stay_sound, pool_moves)

-- ---- runs

pub event_settled : (s : State) (e : Event) (reply : Reply) (t : State) → IsSettledState s → IsEvent s e reply t → IsSettledState t
event_settled s e reply t st is = subst (λ (x : Reply × State). IsSettledState x.1) is.2 (pool_is_tied is.0 s e is.1 st).1

events_settled : (s : State) → IsSettledState s → (es : List (Event × Reply)) (t : State) → IsEventRun s es t → IsSettledState t
events_settled s st [] t run = subst IsSettledState run st
events_settled s st (e ∷ es) t run = events_settled run.0 (event_settled s e.0 e.1 run.0 st run.1) es t run.2

script_settled : (c : Script) (s : State) (reply : Reply) (t : State) → IsSettledState s → IsScript s c reply t → IsSettledState t
script_settled (Answer_with r) s reply t st is = subst IsSettledState (sym is.1) st
script_settled (Do e next) s reply t st is = script_settled (next is.0) is.1 reply t (event_settled s e is.0 is.1 st is.2) is.3
script_settled (Where_mapped k task mapped other) s reply t st is =
    either_way (has_maps_of task (slot_at s k)) (λ p. script_settled mapped s reply t st p) (λ q. script_settled other s reply t st q) is

pub step_settled : (s : State) (step : Step) (reply : Reply) (t : State) → IsSettledState s → IsStep s step reply t → IsSettledState t
unfolding IsStep
step_settled s step reply t st is = script_settled (script (length s.slots) step) s reply t st is

steps_settled : (s : State) → IsSettledState s → (steps : List Step) (replies : List Reply) (t : State) → IsRun s steps replies t → IsSettledState t
steps_settled s st [] [] t run = subst IsSettledState run st
steps_settled s st [] (r ∷ rs) t run = absurd run
steps_settled s st (x ∷ xs) [] t run = absurd run
steps_settled s st (x ∷ xs) (r ∷ rs) t run = steps_settled run.0 (step_settled s x r run.0 st run.1) xs rs t run.2

pub runs_are_settled : RunsAreSettled
runs_are_settled s st = (events_settled s st, steps_settled s st)
