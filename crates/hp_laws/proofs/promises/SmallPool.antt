-- What an event of the pool alone tells is within the limits of a reply's text.
use Rattle.std.proofs.Common.{◌≡◌, ◌*◌, ◌≤◌, List, [], ◌∷◌, ◌++◌, length, map, replicate, sym, ap, subst, ◌∙◌, arith, All}
use Rattle.std.proofs.lemmas.Bool.{cond_both}
use Rattle.std.proofs.lemmas.List.Elements.{All-cons, All-head, All-replicate, All-tail, All-take}
use Rattle.std.proofs.lemmas.List.Sums.{sum_by-cons}
use Rattle.hp_laws.proofs.Variants.{NodeCount, NodeRow, PoolEvent}
use Rattle.hp_model.specs.declared.event.PoolEvent.TheVariants as pool
use Rattle.hp_model.proofs.Words.{IsRow, IsSettledPool, IsWithinLimits, Pool, Reply, frames_of, most_frames, most_frames_in_all, no_count, node_count, pool_event, total_of}

record Few (rows : List NodeRow) : Type 0 where
  pub total : total_of rows ≤ frames_of rows
  pub frames : frames_of rows ≤ most_frames * length rows

few : (rows : List NodeRow) → All IsRow rows → Few rows
few [] all = record { total = omega arith; frames = omega arith }
few (r ∷ rows) all =
    let head = All-head IsRow r rows all in
    let total_in = head.total_in in
    let frames_in = head.few in
    let rest = few rows (All-tail IsRow r rows all) in
    let total = rest.total in
    let frames = rest.frames in
    record {
      total = omega (arith, total, total_in, sum_by-cons (λ x. x.total) r rows, sum_by-cons (λ x. x.frames) r rows);
      frames = omega (arith, frames, frames_in, sum_by-cons (λ x. x.frames) r rows);
    }

abbrev IsSmallRow : NodeCount → Type 0
IsSmallRow r = (r.total ≤ most_frames) × (r.free ≤ r.total) × (r.surp ≤ r.total)

rows_small : (rows : List NodeRow) → All IsRow rows → All IsSmallRow (map node_count rows ++ replicate 4 no_count)
rows_small [] all = All-replicate IsSmallRow 4 no_count (omega arith, omega arith, omega arith)
rows_small (r ∷ rows) all =
    let head = All-head IsRow r rows all in
    let few = head.few in
    let total_in = head.total_in in
    All-cons IsSmallRow (node_count r) (map node_count rows ++ replicate 4 no_count) (omega (arith, few, total_in), head.free_in, head.surp_in)
    (rows_small rows (All-tail IsRow r rows all))

module _ (p : Pool) (st : IsSettledPool p) (nodes : length p.nodes.rows ≤ 4) where
  in_pool : Few p.nodes.rows
  in_pool = few p.nodes.rows st.rows

  pub most_frames_in : frames_of p.nodes.rows ≤ most_frames_in_all
  most_frames_in = (let frames = in_pool.frames in omega (arith, frames, nodes))

  nr_small : p.nr ≤ most_frames_in_all
  nr_small = (let most = most_frames_in in let below = in_pool.total in let total = st.total in omega (arith, most, below, total))

  pub meminfo_small : IsWithinLimits (pool_event p pool.Meminfo).0
  meminfo_small = grind (arith, most_frames_in, in_pool)

  pub nodes_small : IsWithinLimits (pool_event p pool.Nodes).0
  nodes_small = (nodes, All-take IsSmallRow 4 (map node_count p.nodes.rows ++ replicate 4 no_count) (rows_small p.nodes.rows st.rows))

-- the event is told by the pool that it leaves
pub event_small : (p q : Pool) (e : PoolEvent) (reply : Reply) → pool_event p e ≡ (reply, q) → IsSettledPool q → length q.nodes.rows ≤ 4 → IsWithinLimits reply
event_small p q (pool.Nr n) reply is st nodes = grind (arith, nr_small)
event_small p q (pool.Overcommit n) reply is st nodes = grind (arith, cond_both)
event_small p q pool.Meminfo reply is st nodes = grind (arith, meminfo_small)
event_small p q pool.Nodes reply is st nodes =
    subst IsWithinLimits (ap (λ (x : Pool). (pool_event x pool.Nodes).0) (sym (ap (λ (x : Reply × Pool). x.1) is)) ∙ ap (λ (x : Reply × Pool). x.0) is) (nodes_small q st nodes)
