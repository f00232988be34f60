-- What holds of the pool's numbers between events, and that it does.
use Rattle.std.specs.Prelude.{◌≡◌, ℕ, ◌+◌, ◌≤◌, max, List, length, map}
use Rattle.std.specs.List.{All, range_with_len}
use Rattle.hp_model.specs.machine.Machine.{pool_of, used_at, counts_in}
use Rattle.hp_model.specs.pool.NodeRows.{IsRow, used as row_used, total_of, free_of, surp_of}
use Rattle.hp_model.specs.pool.PoolCounts.{Pool, used, counts_of}
use Rattle.hp_model.specs.machine.Sound.{IsSound}
use Rattle.hp_model.specs.machine.State.{State}

-- surplus pages only where commitments are above nr, and no page in use that is not committed
pub record IsSettledPool (p : Pool) : Type 0 where
  pub rows : All IsRow p.nodes.rows
  pub total : total_of p.nodes.rows ≡ max p.nr p.committed
  pub surplus : surp_of p.nodes.rows + p.nr ≡ total_of p.nodes.rows
  pub used : used p ≤ p.committed

-- the pages in use of each node, as sums over the slots
abbrev pub used_list : State → List ℕ
used_list s = map (λ n. used_at n s) (range_with_len 0 (length s.nodes))

-- what holds of the machine between events
pub record IsSettledState (s : State) : Type 0 where
  pub pool : IsSettledPool (pool_of s)
  -- at each node the pages in use are those that the slots have there
  pub used : map row_used (pool_of s).nodes.rows ≡ used_list s
  -- and each page in use is of a node that there is
  pub homed : (n : ℕ) → length s.nodes ≤ n → used_at n s ≡ 0
  pub slots : All IsSound s.slots
  pub nodes : length s.nodes ≤ 4

-- Total, Free, Rsvd and Surp are those of the sums over files and maps, and of the rows; and each promised page is free
pub record AreCounted (s : State) : Type 0 where
  pub counts : counts_of (pool_of s) ≡ counts_in s
  pub total : total_of (pool_of s).nodes.rows ≡ (counts_in s).total
  pub free : free_of (pool_of s).nodes.rows ≡ (counts_in s).free
  pub surp : surp_of (pool_of s).nodes.rows ≡ (counts_in s).surp
  pub covered : (counts_in s).rsvd ≤ free_of (pool_of s).nodes.rows
