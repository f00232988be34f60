-- How the machine starts, and the pool's numbers as sums over its slots.
use Rattle.std.specs.Prelude.{ℕ, ◌+◌, ◌-◌, None, Some, List, [], ◌∷◌, map, replicate}
use Rattle.std.specs.List.{sum_by}
use Rattle.hp_model.specs.declared.answer.Counts.{Counts}
use Rattle.hp_model.specs.declared.node.NodeRow.{NodeRow}
use Rattle.hp_model.specs.files.File.{Mount}
use Rattle.hp_model.specs.machine.Plan.{Slot, slot_committed, slot_pages, slot_pages_at}
use Rattle.hp_model.specs.pool.PoolCounts.{Pool, counts_by}
use Rattle.hp_model.specs.machine.State.{Node, State}

abbrev pub open_mount : Mount
open_mount = record { limits = record { max = None; min = 0; inodes = None }; files = [] }

abbrev pub idle_node : ℕ → Node
idle_node frames = record { frames = frames; total = 0; surp = 0 }

-- slots above 0 are not mounted
abbrev pub slots_from : ℕ → List Slot
slots_from n = Some open_mount ∷ replicate (n - 1) None

abbrev pub start : (frames : List ℕ) → (page_size slots : ℕ) → State
start frames page_size slots =
    record {
      page_size = page_size;
      table = [];
      slots = slots_from slots;
      nr = 0;
      overcommit = 0;
      nodes = map idle_node frames;
      growth = 0;
      release = 0;
    }

-- ---- the pool

abbrev pub committed_pages : State → ℕ
committed_pages s = sum_by slot_committed s.slots

abbrev pub used_pages : State → ℕ
used_pages s = sum_by slot_pages s.slots

-- the pool's numbers, as sums over files and maps
abbrev pub counts_in : State → Counts
counts_in s = counts_by s.nr s.overcommit (committed_pages s) (used_pages s)

-- pages in use whose frames are of the node
abbrev pub used_at : ℕ → State → ℕ
used_at n s = sum_by (slot_pages_at n) s.slots

abbrev pub row_of : State → ℕ → Node → NodeRow
row_of s n node = record { frames = node.frames; total = node.total; free = node.total - used_at n s; surp = node.surp }

abbrev pub rows_of : State → ℕ → List Node → List NodeRow
rows_of s n [] = []
rows_of s n (x ∷ xs) = row_of s n x ∷ rows_of s (n + 1) xs

abbrev pub pool_of : State → Pool
pool_of s =
    record {
      nr = s.nr;
      overcommit = s.overcommit;
      committed = committed_pages s;
      nodes = record { rows = rows_of s 0 s.nodes; growth = s.growth; release = s.release };
    }

abbrev pub node_of : NodeRow → Node
node_of r = record { frames = r.frames; total = r.total; surp = r.surp }

abbrev pub with_pool : State → Pool → State
with_pool s p =
    record s {
      nr = p.nr;
      overcommit = p.overcommit;
      nodes = map node_of p.nodes.rows;
      growth = p.nodes.growth;
      release = p.nodes.release;
    }
