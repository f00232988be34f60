-- The pool's numbers: Total, Free, Rsvd and Surp by nr, by what is committed and by what is in use.
use Rattle.std.specs.Prelude.{ℕ, ◌-◌, ◌≡◌, List, max}
use Rattle.hp_model.specs.pool.NodeRows.{NodeRows, total_of, free_of, surp_of}
use Rattle.hp_model.specs.declared.answer.Counts.{Counts}
use Rattle.hp_model.specs.declared.node.NodeRow.{NodeRow}

-- the two numbers that are set, the pages that are promised or in use with the minimums filled up, and the nodes
pub record Pool : Type 0 where
  pub nr : ℕ
  pub overcommit : ℕ
  pub committed : ℕ
  pub nodes : NodeRows

-- the pages in use
abbrev pub used_of : List NodeRow → ℕ
used_of rows = total_of rows - free_of rows

abbrev pub used : Pool → ℕ
used p = used_of p.nodes.rows

-- the pages that are promised and not in use
abbrev pub rsvd : Pool → ℕ
rsvd p = p.committed - used p

-- no page of the surplus is unneeded
abbrev pub IsSettled : Pool → Type 0
IsSettled p = surp_of p.nodes.rows ≡ p.committed - p.nr

-- Total, Free, Rsvd and Surp by the two numbers that are set, what is committed and what is in use
abbrev pub counts_by : (nr overcommit committed used : ℕ) → Counts
counts_by nr overcommit committed used = record {
  total = max nr committed;
  free = max nr committed - used;
  rsvd = committed - used;
  surp = max nr committed - nr;
  nr = nr;
  overcommit = overcommit;
}

abbrev pub counts_of : Pool → Counts
counts_of p = counts_by p.nr p.overcommit p.committed (used p)
