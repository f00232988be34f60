-- What a pool begins with, and how the sums over its nodes move.
use Rattle.std.specs.Prelude.{◌≡◌, ℕ, ◌+◌, List}
use Rattle.hp_model.specs.pool.NodeRows.{NodeRows, sum_row}
use Rattle.hp_model.specs.pool.PoolCounts.{Pool}
use Rattle.hp_model.specs.declared.node.NodeRow.{NodeRow}
use Rattle.hp_nodes.specs.Kept.{idle_nodes}

-- a pool over nodes of so many frames each, of which none is in it
abbrev pub idle_pool : List ℕ → Pool
idle_pool frames = record { nr = 0; overcommit = 0; committed = 0; nodes = idle_nodes frames }

abbrev pub sums : NodeRows → NodeRow
sums lists = sum_row lists.rows

-- so many more pages are persistent (no surplus) in the second than in the first
abbrev pub MorePersistent : ℕ → NodeRow → NodeRow → Type 0
MorePersistent count few many = many.total + few.surp ≡ few.total + count + many.surp

-- as many pages are in use
abbrev pub SameUsed : NodeRow → NodeRow → Type 0
SameUsed old new = new.free + old.total ≡ old.free + new.total
