-- When more pages may be committed: the pool's part, and a mount's.
use Rattle.std.specs.Prelude.{ℕ, zero, suc, ◌+◌, ◌-◌, ◌&&◌, ◌||◌, ◌==◌, Bool, false, Option, None, Some, max, min, nat_lt, nat_le}
use Rattle.hp_model.specs.files.File.{Mount}
use Rattle.hp_model.specs.files.MountCounts.{usage_of, committed_of}
use Rattle.hp_model.specs.pool.NodeRows.{NodeRows, frames_of, total_of, surplus_added}
use Rattle.hp_model.specs.pool.PoolCounts.{Pool}

-- ---- the pool

-- how many pages may be committed
abbrev pub most : Pool → ℕ
most p = min (p.nr + p.overcommit) (frames_of p.nodes.rows)

abbrev pub can_grant : ℕ → Pool → Bool
can_grant k p = (k == 0) || nat_le (p.committed + k) (most p)

abbrev pub surplus_times : ℕ → ℕ → NodeRows → NodeRows
surplus_times home zero s = s
surplus_times home (suc n) s = surplus_added home (surplus_times home n s)

-- a grant of k: surplus pages are made for what the pool has no free page for
abbrev pub granted : ℕ → ℕ → Pool → Pool
granted home k p = record p { committed = p.committed + k; nodes = surplus_times home (p.committed + k - total_of p.nodes.rows) p.nodes }

-- ---- a mount

-- how far k pages more raise what the pool has committed to the mount
abbrev pub rise : Mount → ℕ → ℕ
rise m k = max (usage_of m + k) m.limits.min - committed_of m

abbrev pub is_over : Option ℕ → ℕ → Bool
is_over None n = false
is_over (Some limit) n = nat_lt limit n

-- whether k pages more are past the mount's limit
abbrev pub is_full : Mount → ℕ → Bool
is_full m k = nat_lt 0 k && is_over m.limits.max (usage_of m + k)
