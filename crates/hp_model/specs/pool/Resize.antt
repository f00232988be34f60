-- Setting nr and overcommit, and the events of the pool alone.
use Rattle.std.specs.Prelude.{ℕ, zero, suc, ◌-◌, Ok, Err, List, ◌++◌, length, map, min, take, replicate, if◌then◌else◌, nat_lt, nat_le}
use Rattle.hp_model.specs.pool.NodeRows.{NodeRows, frames_of, free_of, surp_of, promoted, grown, shrunk, demoted}
use Rattle.hp_model.specs.machine.Plan.{Reply}
use Rattle.hp_model.specs.pool.PoolCounts.{Pool, rsvd, counts_of}
use Rattle.hp_model.specs.Profile.{most_overcommit}
use Rattle.hp_model.specs.declared.answer.Answer.TheVariants.{Done, Number, Numbers, PerNode}
use Rattle.hp_model.specs.declared.answer.NodeCount.{NodeCount}
use Rattle.hp_model.specs.declared.event.PoolEvent.{PoolEvent}
use Rattle.hp_model.specs.declared.node.NodeRow.{NodeRow}
use Rattle.hp_model.specs.declared.event.PoolEvent.TheVariants.{Nr, Overcommit, Meminfo, Nodes}
use Rattle.hp_model.specs.declared.refusal.Refusal.TheVariants.{OutOfRange}

-- one persistent page more: a surplus page where there is one, else a frame
abbrev pub raised : NodeRows → NodeRows
raised s = if nat_lt 0 (surp_of s.rows) then promoted s else grown s

abbrev pub raise_times : ℕ → NodeRows → NodeRows
raise_times zero s = s
raise_times (suc n) s = raised (raise_times n s)

-- one persistent page less, where `reserved` free pages have to stay
abbrev pub lowered : ℕ → NodeRows → NodeRows
lowered reserved s = if nat_lt reserved (free_of s.rows) then shrunk s else demoted s

abbrev pub lower_times : ℕ → ℕ → NodeRows → NodeRows
lower_times reserved zero s = s
lower_times reserved (suc n) s = lowered reserved (lower_times reserved n s)

-- nr is set, whatever is in use
abbrev pub set_nr : ℕ → Pool → Pool
set_nr n p =
    let target = min n (frames_of p.nodes.rows) in
    record p { nr = target; nodes = lower_times (rsvd p) (p.nr - target) (raise_times (target - p.nr) p.nodes) }

-- ---- the events of the pool alone

abbrev pub node_count : NodeRow → NodeCount
node_count r = record { total = r.total; free = r.free; surp = r.surp }

abbrev pub no_count : NodeCount
no_count = record { total = 0; free = 0; surp = 0 }

-- four rows, those past the last node with zeros
abbrev pub node_counts : Pool → List NodeCount
node_counts p = take 4 (map node_count p.nodes.rows ++ replicate 4 no_count)

abbrev pub pool_event : Pool → PoolEvent → Reply × Pool
pool_event p (Nr n) = (Ok (Number (set_nr n p).nr), set_nr n p)
pool_event p (Overcommit n) = if nat_le n most_overcommit then (Ok Done, record p { overcommit = n }) else (Err OutOfRange, p)
pool_event p Meminfo = (Ok (Numbers (counts_of p)), p)
pool_event p Nodes = (Ok (PerNode (length p.nodes.rows) (node_counts p)), p)
