-- What a mount may use of the pool, and what it has of it.
use Rattle.std.specs.Prelude.{ℕ, ◌+◌, ◌-◌, ◌&&◌, not, Bool, Option, max, nat_lt, if◌then◌else◌}
use Rattle.hp_model.specs.pool.Grant.{can_grant, granted, is_over}
use Rattle.hp_model.specs.pool.Pool.{released, trimmed}
use Rattle.hp_model.specs.pool.PoolCounts.{Pool}

-- the most pages (None is no limit), the pages that stay committed at least, the pages in use, and the reservations that files and maps hold
pub record Subpool : Type 0 where
  pub max : Option ℕ
  pub min : ℕ
  pub pages : ℕ
  pub held : ℕ

abbrev pub used : Subpool → ℕ
used s = s.pages + s.held

-- what is kept for the minimum alone
abbrev pub own_reserve : Subpool → ℕ
own_reserve s = s.min - used s

-- what the pool has committed to the mount
abbrev pub committed_of : Subpool → ℕ
committed_of s = max (used s) s.min

-- how far k pages more raise that
abbrev pub rise : Subpool → ℕ → ℕ
rise s k = max (used s + k) s.min - committed_of s

-- how far k pages less lower that
abbrev pub fall : Subpool → ℕ → ℕ
fall s k = committed_of s - max (used s - k) s.min

-- whether k pages more are past the limit. None more never are
abbrev pub is_full : Subpool → ℕ → Bool
is_full s k = nat_lt 0 k && is_over s.max (used s + k)

-- whether k pages more are within the limit, and the pool can commit what they ask of it; and whether that alone is wanting
abbrev pub can_get : Subpool → ℕ → Pool → Bool
can_get s k pool = not (is_full s k) && can_grant (rise s k) pool

abbrev pub lacks_pages : Subpool → ℕ → Pool → Bool
lacks_pages s k pool = not (is_full s k) && not (can_grant (rise s k) pool)

-- with nothing in use
abbrev pub opened : Option ℕ → ℕ → Subpool
opened max min = record { max = max; min = min; pages = 0; held = 0 }

-- k reservations more
abbrev pub with_reserves : ℕ → Subpool → Subpool
with_reserves k s = record s { held = s.held + k }

-- a page more, for a reservation that was held
abbrev pub with_page : Subpool → Subpool
with_page s = record s { held = s.held - 1; pages = s.pages + 1 }

-- so many pages more, for reservations that were held
abbrev pub with_pages : ℕ → Subpool → Subpool
with_pages n s = record s { held = s.held - n; pages = s.pages + n }

-- ---- other limits

abbrev pub with_limits : (max : Option ℕ) → (min : ℕ) → Subpool → Subpool
with_limits max min s = record s { max = max; min = min }

-- what the pool has committed to the mount with this minimum; how far that is above what it has now, and how far below
abbrev pub committed_with : Subpool → (min : ℕ) → ℕ
committed_with s min = max (used s) min

abbrev pub gain : Subpool → (min : ℕ) → ℕ
gain s min = committed_with s min - committed_of s

abbrev pub loss : Subpool → (min : ℕ) → ℕ
loss s min = committed_of s - committed_with s min

-- this minimum takes from what the pool has committed
abbrev pub is_loss : Subpool → (min : ℕ) → Bool
is_loss s min = nat_lt (committed_with s min) (committed_of s)

-- the pool once it committed what the minimum adds, at home node 0, or took back what it leaves
abbrev pub with_minimum : Subpool → (min : ℕ) → Pool → Pool
with_minimum s min pool = if is_loss s min then trimmed (released (loss s min) pool) else granted 0 (gain s min) pool
