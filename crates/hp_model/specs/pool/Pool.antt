-- What one hold of the pool's lock does to its numbers.
use Rattle.std.specs.Prelude.{ℕ, zero, suc, ◌+◌, ◌-◌, ◌≡◌, ◌≤◌, Bool, true, false, List, [], ◌∷◌, map, if◌then◌else◌}
use Rattle.std.specs.List.{range_with_len}
use Rattle.hp_model.specs.Profile.{most_frames_in_all, most_overcommit}
use Rattle.hp_model.specs.pool.Grant.{can_grant, granted}
use Rattle.hp_model.specs.pool.NodeRows.{NodeRows, near, row_at, surp_of, taken, taken_times, used, put_at, given_back}
use Rattle.hp_model.specs.pool.PoolCounts.{Pool}
use Rattle.hp_model.specs.declared.node.Kind.TheVariants.{Free}
use Rattle.hp_model.specs.declared.node.NodeRow.{NodeRow}
pub use Rattle.hp_model.specs.declared.section.PoolAnswer.{PoolAnswer}
pub use Rattle.hp_model.specs.declared.section.Section.{Section}
pub use Rattle.hp_model.specs.declared.section.Section.TheVariants.{Grant, GrantPage, TakePage, FillPages, GiveBack, ReadAndGrant, ReadAndGiveBack, GrantAndReturn}

-- ---- pages taken and put

-- the node of the page that is taken next
abbrev pub take_node : ℕ → Pool → ℕ
take_node home p = near Free home p.nodes.rows

-- a page is taken by a permit
abbrev pub page_taken : ℕ → Pool → Pool
page_taken home p = record p { nodes = taken home p.nodes }

-- so many pages are taken, of the lowest nodes first
abbrev pub pages_taken : ℕ → Pool → Pool
pages_taken n p = record p { nodes = taken_times 0 n p.nodes }

-- how many pages more are in use at the node
abbrev pub takes_at : (old new : NodeRows) → (node : ℕ) → ℕ
takes_at old new node = used (row_at new.rows node) - used (row_at old.rows node)

-- how many of n pages are taken at each node
abbrev pub takes_of : ℕ → Pool → List ℕ
takes_of n p = map (takes_at p.nodes (taken_times 0 n p.nodes)) (range_with_len 0 4)

-- a page is put back, and its promise with it
abbrev pub page_put : ℕ → Pool → Pool
page_put node p = record p { committed = p.committed - 1; nodes = put_at node p.nodes }

-- a page is put back, and stays promised
abbrev pub page_kept : ℕ → Pool → Pool
page_kept node p = record p { nodes = put_at node p.nodes }

abbrev pub released : ℕ → Pool → Pool
released k p = record p { committed = p.committed - k }

-- surplus pages leave the pool
abbrev pub give_back_times : ℕ → NodeRows → NodeRows
give_back_times zero s = s
give_back_times (suc n) s = given_back (give_back_times n s)

-- all that is not needed leaves
abbrev pub trimmed : Pool → Pool
trimmed p = record p { nodes = give_back_times (surp_of p.nodes.rows - (p.committed - p.nr)) p.nodes }

-- what holds of every pool
pub record IsPool (nr overcommit reserved : ℕ) (sum : NodeRow) : Type 0 where
  pub persistent : sum.total ≡ nr + sum.surp
  pub backed : reserved ≤ sum.free
  pub few : overcommit ≤ most_overcommit
  pub small : sum.total ≤ most_frames_in_all

-- k pages are put at the node, and stay promised
abbrev pub kept_times : ℕ → ℕ → Pool → Pool
kept_times node zero p = p
kept_times node (suc k) p = page_kept node (kept_times node k p)

-- `puts` has the number of pages put at each node, from the node on
abbrev pub puts_from : ℕ → List ℕ → Pool → Pool
puts_from node [] p = p
puts_from node (k ∷ ks) p = puts_from (node + 1) ks (kept_times node k p)

-- ---- sections

-- no page at any node
abbrev pub no_takes : List ℕ
no_takes = 0 ∷ 0 ∷ 0 ∷ 0 ∷ []

abbrev pub granted_at : ℕ → PoolAnswer
granted_at n = record { granted = true; node = n; nr = 0; pages = no_takes }

abbrev pub no_pages : PoolAnswer
no_pages = record { granted = false; node = 0; nr = 0; pages = no_takes }

-- so many pages were taken at each node
abbrev pub filled_by : List ℕ → PoolAnswer
filled_by takes = record { granted = true; node = 0; nr = 0; pages = takes }

-- nr was read
abbrev pub nr_answer : (granted : Bool) → Pool → PoolAnswer
nr_answer granted p = record { granted = granted; node = 0; nr = p.nr; pages = no_takes }

abbrev pub section : Pool → Section → PoolAnswer × Pool
section p (Grant home d) = if can_grant d p then (granted_at 0, granted home d p) else (no_pages, p)
section p (GrantPage home d) =
    if can_grant d p
    then (granted_at (take_node home (granted home d p)), page_taken home (granted home d p))
    else (no_pages, p)
section p (TakePage home) = (granted_at (take_node home p), page_taken home p)
section p (FillPages d n) =
    if can_grant d p
    then (filled_by (takes_of n (granted 0 d p)), pages_taken n (granted 0 d p))
    else (no_pages, p)
section p (GiveBack puts k) = (granted_at 0, trimmed (released k (puts_from 0 puts p)))
section p (ReadAndGrant d) =
    if can_grant d p then (nr_answer true p, granted 0 d p) else (nr_answer false p, p)
section p (ReadAndGiveBack k) = (nr_answer true p, trimmed (released k p))
section p (GrantAndReturn d) =
    if can_grant d p then (nr_answer true p, trimmed (released d (granted 0 d p))) else (nr_answer false p, p)
