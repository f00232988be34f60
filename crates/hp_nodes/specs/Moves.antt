-- Many moves at once: how many a row has, and what so many of them do to it.
use Rattle.std.specs.Prelude.{◌≡◌, ◌≤◌, ℕ, true, ◌+◌, ◌-◌, min, if◌then◌else◌}
use Rattle.hp_model.specs.declared.node.Kind.{Kind}
use Rattle.hp_model.specs.declared.node.Kind.TheVariants.{Free, Idle, Surplus, Persistent, FreeSurplus}
use Rattle.hp_model.specs.declared.node.NodeRow.{NodeRow}
use Rattle.hp_model.specs.pool.NodeRows.{NodeRows, at_row, has}

-- how many a node has: free pages, idle frames, surplus pages, pages that are no surplus, or pairs of a free and a surplus page
abbrev pub amount : Kind → NodeRow → ℕ
amount Free r = r.free
amount Idle r = r.frames - r.total
amount Surplus r = r.surp
amount Persistent r = r.total - r.surp
amount FreeSurplus r = min r.free r.surp

abbrev pub take_by : ℕ → NodeRow → NodeRow
take_by k r = record r { free = r.free - k }

abbrev pub put_by : ℕ → NodeRow → NodeRow
put_by k r = record r { free = r.free + k }

-- so many pages are put at a node
abbrev pub puts_at : (node k : ℕ) → NodeRows → NodeRows
puts_at node k s = record s { rows = at_row (put_by k) node s.rows }

abbrev pub grow_by : ℕ → NodeRow → NodeRow
grow_by k r = record r { total = r.total + k; free = r.free + k }

abbrev pub shrink_by : ℕ → NodeRow → NodeRow
shrink_by k r = record r { total = r.total - k; free = r.free - k }

abbrev pub add_surplus_by : ℕ → NodeRow → NodeRow
add_surplus_by k r = record r { total = r.total + k; free = r.free + k; surp = r.surp + k }

abbrev pub give_back_by : ℕ → NodeRow → NodeRow
give_back_by k r = record r { total = r.total - k; free = r.free - k; surp = r.surp - k }

abbrev pub promote_by : ℕ → NodeRow → NodeRow
promote_by k r = record r { surp = r.surp - k }

abbrev pub demote_by : ℕ → NodeRow → NodeRow
demote_by k r = record r { surp = r.surp + k }

-- a change of the nodes that have one
abbrev pub where_has : Kind → (NodeRow → NodeRow) → NodeRow → NodeRow
where_has kind f r = if has kind r then f r else r

-- a node that has any has so many
abbrev pub HasMany : Kind → ℕ → NodeRow → Type 0
HasMany kind count r = has kind r ≡ true → count ≤ amount kind r
