-- The rows of the nodes and the moves of pages and frames between them.
use Rattle.std.specs.Prelude.{ℕ, zero, suc, ◌+◌, ◌-◌, ◌≤◌, ◌==◌, Bool, ◌&&◌, if◌then◌else◌, nat_lt, List, length, drop, sum_by, slice_index_or, slice_set}
use Rattle.std.specs.List.{position_or_len}
use Rattle.hp_model.specs.Profile.{most_frames}
use Rattle.hp_model.specs.declared.node.NodeRow.{NodeRow}
use Rattle.hp_model.specs.declared.node.Kind.{Kind}
use Rattle.hp_model.specs.declared.node.Kind.TheVariants.{Free, Idle, Surplus, Persistent, FreeSurplus}

-- the rows of all nodes, and where the next search for growing and for releasing starts
pub record NodeRows : Type 0 where
  pub rows : List NodeRow
  pub growth : ℕ
  pub release : ℕ

abbrev pub no_row : NodeRow
no_row = record { frames = 0; total = 0; free = 0; surp = 0 }

abbrev pub row_at : List NodeRow → ℕ → NodeRow
row_at rows i = slice_index_or rows i no_row

abbrev pub idle_row : ℕ → NodeRow
idle_row frames = record { frames = frames; total = 0; free = 0; surp = 0 }

-- the pages of the node that are not free
abbrev pub used : NodeRow → ℕ
used r = r.total - r.free

-- whether a node has one: a free page, an idle frame, a surplus page, a page that is no surplus, or both a free and a surplus page
abbrev pub has : Kind → NodeRow → Bool
has Free r = nat_lt 0 r.free
has Idle r = nat_lt r.total r.frames
has Surplus r = nat_lt 0 r.surp
has Persistent r = nat_lt r.surp r.total
has FreeSurplus r = nat_lt 0 r.free && nat_lt 0 r.surp

-- the lowest node that has one
abbrev pub lowest : Kind → List NodeRow → ℕ
lowest kind rows = position_or_len (has kind) rows

-- home where it has one, else the lowest node that has
abbrev pub near : Kind → ℕ → List NodeRow → ℕ
near kind home rows = if has kind (row_at rows home) then home else lowest kind rows

-- the first node that has one, from a place on and round
abbrev pub next_from : Kind → ℕ → List NodeRow → ℕ
next_from kind from rows =
    let ahead = from + lowest kind (drop from rows) in
    if nat_lt ahead (length rows) then ahead else lowest kind rows

-- the node after, and 0 after the last
abbrev pub next_node : ℕ → List NodeRow → ℕ
next_node i rows = if i + 1 == length rows then 0 else i + 1

abbrev pub some_has : Kind → List NodeRow → Bool
some_has kind rows = nat_lt (lowest kind rows) (length rows)

-- what each move does to a row
abbrev pub take_row : NodeRow → NodeRow
take_row r = record r { free = r.free - 1 }

abbrev pub put_row : NodeRow → NodeRow
put_row r = record r { free = r.free + 1 }

abbrev pub grow_row : NodeRow → NodeRow
grow_row r = record r { total = r.total + 1; free = r.free + 1 }

abbrev pub shrink_row : NodeRow → NodeRow
shrink_row r = record r { total = r.total - 1; free = r.free - 1 }

abbrev pub add_surplus_row : NodeRow → NodeRow
add_surplus_row r = record r { total = r.total + 1; free = r.free + 1; surp = r.surp + 1 }

abbrev pub give_back_row : NodeRow → NodeRow
give_back_row r = record r { total = r.total - 1; free = r.free - 1; surp = r.surp - 1 }

abbrev pub promote_row : NodeRow → NodeRow
promote_row r = record r { surp = r.surp - 1 }

abbrev pub demote_row : NodeRow → NodeRow
demote_row r = record r { surp = r.surp + 1 }

-- the rows with one of them changed
abbrev pub at_row : (NodeRow → NodeRow) → ℕ → List NodeRow → List NodeRow
at_row f i rows = slice_set rows i (f (row_at rows i))

-- the moves
abbrev pub taken : ℕ → NodeRows → NodeRows
taken home s = record s { rows = at_row take_row (near Free home s.rows) s.rows }

-- so many pages taken, one after another
abbrev pub taken_times : (home n : ℕ) → NodeRows → NodeRows
taken_times home zero s = s
taken_times home (suc n) s = taken home (taken_times home n s)

abbrev pub put_at : ℕ → NodeRows → NodeRows
put_at node s = record s { rows = at_row put_row node s.rows }

abbrev pub surplus_added : ℕ → NodeRows → NodeRows
surplus_added home s = record s { rows = at_row add_surplus_row (near Idle home s.rows) s.rows }

abbrev pub grown : NodeRows → NodeRows
grown s = let i = next_from Idle s.growth s.rows in record s { rows = at_row grow_row i s.rows; growth = next_node i s.rows }

abbrev pub shrunk : NodeRows → NodeRows
shrunk s = let i = next_from Free s.release s.rows in record s { rows = at_row shrink_row i s.rows; release = next_node i s.rows }

abbrev pub promoted : NodeRows → NodeRows
promoted s = record s { rows = at_row promote_row (lowest Surplus s.rows) s.rows }

abbrev pub demoted : NodeRows → NodeRows
demoted s = record s { rows = at_row demote_row (lowest Persistent s.rows) s.rows }

abbrev pub given_back : NodeRows → NodeRows
given_back s =
    let both = lowest FreeSurplus s.rows in
    let rows = if nat_lt both (length s.rows)
    then at_row give_back_row both s.rows
    else at_row promote_row (lowest Surplus s.rows) (at_row shrink_row (lowest Free s.rows) s.rows)
    in record s { rows = rows }

-- what holds of every row
pub record IsRow (r : NodeRow) : Type 0 where
  pub free_in : r.free ≤ r.total
  pub surp_in : r.surp ≤ r.total
  pub total_in : r.total ≤ r.frames
  pub few : r.frames ≤ most_frames

-- the sums over all nodes
abbrev pub frames_of : List NodeRow → ℕ
frames_of rows = sum_by (λ r. r.frames) rows

abbrev pub total_of : List NodeRow → ℕ
total_of rows = sum_by (λ r. r.total) rows

abbrev pub free_of : List NodeRow → ℕ
free_of rows = sum_by (λ r. r.free) rows

abbrev pub surp_of : List NodeRow → ℕ
surp_of rows = sum_by (λ r. r.surp) rows

abbrev pub sum_row : List NodeRow → NodeRow
sum_row rows = record { frames = frames_of rows; total = total_of rows; free = free_of rows; surp = surp_of rows }
