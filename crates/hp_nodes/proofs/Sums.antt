-- How the sums over the nodes change where so many moves are made at one.
use Rattle.std.proofs.Common.{ℕ, ◌≡◌, ◌+◌, ◌<◌, ◌≤◌, List, [], ◌∷◌, length, arith, slice_set}
use Rattle.std.specs.Fn.{iterate}
use Rattle.std.proofs.lemmas.List.Sums.{sum_by-set, get_or-le-sum_by}
use Rattle.hp_model.specs.declared.node.NodeRow.{NodeRow}
use Rattle.hp_model.proofs.Words.{NodeRows, frames_of, free_of, no_row, row_at, sum_row, surp_of, total_of}
use Rattle.hp_nodes.specs.Ledgers.{all_frames}
use Rattle.hp_nodes.specs.Moves.{take_by, put_by, grow_by, shrink_by, add_surplus_by, give_back_by, promote_by, demote_by}

abbrev pub row : ℕ → ℕ → ℕ → ℕ → NodeRow
row a b c d = record { frames = a; total = b; free = c; surp = d }

pub same_row : (a b c d e f g h : ℕ) → a ≡ e → b ≡ f → c ≡ g → d ≡ h → row a b c d ≡ row e f g h
same_row a b c d e f g h p q r s = cc

-- so many of the moves that were asked for are done, and the sums moved as one row does
pub record AreDone (step : NodeRows → NodeRows) (by : ℕ → NodeRow → NodeRow) (done count : ℕ) (old new : NodeRows) : Type 0 where
  pub within : done ≤ count
  pub moved : new ≡ iterate step done old
  pub frames : frames_of new.rows ≡ (by done (sum_row old.rows)).frames
  pub total : total_of new.rows ≡ (by done (sum_row old.rows)).total
  pub free : free_of new.rows ≡ (by done (sum_row old.rows)).free
  pub surp : surp_of new.rows ≡ (by done (sum_row old.rows)).surp

-- a row is moved by some numbers, and so are the sums
sums_as : (rows : List NodeRow) (i : ℕ) (y sums : NodeRow) → i < length rows
    → sums.frames + (row_at rows i).frames ≡ frames_of rows + y.frames
    → sums.total + (row_at rows i).total ≡ total_of rows + y.total
    → sums.free + (row_at rows i).free ≡ free_of rows + y.free
    → sums.surp + (row_at rows i).surp ≡ surp_of rows + y.surp
    → sum_row (slice_set rows i y) ≡ sums
sums_as rows i y sums h frames total free surp =
    let f : frames_of (slice_set rows i y) ≡ sums.frames = omega (arith, sum_by-set (λ (r : NodeRow). r.frames) rows i y no_row h) in
    let t : total_of (slice_set rows i y) ≡ sums.total = omega (arith, sum_by-set (λ (r : NodeRow). r.total) rows i y no_row h) in
    let n : free_of (slice_set rows i y) ≡ sums.free = omega (arith, sum_by-set (λ (r : NodeRow). r.free) rows i y no_row h) in
    let u : surp_of (slice_set rows i y) ≡ sums.surp = omega (arith, sum_by-set (λ (r : NodeRow). r.surp) rows i y no_row h) in
    same_row _ _ _ _ _ _ _ _ f t n u

pub take_sums : (rows : List NodeRow) (i k : ℕ) (y : NodeRow) → i < length rows → y ≡ take_by k (row_at rows i) → k ≤ (row_at rows i).free →
    sum_row (slice_set rows i y) ≡ take_by k (sum_row rows)
take_sums rows i k y h e free =
    let b = get_or-le-sum_by (λ (r : NodeRow). r.free) rows i no_row h in
    rw e (sums_as rows i (take_by k (row_at rows i)) (take_by k (sum_row rows)) h (omega arith) (omega arith) (omega arith) (omega arith))

pub put_sums : (rows : List NodeRow) (i k : ℕ) (y : NodeRow) → i < length rows → y ≡ put_by k (row_at rows i) → sum_row (slice_set rows i y) ≡ put_by k (sum_row rows)
put_sums rows i k y h e = rw e (sums_as rows i (put_by k (row_at rows i)) (put_by k (sum_row rows)) h (omega arith) (omega arith) (omega arith) (omega arith))

pub grow_sums : (rows : List NodeRow) (i k : ℕ) (y : NodeRow) → i < length rows → y ≡ grow_by k (row_at rows i) → sum_row (slice_set rows i y) ≡ grow_by k (sum_row rows)
grow_sums rows i k y h e = rw e (sums_as rows i (grow_by k (row_at rows i)) (grow_by k (sum_row rows)) h (omega arith) (omega arith) (omega arith) (omega arith))

pub shrink_sums : (rows : List NodeRow) (i k : ℕ) (y : NodeRow) → i < length rows → y ≡ shrink_by k (row_at rows i) → k ≤ (row_at rows i).free →
    k ≤ (row_at rows i).total → sum_row (slice_set rows i y) ≡ shrink_by k (sum_row rows)
shrink_sums rows i k y h e free total =
    let a = get_or-le-sum_by (λ (r : NodeRow). r.total) rows i no_row h in
    let b = get_or-le-sum_by (λ (r : NodeRow). r.free) rows i no_row h in
    rw e (sums_as rows i (shrink_by k (row_at rows i)) (shrink_by k (sum_row rows)) h (omega arith) (omega arith) (omega arith) (omega arith))

pub add_surplus_sums : (rows : List NodeRow) (i k : ℕ) (y : NodeRow) → i < length rows → y ≡ add_surplus_by k (row_at rows i) → sum_row (slice_set rows i y) ≡ add_surplus_by k (sum_row rows)
add_surplus_sums rows i k y h e = rw e (sums_as rows i (add_surplus_by k (row_at rows i)) (add_surplus_by k (sum_row rows)) h (omega arith) (omega arith) (omega arith) (omega arith))

pub give_back_sums : (rows : List NodeRow) (i k : ℕ) (y : NodeRow) → i < length rows → y ≡ give_back_by k (row_at rows i) → k ≤ (row_at rows i).free →
    k ≤ (row_at rows i).total → k ≤ (row_at rows i).surp → sum_row (slice_set rows i y) ≡ give_back_by k (sum_row rows)
give_back_sums rows i k y h e free total surp =
    let a = get_or-le-sum_by (λ (r : NodeRow). r.total) rows i no_row h in
    let b = get_or-le-sum_by (λ (r : NodeRow). r.free) rows i no_row h in
    let c = get_or-le-sum_by (λ (r : NodeRow). r.surp) rows i no_row h in
    rw e (sums_as rows i (give_back_by k (row_at rows i)) (give_back_by k (sum_row rows)) h (omega arith) (omega arith) (omega arith) (omega arith))

pub promote_sums : (rows : List NodeRow) (i k : ℕ) (y : NodeRow) → i < length rows → y ≡ promote_by k (row_at rows i) → k ≤ (row_at rows i).surp →
    sum_row (slice_set rows i y) ≡ promote_by k (sum_row rows)
promote_sums rows i k y h e surp =
    let c = get_or-le-sum_by (λ (r : NodeRow). r.surp) rows i no_row h in
    rw e (sums_as rows i (promote_by k (row_at rows i)) (promote_by k (sum_row rows)) h (omega arith) (omega arith) (omega arith) (omega arith))

pub demote_sums : (rows : List NodeRow) (i k : ℕ) (y : NodeRow) → i < length rows → y ≡ demote_by k (row_at rows i) → sum_row (slice_set rows i y) ≡ demote_by k (sum_row rows)
demote_sums rows i k y h e = rw e (sums_as rows i (demote_by k (row_at rows i)) (demote_by k (sum_row rows)) h (omega arith) (omega arith) (omega arith) (omega arith))

-- the frames of one to four nodes are all that there are
pub in_all : (rows : List NodeRow) (frames : ℕ → ℕ) → length rows ≤ 4 → ((k : ℕ) → k < 4 → (row_at rows k).frames ≡ frames k) → frames_of rows ≡ all_frames frames
in_all [] frames few each = omega (arith, each 0 (omega arith), each 1 (omega arith), each 2 (omega arith), each 3 (omega arith))
in_all (a ∷ []) frames few each = omega (arith, each 0 (omega arith), each 1 (omega arith), each 2 (omega arith), each 3 (omega arith))
in_all (a ∷ b ∷ []) frames few each = omega (arith, each 0 (omega arith), each 1 (omega arith), each 2 (omega arith), each 3 (omega arith))
in_all (a ∷ b ∷ c ∷ []) frames few each = omega (arith, each 0 (omega arith), each 1 (omega arith), each 2 (omega arith), each 3 (omega arith))
in_all (a ∷ b ∷ c ∷ d ∷ []) frames few each = omega (arith, each 0 (omega arith), each 1 (omega arith), each 2 (omega arith), each 3 (omega arith))
in_all (a ∷ b ∷ c ∷ d ∷ e ∷ rows) frames few each = absurd (omega (arith, few))
