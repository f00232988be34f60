-- How many frames a node has at most.
use Rattle.std.proofs.Common.{◌≡◌, ◌∷◌, [], All, List, arith, length, nat_lt, map, refl, ap, sum, if◌then◌else◌, ℕ, zero, suc, ◌+◌, ◌^◌, ◌<◌, ◌≤◌}
use Rattle.std.specs.List.{filter}
use Rattle.std.proofs.lemmas.Bool.{lt-ltb}
use Rattle.std.proofs.lemmas.List.Sums.{sum_by-cons, sum_by-le}
use Rattle.hp_model.proofs.Words.{IsRow, Pool, frames_of, idle_row, most_frames}
use Rattle.hp_model.specs.declared.node.NodeRow.{NodeRow}
use Rattle.hp_pool.specs.Sums.{idle_pool}
use Rattle.hp_locked.specs.Views.{frames_list}

abbrev rows_of : List ℕ → List NodeRow
rows_of fs = (idle_pool (filter (λ n. nat_lt 0 n) fs)).nodes.rows

abbrev frames_in : List ℕ → ℕ
frames_in fs = frames_of (rows_of fs)

with_some : (fs : List ℕ) → frames_in fs ≡ sum fs
with_some [] = refl
with_some (zero ∷ fs) = (let rest = with_some fs in let all = sum_by-cons (λ n. n) zero fs in omega (arith, rest, all))
with_some (suc n ∷ fs) =
    let rest = with_some fs in
    let here : rows_of (suc n ∷ fs) ≡ idle_row (suc n) ∷ rows_of fs =
    ap (λ b. map idle_row (if b then suc n ∷ filter (λ n. nat_lt 0 n) fs else filter (λ n. nat_lt 0 n) fs)) (lt-ltb 0 (suc n) (omega arith)) in
    let same = ap frames_of here in
    let rows = sum_by-cons (λ (r : NodeRow). r.frames) (idle_row (suc n)) (rows_of fs) in
    let all = sum_by-cons (λ n. n) (suc n) fs in
    omega (arith, rest, same, rows, all)

in_sum : (frames : ℕ → ℕ) (k : ℕ) → k < 4 → frames k ≤ frames 0 + (frames 1 + (frames 2 + frames 3))
in_sum frames zero below = omega arith
in_sum frames (suc zero) below = omega arith
in_sum frames (suc (suc zero)) below = omega arith
in_sum frames (suc (suc (suc zero))) below = omega arith
in_sum frames (suc (suc (suc (suc k)))) below = absurd (omega (arith, below))

-- a pool has all frames, and few of them
pub few_frames : (frames : ℕ → ℕ) (p : Pool) (k : ℕ) → All IsRow p.nodes.rows → length p.nodes.rows ≤ 4 →
    frames_of p.nodes.rows ≡ frames_of (idle_pool (frames_list frames)).nodes.rows → k < 4 → frames k < 2 ^ 64
few_frames frames p k sound few all below =
    let most = sum_by-le (λ (r : NodeRow). r.frames) most_frames p.nodes.rows few_each in
    let is = with_some (frames 0 ∷ frames 1 ∷ frames 2 ∷ frames 3 ∷ []) in
    let one = in_sum frames k below in
    omega (arith, most, is, one, all, few)
  where
    few_each : All (λ (r : NodeRow). r.frames ≤ most_frames) p.nodes.rows
    few_each i d less = (sound i d less).few
