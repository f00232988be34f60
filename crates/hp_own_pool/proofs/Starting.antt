-- The pool that a machine starts with.
use Rattle.std.proofs.Common.{◌≡◌, ℕ, zero, suc, ◌+◌, ◌-◌, List, [], ◌∷◌, None, Some, map, replicate, refl, ◌∙◌, ap, arith, sum_by}
use Rattle.std.proofs.lemmas.List.Sums.{sum_by-cons}
use Rattle.hp_model.proofs.Words.{State, committed_pages, idle_node, idle_row, open_mount, pool_of, rows_of, slot_committed, start, used_at}
use Rattle.hp_pool.specs.Sums.{idle_pool}

none_free : (u : ℕ) → 0 - u ≡ 0
none_free u = omega arith

idle_rows : (s : State) (k : ℕ) (frames : List ℕ) → rows_of s k (map idle_node frames) ≡ map idle_row frames
idle_rows s k [] = refl
idle_rows s k (f ∷ fs) =
    ap (λ x. record { frames = f; total = 0; free = x; surp = 0 } ∷ rows_of s (k + 1) (map idle_node fs)) (none_free (used_at k s)) ∙ ap (λ xs. idle_row f ∷ xs) (idle_rows s (k + 1) fs)

pub sum_none : (n : ℕ) → sum_by slot_committed (replicate n None) ≡ 0
sum_none zero = refl
sum_none (suc n) = omega (arith, sum_none n, sum_by-cons slot_committed None (replicate n None))

pub start_pool : (frames : List ℕ) (size n : ℕ) → pool_of (start frames size n) ≡ idle_pool frames
start_pool frames size n =
    let none : committed_pages (start frames size n) ≡ 0 = omega (arith, sum_none (n - 1), sum_by-cons slot_committed (Some open_mount) (replicate (n - 1) None)) in
    ap (λ c. record (pool_of (start frames size n)) { committed = c }) none
    ∙ ap (λ rs. record { nr = 0; overcommit = 0; committed = 0; nodes = record { rows = rs; growth = 0; release = 0 } }) (idle_rows (start frames size n) 0 frames)
