use Rattle.std.proofs.Common.{ℕ, ◌≡◌, ◌+◌, ◌-◌, ◌∙◌, ap, arith, min}
use Rattle.hp_model.proofs.Words.{NodeRows, Pool, frames_of, lower_times, raise_times, set_nr, used_of}

abbrev pool : ℕ → ℕ → ℕ → NodeRows → Pool
pool nr overcommit committed nodes = record { nr = nr; overcommit = overcommit; committed = committed; nodes = nodes }

pub set_nr_is : (nr overcommit reserved n target : ℕ) (s t u : NodeRows) → target ≡ min n (frames_of s.rows) → t ≡ raise_times (target - nr) s →
    u ≡ lower_times reserved (nr - target) t → used_of u.rows ≡ used_of s.rows
    → pool target overcommit (reserved + used_of u.rows) u ≡ set_nr n (pool nr overcommit (reserved + used_of s.rows) s)
set_nr_is nr overcommit reserved n target s t u is raises lowers same =
    let back : reserved ≡ (reserved + used_of s.rows) - used_of s.rows = omega arith in
    let u_is : u ≡ lower_times ((reserved + used_of s.rows) - used_of s.rows) (nr - target) (raise_times (target - nr) s) = lowers
    ∙ (ap (λ k. lower_times k (nr - target) t) back ∙ ap (lower_times ((reserved + used_of s.rows) - used_of s.rows) (nr - target)) raises) in
    let one : pool target overcommit (reserved + used_of u.rows) u ≡ pool target overcommit (reserved + used_of s.rows) u = ap (λ k. pool target overcommit (reserved + k) u) same in
    let two : pool target overcommit (reserved + used_of s.rows) u ≡ pool target overcommit (reserved + used_of s.rows)
    (lower_times ((reserved + used_of s.rows) - used_of s.rows) (nr - target) (raise_times (target - nr) s)) =
    ap (pool target overcommit (reserved + used_of s.rows)) u_is in
    one ∙ (two ∙ ap (λ m. pool m overcommit (reserved + used_of s.rows) (lower_times ((reserved + used_of s.rows) - used_of s.rows) (nr - m) (raise_times (m - nr) s))) is)
