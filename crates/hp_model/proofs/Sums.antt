use Rattle.std.proofs.lemmas.Grind.{common_steps}
use Rattle.std.proofs.Common.{ℕ, suc, ◌≡◌, ◌+◌, ◌<◌, ◌≤◌, Bool, true, false, cond, not, IsTrue, List, [], ◌∷◌, length, refl, arith, slice_set, sum_by, map, All}
use Rattle.std.specs.List.{position_or_len, prefix_len}
use Rattle.std.proofs.lemmas.Bool.Decides.{nat_tests}
use Rattle.std.proofs.lemmas.Bool.{cases_lt}
use Rattle.std.proofs.lemmas.List.Sums.{sum_by-cons, get_or-le-sum_by}
use Rattle.hp_model.specs.declared.node.NodeRow.{NodeRow}
use Rattle.hp_model.specs.declared.node.Kind.{Kind}
use Rattle.hp_model.specs.declared.node.Kind.TheVariants.{Free, Idle, Surplus, Persistent}
use Rattle.hp_model.proofs.Words.{IsRow, frames_of, free_of, has, idle_row, lowest, row_at, some_has, sum_row, surp_of, take_row, total_of}

pub take_sums : (rows : List NodeRow) (i : ℕ) (y : NodeRow) → i < length rows → y ≡ take_row (row_at rows i) → 0 < (row_at rows i).free → sum_row (slice_set rows i y) ≡ take_row (sum_row rows)
take_sums rows i y h e h0 = grind (arith, common_steps)

-- where no row passes, one sum is at most the other
all_at_most : (p : NodeRow → Bool) (g h : NodeRow → ℕ) → ((r : NodeRow) → p r ≡ false → h r ≤ g r) → (rows : List NodeRow) → length rows ≤ position_or_len p rows → sum_by h rows ≤ sum_by g rows
all_at_most p g h le [] none = omega arith
all_at_most p g h le (r ∷ rs) none =
    let P : Bool → Type 0 = λ b. p r ≡ b → length (r ∷ rs) ≤ cond (not b) (1 + prefix_len (λ x. not (p x)) rs) 0 → sum_by h (r ∷ rs) ≤ sum_by g (r ∷ rs) in
    elim (p r) as P [
      | true ↦ λ is few. absurd (omega arith)
      | false ↦ λ is few. let rest = all_at_most p g h le rs (omega arith) in let here = le r is in omega (arith, sum_by-cons h r rs, sum_by-cons g r rs)
    ] refl none

some_where : (p : NodeRow → Bool) (g h : NodeRow → ℕ) → ((r : NodeRow) → p r ≡ false → h r ≤ g r) → (rows : List NodeRow) → sum_by g rows < sum_by h rows → position_or_len p rows < length rows
some_where p g h le rows less = grind (arith, common_steps, cases_lt, all_at_most)

zero_sum : (rows : List NodeRow) → sum_by (λ _. 0) rows ≡ 0
zero_sum [] = refl
zero_sum (r ∷ rs) = omega (arith, sum_by-cons (λ (x : NodeRow). 0) r rs, zero_sum rs)

is_some : (kind : Kind) (rows : List NodeRow) → lowest kind rows < length rows → IsTrue (some_has kind rows)
is_some kind rows h = grind (arith, nat_tests)

pub some_free : (rows : List NodeRow) → 0 < free_of rows → IsTrue (some_has Free rows)
some_free rows h = is_some Free rows (some_where (has Free) (λ _. 0) (λ r. r.free) (λ r e. grind (arith, nat_tests)) rows (omega (arith, zero_sum rows)))

pub some_surplus : (rows : List NodeRow) → 0 < surp_of rows → IsTrue (some_has Surplus rows)
some_surplus rows h = is_some Surplus rows (some_where (has Surplus) (λ _. 0) (λ r. r.surp) (λ r e. grind (arith, nat_tests)) rows (omega (arith, zero_sum rows)))

pub some_idle : (rows : List NodeRow) → total_of rows < frames_of rows → IsTrue (some_has Idle rows)
some_idle rows h = is_some Idle rows (some_where (has Idle) (λ r. r.total) (λ r. r.frames) (λ r e. grind (arith, nat_tests)) rows h)

pub some_persistent : (rows : List NodeRow) → surp_of rows < total_of rows → IsTrue (some_has Persistent rows)
some_persistent rows h = is_some Persistent rows (some_where (has Persistent) (λ r. r.surp) (λ r. r.total) (λ r e. grind (arith, nat_tests)) rows h)

-- no surplus at all is none at any node
pub none_surplus : (rows : List NodeRow) → surp_of rows ≡ 0 → All (λ r. r.surp ≡ 0) rows
none_surplus rows e = λ k d below. let le = get_or-le-sum_by (λ (r : NodeRow). r.surp) rows k d below in omega arith

pub free_le_total : (rows : List NodeRow) → All IsRow rows → free_of rows ≤ total_of rows
free_le_total [] h = omega arith
free_le_total (r ∷ rs) h =
    let here : IsRow r = h 0 r (omega arith) in
    let rest = free_le_total rs (λ k d below. h (suc k) d (omega arith)) in
    omega (arith, here.free_in, rest, sum_by-cons (λ (x : NodeRow). x.free) r rs, sum_by-cons (λ (x : NodeRow). x.total) r rs)

pub idle_total : (frames : List ℕ) → total_of (map idle_row frames) ≡ 0
idle_total [] = refl
idle_total (f ∷ fs) = omega (arith, sum_by-cons (λ (x : NodeRow). x.total) (idle_row f) (map idle_row fs), idle_total fs)

pub idle_surp : (frames : List ℕ) → surp_of (map idle_row frames) ≡ 0
idle_surp [] = refl
idle_surp (f ∷ fs) = omega (arith, sum_by-cons (λ (x : NodeRow). x.surp) (idle_row f) (map idle_row fs), idle_surp fs)
