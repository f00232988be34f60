-- A place within a trail can be counted up.
use Rattle.std.proofs.Common.{◌≡◌, ℕ, zero, suc, ◌+◌, ◌<◌, List, [], ◌∷◌, length, subst, arith, Fits, w64, slice_index_or}
use Rattle.std.specs.Global.{Vec}
use Rattle.hp_trail.specs.Walk.{lists}
use Rattle.hp_trail.proofs.Indexing.{lists_long, number_at, row_there}

vec_fits : {X : Type 0} (v : Vec X) (n : ℕ) → n < length v.items → Fits w64 (n + 1)
vec_fits v n l = omega (arith, v.ok.0, v.ok.1, v.small)

lists_fit : {X : Type 0} (vs : List (Vec X)) (k n : ℕ) → n < length (slice_index_or (lists vs) k []) → Fits w64 (n + 1)
lists_fit [] k n l = absurd (omega (arith, l))
lists_fit (v ∷ vs) zero n l = vec_fits v n l
lists_fit (v ∷ vs) (suc k) n l = lists_fit vs k n l

-- the cursor of the list numbered k
pub cursor_fits : {X : Type 0} (vs : List (Vec X)) (cs : List ℕ) (k n : ℕ) → length cs ≡ length vs → n ≡ slice_index_or cs k n
    → slice_index_or cs k 0 < length (slice_index_or (lists vs) k []) → Fits w64 (n + 1)
cursor_fits vs cs k n long read l =
    let there = row_there (lists vs) k (slice_index_or cs k 0) l in
    let same = number_at cs k n (omega (arith, there, long, lists_long vs)) read in
    lists_fit vs k n (subst (λ (m : ℕ). m < length (slice_index_or (lists vs) k [])) same l)
