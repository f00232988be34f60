-- Places in the order, and fronts of it.
use Rattle.std.proofs.Common.{◌≡◌, ℕ, zero, suc, ◌+◌, ◌<◌, ◌≤◌, ◌==◌, Bool, true, false, List, [], ◌∷◌, ◌++◌, length, subst, sym, arith, if◌then◌else◌}
use Rattle.std.proofs.Common.{Option, Some, None, refl, ap, map}
use Rattle.hp_model.proofs.Words.{Item, keep, option_cons, receipt_of, told}
use Rattle.hp_history.specs.Ending.{MadeAreTold, Told, by_at, item_of}
use Rattle.hp_events.specs.Time.{IsFront, made}
use Rattle.hp_history.specs.History.{InTime, place_in}

before_zero : (t : Bool) (p m k : ℕ) → (0 < m → p < k) → 0 < (if t then suc m else m) → (if t then 0 else suc p) < suc k
before_zero true p m k f l = omega arith
before_zero false p m k f l = let q = f l in omega (arith, q)

before_suc : (t : Bool) (p q m k at : ℕ) → (at < m → p < k) → (suc at < m → q < k) → suc at < (if t then suc m else m) → (if t then suc p else suc q) < suc k
before_suc true p q m k at f g l = let r = f (omega (arith, l)) in omega (arith, r)
before_suc false p q m k at f g l = let r = g l in omega (arith, r)

-- what a front has stands before its end
before : (seen rest : List ℕ) (n at : ℕ) → at < made n seen → place_in n at (seen ++ rest) < length seen
before [] rest n at l = absurd (omega (arith, l))
before (b ∷ bs) rest n zero l = before_zero (b == n) (place_in n zero (bs ++ rest)) (made n bs) (length bs) (before bs rest n zero) l
before (b ∷ bs) rest n (suc at) l =
    before_suc (b == n) (place_in n at (bs ++ rest)) (place_in n (suc at) (bs ++ rest)) (made n bs) (length bs) at (before bs rest n at) (before bs rest n (suc at)) l

behind_zero : (t : Bool) (p m all k : ℕ) → (m ≤ 0 → 0 < all → k ≤ p) → (if t then suc m else m) ≤ 0 → 0 < (if t then suc all else all) → suc k ≤ (if t then 0 else suc p)
behind_zero true p m all k f l a = absurd (omega (arith, l))
behind_zero false p m all k f l a = let q = f l a in omega (arith, q)

behind_suc : (t : Bool) (p q m all k at : ℕ) → (m ≤ at → at < all → k ≤ p) → (m ≤ suc at → suc at < all → k ≤ q)
    → (if t then suc m else m) ≤ suc at → suc at < (if t then suc all else all) → suc k ≤ (if t then suc p else suc q)
behind_suc true p q m all k at f g l a = let r = f (omega (arith, l)) (omega (arith, a)) in omega (arith, r)
behind_suc false p q m all k at f g l a = let r = g l a in omega (arith, r)

-- what a front does not have stands behind its end
behind : (seen rest : List ℕ) (n at : ℕ) → made n seen ≤ at → at < made n (seen ++ rest) → length seen ≤ place_in n at (seen ++ rest)
behind [] rest n at l a = omega arith
behind (b ∷ bs) rest n zero l a = behind_zero (b == n) (place_in n zero (bs ++ rest)) (made n bs) (made n (bs ++ rest)) (length bs) (behind bs rest n zero) l a
behind (b ∷ bs) rest n (suc at) l a =
    behind_suc (b == n) (place_in n at (bs ++ rest)) (place_in n (suc at) (bs ++ rest)) (made n bs) (made n (bs ++ rest)) (length bs) at (behind bs rest n at) (behind bs rest n (suc at)) l a

pub in_time : InTime
in_time order seen front n at m to there still made_then =
    subst (λ (o : List ℕ). place_in n at o < place_in m to o) (sym front.1)
    (let a = before seen front.0 n at there in
    let b = behind seen front.0 m to still (subst (λ (o : List ℕ). to < made m o) front.1 made_then) in omega (arith, a, b))

told_test : {X : Type 0} (t : Bool) (x : X) (xs : List X) (k : ℕ) → k ≡ length xs → (if t then suc k else k) ≡ length (option_cons (if t then Some x else None) xs)
told_test true x xs k e = ap suc e
told_test false x xs k e = e

pub made_told : MadeAreTold
made_told n [] = refl
made_told n (x ∷ xs) = told_test (by_at x == n) (receipt_of (item_of x)) (keep (told n) (map item_of xs)) (made n (map by_at xs)) (made_told n xs)
