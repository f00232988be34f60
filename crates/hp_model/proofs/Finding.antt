-- What `found` answers.
use Rattle.std.proofs.Common.{◌≡◌, ℕ, zero, suc, ◌+◌, ◌<◌, Bool, true, false, List, [], ◌∷◌, length, get_or, None, Some, refl, ap, arith}
use Rattle.hp_model.proofs.Words.{found}

pub found_none : {X : Type 0} (test : X → Bool) (xs : List X) (d : X) → ((k : ℕ) → k < length xs → test (get_or xs k d) ≡ false) → found test xs ≡ None
found_none test [] d none = refl
found_none test (x ∷ xs) d none =
    let first : test x ≡ false = none 0 (omega arith) in
    rw (first, found_none test xs d (λ k lt. none (suc k) (omega (arith, lt)))) refl

pub found_at : {X : Type 0} (test : X → Bool) (xs : List X) (d : X) (n : ℕ) → n < length xs → test (get_or xs n d) ≡ true →
    ((k : ℕ) → k < n → test (get_or xs k d) ≡ false) → found test xs ≡ Some (n, get_or xs n d)
found_at test [] d n lt here none = absurd (omega (arith, lt))
found_at test (x ∷ xs) d zero lt here none = rw here refl
found_at test (x ∷ xs) d (suc n) lt here none =
    let first : test x ≡ false = none 0 (omega arith) in
    rw (first, found_at test xs d n (omega (arith, lt)) here (λ k less. none (suc k) (omega (arith, less)))) (ap (λ j. Some (j, get_or xs n d)) {x = n + 1} {y = suc n} (omega arith))
