-- At most one element of a list passes a test: by the count, and by places.
use Rattle.std.proofs.Common.{◌≡◌, ℕ, zero, suc, ◌<◌, ◌≤◌, Bool, true, false, List, [], ◌∷◌, length, get_or, cond, arith, refl, ap, count_by}
use Rattle.std.proofs.lemmas.Bool.{false_from_ne_true}
use Rattle.std.proofs.lemmas.List.Sums.{get_or-le-sum_by}
use Rattle.hp_model.proofs.Counting.{count_cons}

abbrev pub bit : Bool → ℕ
bit b = cond b 1 0

module _ {X : Type 0} (p : X → Bool) (d : X) where
  none_pass : (xs : List X) → ((j : ℕ) → j < length xs → p (get_or xs j d) ≡ true → ⊥) → count_by p xs ≡ 0
  none_pass [] h = refl
  none_pass (x ∷ xs) h =
      let here = ap bit (false_from_ne_true (p x) (h 0 (omega arith))) in
      let rest = none_pass xs (λ j l e. h (suc j) (omega (arith, l)) e) in
      omega (arith, count_cons p x xs, here, rest)

  pub few : (xs : List X) → ((j k : ℕ) → j < length xs → k < length xs → p (get_or xs j d) ≡ true → p (get_or xs k d) ≡ true → j ≡ k) → count_by p xs ≤ 1
  few [] h = omega arith
  few (x ∷ xs) h =
      elim (p x) as (λ b. p x ≡ b → count_by p (x ∷ xs) ≤ 1) [
        | true ↦ λ e. (let one = ap bit e in
            let none = none_pass xs (λ j l t. (let same = h 0 (suc j) (omega arith) (omega (arith, l)) e t in absurd (omega (arith, same)))) in
            omega (arith, count_cons p x xs, one, none))
        | false ↦ λ e. (let one = ap bit e in
            let rest = few xs (λ j k lj lk a b. (let same = h (suc j) (suc k) (omega (arith, lj)) (omega (arith, lk)) a b in omega (arith, same))) in
            omega (arith, count_cons p x xs, one, rest))
      ] refl

  pub some_counted : (xs : List X) (k : ℕ) → k < length xs → p (get_or xs k d) ≡ true → 1 ≤ count_by p xs
  some_counted xs k l e = let one = ap bit e in let le = get_or-le-sum_by (λ x. cond (p x) 1 0) xs k d l in omega (arith, one, le)

  pub single : (xs : List X) → count_by p xs ≤ 1 → (j k : ℕ) → j < length xs → k < length xs → p (get_or xs j d) ≡ true → p (get_or xs k d) ≡ true → j ≡ k
  single [] few j k lj lk a b = absurd (omega (arith, lj))
  single (x ∷ xs) few zero (suc k) lj lk a b = grind (arith, some_counted, count_cons)
  single (x ∷ xs) few (suc j) (suc k) lj lk a b = ap suc (single xs (let cons = count_cons p x xs in omega (arith, cons, few)) j k (omega (arith, lj)) (omega (arith, lk)) a b)
  single (x ∷ xs) few j zero lj lk a b = grind (arith, some_counted, count_cons)
