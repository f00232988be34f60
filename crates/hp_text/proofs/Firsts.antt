-- The first byte that passes a test, by places and by its position.
use Rattle.std.proofs.Common.{◌≡◌, ℕ, List, ◌<◌, ◌≤◌, length, sym, subst, ap, ◌∙◌, arith, Bool, true, false, nat_lt, ltb-true, ltb-false, lt-ltb, Some, None, Option, cond, position}
use Rattle.std.proofs.lemmas.Bool.{false_from_ne_true}
use Rattle.std.proofs.lemmas.List.Sums.{fails_before_first, passes_at_first}
use Rattle.std.specs.List.{position_or_len}
use Rattle.memchr.specs.Find.{IsFirstByte}

true_not_false : true ≡ false → ⊥
true_not_false e = cc

module _ (test : ℕ → Bool) (text : List ℕ) where
  abbrev first : ℕ
  first = position_or_len test text

  found_first : (k : ℕ) → k < length text → k ≡ first → Some k ≡ position test text
  found_first k within is =
      ap Some is ∙ sym (ap (λ b. cond b (Some first) None) (lt-ltb first (length text) (subst (λ n. n < length text) is within)))

  pub first_position : (r : Option ℕ) → IsFirstByte test text r → r ≡ position test text
  first_position None none =
      sym (ap (λ b. cond b (Some first) None) (false_from_ne_true (nat_lt first (length text)) (λ e.
      (let within = ltb-true first (length text) e in none first (omega arith) within (passes_at_first test text 0 within)))))
  first_position (Some k) found = found_first k found.0.high (omega (arith, not_below, not_above))
    where
      not_below : first ≤ k
      not_below = ltb-false k first (false_from_ne_true (nat_lt k first) (λ e.
          (let fails = fails_before_first test text k 0 (ltb-true k first e) in absurd (true_not_false (sym found.1 ∙ fails)))))

      not_above : k ≤ first
      not_above = ltb-false first k (false_from_ne_true (nat_lt first k) (λ e.
          (let before = ltb-true first k e in
          let high = found.0.high in
          found.0.before first (omega arith) before (passes_at_first test text 0 (omega (arith, before, high))))))
