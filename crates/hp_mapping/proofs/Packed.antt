-- Places in words, and the words that they change to.
use Rattle.std.proofs.Common.{◌≡◌, ◌≢◌, ℕ, zero, suc, ◌+◌, ◌-◌, ◌*◌, ◌%◌, ◌^◌, ◌<◌, true, not, nat_eq, Some, None, bit_and, bit_or, refl, ap, ◌∙◌, arith}
use Rattle.std.specs.Int.{bit_at}
use Rattle.std.proofs.lemmas.Bool.Decides.{nat_tests}
use Rattle.std.proofs.lemmas.Nat.{and_le_r, and_mask, and_mod, or_disjoint, or_mod}
use Rattle.std.proofs.lemmas.Nat.Bits.{and_high, and_pow, bit_at_and, bit_at_or}
use Rattle.hp_model.proofs.Words.{copy_of, is_live, is_unconsumed, unconsumed, without_copy}
use Rattle.hp_mapping.specs.Mapped.{consumed, with_copy}
use Rattle.hp_mapping.specs.Packed.{place_in, place_with}

-- ---- a place by its bits: c says that it has a copy, b that it has none, r that its reservation was consumed, and n is the copy's number

live_by : (c b r n marks : ℕ) → marks ≡ (2 * c + b) * 2 ^ 33 → not (nat_eq marks 0) ≡ is_live (place_with c b r n)
live_by (suc c) b r n marks e = grind (arith, nat_tests)
live_by zero (suc b) r n marks e = grind (arith, nat_tests)
live_by zero zero r n marks e = grind (arith, nat_tests)

unconsumed_by : (c b r n mark : ℕ) → mark ≡ r * 2 ^ 32 → is_live (place_with c b r n) ≡ true → nat_eq mark 0 ≡ is_unconsumed (place_with c b r n)
unconsumed_by (suc c) b (suc r) n mark e live = grind (arith, nat_tests)
unconsumed_by (suc c) b zero n mark e live = grind (arith, nat_tests)
unconsumed_by zero (suc b) (suc r) n mark e live = grind (arith, nat_tests)
unconsumed_by zero (suc b) zero n mark e live = grind (arith, nat_tests)
unconsumed_by zero zero r n mark e live = cc

copied_by : (c b r n : ℕ) → c ≢ 0 → copy_of (place_with c b r n) ≡ Some n
copied_by (suc c) b r n some = refl
copied_by zero b r n some = absurd (some refl)

bare_by : (c b r n : ℕ) → c ≡ 0 → copy_of (place_with c b r n) ≡ None
bare_by (suc c) b r n none = absurd (omega arith)
bare_by zero (suc b) r n none = refl
bare_by zero zero r n none = refl

forked_by : (c b r n : ℕ) → place_with c b 0 n ≡ unconsumed (place_with c b r n)
forked_by (suc c) b r n = refl
forked_by zero (suc b) r n = refl
forked_by zero zero r n = refl

consumed_by : (c b r n : ℕ) → place_with c b 1 n ≡ consumed (place_with c b r n)
consumed_by (suc c) b r n = refl
consumed_by zero (suc b) r n = refl
consumed_by zero zero r n = refl

with_copy_by : (c b r n page : ℕ) → is_live (place_with c b r n) ≡ true → place_with 1 0 r page ≡ with_copy page (place_with c b r n)
with_copy_by (suc c) b r n page live = refl
with_copy_by zero (suc b) r n page live = refl
with_copy_by zero zero r n page live = cc

without_copy_by : (c b r n : ℕ) → is_live (place_with c b r n) ≡ true → place_with 0 1 r 0 ≡ without_copy (place_with c b r n)
without_copy_by (suc c) b r n live = refl
without_copy_by zero (suc b) r n live = refl
without_copy_by zero zero r n live = cc

-- ---- the place in a word

in_word : (code c b r n : ℕ) → bit_at code 34 ≡ c → bit_at code 33 ≡ b → bit_at code 32 ≡ r → code % 2 ^ 32 ≡ n → place_in code ≡ place_with c b r n
in_word code c b r n at_c at_b at_r at_n = λ i. place_with (at_c i) (at_b i) (at_r i) (at_n i)

module _ (code : ℕ) where
  abbrev c : ℕ
  c = bit_at code 34

  abbrev b : ℕ
  b = bit_at code 33

  abbrev r : ℕ
  r = bit_at code 32

  abbrev n : ℕ
  n = code % 2 ^ 32

  pub live_in : not (nat_eq (bit_and code (2 ^ 34 + 2 ^ 33)) 0) ≡ is_live (place_in code)
  live_in = live_by c b r n (bit_and code (2 ^ 34 + 2 ^ 33)) (omega (arith, and_high code 2 33))

  pub unconsumed_in : is_live (place_in code) ≡ true → nat_eq (bit_and code (2 ^ 32)) 0 ≡ is_unconsumed (place_in code)
  unconsumed_in = unconsumed_by c b r n (bit_and code (2 ^ 32)) (and_pow code 32)

  pub copied_in : bit_and code (2 ^ 34) ≢ 0 → copy_of (place_in code) ≡ Some n
  copied_in some = copied_by c b r n (λ none. some (and_pow code 34 ∙ ap (λ x. x * 2 ^ 34) none))

  pub bare_in : bit_and code (2 ^ 34) ≡ 0 → copy_of (place_in code) ≡ None
  bare_in none = bare_by c b r n (omega (arith, none, and_pow code 34))

  pub forked_in : place_in (bit_and code (2 ^ 64 - 1 - 2 ^ 32)) ≡ unconsumed (place_in code)
  forked_in =
      let kept : ℕ = 2 ^ 64 - 1 - 2 ^ 32 in
      in_word (bit_and code kept) c b 0 n (omega (arith, bit_at_and code kept 34)) (omega (arith, bit_at_and code kept 33))
      (omega (arith, bit_at_and code kept 32)) (omega (arith, and_mod code kept 32, and_mask n 32))
      ∙ forked_by c b r n

  pub consumed_in : place_in (bit_or code (2 ^ 32)) ≡ consumed (place_in code)
  consumed_in =
      let mark : ℕ = 2 ^ 32 in
      in_word (bit_or code mark) c b 1 n (omega (arith, bit_at_or code mark 34)) (omega (arith, bit_at_or code mark 33))
      (omega (arith, bit_at_or code mark 32)) (omega (arith, or_mod code mark 32, or_disjoint n 0 (omega (arith, and_le_r n 0))))
      ∙ consumed_by c b r n

  pub with_copy_in : (page : ℕ) → page < 2 ^ 32 → is_live (place_in code) ≡ true → place_in (bit_and code (2 ^ 32) + 2 ^ 34 + page) ≡ with_copy page (place_in code)
  with_copy_in page small live =
      let was = and_pow code 32 in
      in_word (bit_and code (2 ^ 32) + 2 ^ 34 + page) 1 0 r page (omega (arith, was, small)) (omega (arith, was, small)) (omega (arith, was, small)) (omega (arith, was, small))
      ∙ with_copy_by c b r n page live

  pub without_copy_in : is_live (place_in code) ≡ true → place_in (bit_and code (2 ^ 32) + 2 ^ 33) ≡ without_copy (place_in code)
  without_copy_in live =
      let was = and_pow code 32 in
      in_word (bit_and code (2 ^ 32) + 2 ^ 33) 0 1 r 0 (omega (arith, was)) (omega (arith, was)) (omega (arith, was)) (omega (arith, was))
      ∙ without_copy_by c b r n live
