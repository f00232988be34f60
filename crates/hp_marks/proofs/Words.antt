-- Marks in words: one set or cleared, and the first from a number on.
use Rattle.std.proofs.Common.{◌≡◌, ◌≢◌, ℕ, ◌+◌, ◌-◌, ◌*◌, ◌/◌, ◌%◌, ◌^◌, ◌<◌, ◌≤◌, true, false, List, length, get_or, set, subst, sym, refl, ap, ◌∙◌, arith, ⊎_elim}
use Rattle.std.specs.Int.{bit_at, w64, trailing_zeros}
use Rattle.std.proofs.lemmas.Bool.{cases_lt, cases_eq}
use Rattle.std.proofs.lemmas.List.{get_or-set_same, get_or-set_other, get_or_past}
use Rattle.std.proofs.lemmas.Nat.{pow-add}
use Rattle.std.proofs.lemmas.Nat.Bits.{bit_at-zero, bit_at_above, bit_at-trailing_zeros}
use Rattle.std.proofs.Math.Nat.{div-div-eq-div-mul, div-le_self}
use Rattle.hp_marks.specs.Marks.{marked, IsFirstFrom}

-- a mark by its word and its place there
pub marked_at : (words : List ℕ) (q r : ℕ) → r < 64 → bit_at (get_or words q 0) r ≡ 1 → marked words (64 * q + r) ≡ true
marked_at words q r lt one =
    let e : (64 * q + r) / 64 ≡ q = omega arith in
    let f : (64 * q + r) % 64 ≡ r = omega arith in
    rw (e, f, one) refl

pub unmarked_in : (words : List ℕ) (k : ℕ) → bit_at (get_or words (k / 64) 0) (k % 64) ≡ 0 → marked words k ≡ false
unmarked_in words k none = rw none refl

pub unmarked_past : (words : List ℕ) (k : ℕ) → 64 * length words ≤ k → marked words k ≡ false
unmarked_past words k le = unmarked_in words k (ap (λ w. bit_at w (k % 64)) (get_or_past words (k / 64) 0 (omega arith)) ∙ bit_at-zero (k % 64))

pub some_within : (words : List ℕ) (at : ℕ) → 0 < get_or words at 0 → at < length words
some_within words at some = ⊎_elim
    (λ (lt : at < length words). lt)
    (λ (le : length words ≤ at). absurd (omega (arith, some, get_or_past words at 0 le)))
    (cases_lt at (length words))

-- ---- one mark changed

module _ (words : List ℕ) (k word : ℕ) where
  pub marked_here : k / 64 < length words → bit_at word (k % 64) ≡ 1 → marked (set words (k / 64) word) k ≡ true
  marked_here lt one = rw (get_or-set_same words (k / 64) word 0 lt, one) refl

  pub unmarked_here : k / 64 < length words → bit_at word (k % 64) ≡ 0 → marked (set words (k / 64) word) k ≡ false
  unmarked_here lt none = rw (get_or-set_same words (k / 64) word 0 lt, none) refl

  pub marked_other : (j : ℕ) → k / 64 < length words → ((i : ℕ) → i < 64 → i ≢ k % 64 → bit_at word i ≡ bit_at (get_or words (k / 64) 0) i) →
      (j ≡ k → ⊥) → marked (set words (k / 64) word) j ≡ marked words j
  marked_other j lt same differs = ⊎_elim
      (λ (here : j / 64 ≡ k / 64).
      let place : j % 64 ≢ k % 64 = λ e. differs (omega (arith, here, e)) in
      let new : get_or (set words (k / 64) word) (j / 64) 0 ≡ word = ap (λ q. get_or (set words (k / 64) word) q 0) here ∙ get_or-set_same words (k / 64) word 0 lt in
      let old : get_or words (j / 64) 0 ≡ get_or words (k / 64) 0 = ap (λ q. get_or words q 0) here in
      rw (new, old, same (j % 64) (omega arith) place) refl)
      (λ (other : j / 64 ≡ k / 64 → ⊥). rw (get_or-set_other words (k / 64) (j / 64) word 0 other) refl)
      (cases_eq (j / 64) (k / 64))

-- ---- the first mark

module _ (words : List ℕ) (n : ℕ) where
  -- no mark from n on in a word, after none before it
  pub none_in_word : (q : ℕ) → ((i : ℕ) → i < 64 → n ≤ 64 * q + i → bit_at (get_or words q 0) i ≡ 0) →
      ((k : ℕ) → n ≤ k → k < 64 * q → marked words k ≡ false) → (k : ℕ) → n ≤ k → k < 64 * (q + 1) → marked words k ≡ false
  none_in_word q none before k from lt = ⊎_elim
      (λ (early : k < 64 * q). before k from early)
      (λ (late : 64 * q ≤ k).
      let e : k / 64 ≡ q = omega (arith, late, lt) in
      unmarked_in words k (ap (λ w. bit_at (get_or words w 0) (k % 64)) e ∙ none (k % 64) (omega arith) (omega (arith, late, lt, from))))
      (cases_lt k (64 * q))

  pub first_there : (q t : ℕ) → n ≤ 64 * q + t → t < 64 → bit_at (get_or words q 0) t ≡ 1 →
      ((i : ℕ) → i < t → n ≤ 64 * q + i → bit_at (get_or words q 0) i ≡ 0) → ((k : ℕ) → n ≤ k → k < 64 * q → marked words k ≡ false) →
      IsFirstFrom words n (64 * q + t)
  first_there q t from lt one none before = record {
    from = from;
    here = marked_at words q t lt one;
    none_before = λ k low high. ⊎_elim
        (λ (early : k < 64 * q). before k low early)
        (λ (late : 64 * q ≤ k).
        let e : k / 64 ≡ q = omega (arith, late, lt, high) in
        unmarked_in words k (ap (λ w. bit_at (get_or words w 0) (k % 64)) e ∙ none (k % 64) (omega (arith, late, lt, high)) (omega (arith, late, lt, high, low))))
        (cases_lt k (64 * q));
  }

  -- after numbers without a mark
  pub first_after : (m i : ℕ) → n ≤ m → ((k : ℕ) → n ≤ k → k < m → marked words k ≡ false) → IsFirstFrom words m i → IsFirstFrom words n i
  first_after m i le none found = record {
    from = omega (arith, le, found.from);
    here = found.here;
    none_before = λ k low high. ⊎_elim (λ (early : k < m). none k low early) (λ (late : m ≤ k). found.none_before k late high) (cases_lt k m);
  }

-- the lowest of a word
pub lowest_there : (words : List ℕ) (at : ℕ) → 0 < get_or words at 0 → get_or words at 0 < 2 ^ 64 → IsFirstFrom words (64 * at) (64 * at + trailing_zeros w64 (get_or words at 0))
lowest_there words at some small =
    let low = bit_at-trailing_zeros w64 (get_or words at 0) some small in
    first_there words (64 * at) at (trailing_zeros w64 (get_or words at 0)) (omega arith) low.0 low.1 (λ i less high. low.2 i less) (λ k from early. absurd (omega (arith, from, early)))

-- ---- the bits of a word from a on

module _ (word a : ℕ) where
  shifted : (i : ℕ) → bit_at (word / 2 ^ a) i ≡ bit_at word (a + i)
  shifted i = ap (λ q. q % 2) (div-div-eq-div-mul word (2 ^ a) (2 ^ i) ∙ ap (λ p. word / p) (sym (pow-add 2 a i)))

  shifted_from : (i : ℕ) → a ≤ i → bit_at word i ≡ bit_at (word / 2 ^ a) (i - a)
  shifted_from i le = ap (bit_at word) {x = i} {y = a + (i - a)} (omega (arith, le)) ∙ sym (shifted (i - a))

  none_shifted : word / 2 ^ a ≡ 0 → (i : ℕ) → a ≤ i → bit_at word i ≡ 0
  none_shifted none i le = shifted_from i le ∙ ap (λ q. bit_at q (i - a)) none ∙ bit_at-zero (i - a)

module _ (words : List ℕ) (n : ℕ) where
  nothing_before : (k : ℕ) → n ≤ k → k < 64 * (n / 64) → marked words k ≡ false
  nothing_before k from lt = absurd (omega (arith, from, lt))

  -- there is none in its word
  pub rest_none : get_or words (n / 64) 0 / 2 ^ (n % 64) ≡ 0 → (k : ℕ) → n ≤ k → k < 64 * (n / 64) + 64 → marked words k ≡ false
  rest_none none k from lt =
      none_in_word words n (n / 64) (λ i small above. none_shifted (get_or words (n / 64) 0) (n % 64) none i (omega (arith, above))) nothing_before k from (omega (arith, lt))

  -- or the first
  pub rest_found : 0 < get_or words (n / 64) 0 / 2 ^ (n % 64) → get_or words (n / 64) 0 < 2 ^ 64 →
      (n % 64 + trailing_zeros w64 (get_or words (n / 64) 0 / 2 ^ (n % 64)) < 64) × IsFirstFrom words n (n + trailing_zeros w64 (get_or words (n / 64) 0 / 2 ^ (n % 64)))
  rest_found some small =
      let word = get_or words (n / 64) 0 in
      let a = n % 64 in
      let t = trailing_zeros w64 (word / 2 ^ a) in
      let low = bit_at-trailing_zeros w64 (word / 2 ^ a) some (omega (arith, small, div-le_self word (2 ^ a))) in
      let set : bit_at word (a + t) ≡ 1 = sym (shifted word a t) ∙ low.1 in
      let within : a + t < 64 = ⊎_elim (λ (lt : a + t < 64). lt) (λ (past : 64 ≤ a + t). absurd (omega (arith, set, bit_at_above word 64 (a + t) small past))) (cases_lt (a + t) 64) in
      let first = first_there words n (n / 64) (a + t) (omega arith) within set
      (λ i before above. shifted_from word a i (omega (arith, above)) ∙ low.2 (i - a) (omega (arith, before, above))) nothing_before in
      (within, subst (λ i. IsFirstFrom words n i) (omega arith) first)
