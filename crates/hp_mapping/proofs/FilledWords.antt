use Rattle.std.proofs.lemmas.Grind.{common_steps}
-- Words with marks of all numbers below a limit.
use Rattle.std.proofs.Common.{◌≡◌, ℕ, ◌+◌, ◌-◌, ◌*◌, ◌/◌, ◌%◌, ◌^◌, ◌<◌, inl, inr, true, false, [], ◌∷◌, List, length, replicate, slice_index, refl, sym, ◌∙◌, ap, min, arith, slice_set}
use Rattle.std.proofs.lemmas.Bool.{cases_lt, true≢false}
use Rattle.std.proofs.lemmas.List.{get_or-set_same, get_or-set_other, get_or-replicate, get_or_past, length-replicate, length-set}
use Rattle.std.proofs.lemmas.Nat.Bits.{bit_at_ones, bit_at_ones_above, bit_at-zero}
use Rattle.std.specs.Int.{bit_at}
use Rattle.hp_marks.specs.Marks.{marked}
use Rattle.hp_marks.proofs.Words.{marked_at, unmarked_in, unmarked_past}
use Rattle.hp_mapping.specs.Marks.{IsUnmarkedFrom, IsSummed}

marked_in : (words : List ℕ) (k : ℕ) → bit_at (slice_index words (k / 64)) (k % 64) ≡ 1 → marked words k ≡ true
marked_in words k one = rw one refl

-- ---- a word with the bits below one

pub ones_marked : (bit : ℕ) → bit < 64 → (k : ℕ) → k < bit → marked ((2 ^ bit - 1) ∷ []) k ≡ true
ones_marked bit small k below =
    ap (marked ((2 ^ bit - 1) ∷ [])) {x = k} {y = 64 * 0 + k} (omega arith) ∙ marked_at ((2 ^ bit - 1) ∷ []) 0 k (omega (arith, small, below)) (bit_at_ones bit k below)

pub ones_blank : (bit : ℕ) → IsUnmarkedFrom bit ((2 ^ bit - 1) ∷ [])
ones_blank bit k from =
    elim (cases_lt k 64) as (λ _. marked ((2 ^ bit - 1) ∷ []) k ≡ false) [
      | inl small ↦
          let first : k / 64 ≡ 0 = omega arith in
          let place : k % 64 ≡ k = omega arith in
          unmarked_in ((2 ^ bit - 1) ∷ []) k (ap (λ w. bit_at (slice_index ((2 ^ bit - 1) ∷ []) w) (k % 64)) first ∙ ap (bit_at (2 ^ bit - 1)) place ∙ bit_at_ones_above bit k from)
      | inr past ↦ unmarked_past ((2 ^ bit - 1) ∷ []) k past
    ]

-- ---- words full of marks, but for the last

module _ (count last : ℕ) (full : List ℕ) (full_is : full ≡ replicate (count / 64 + 1) (2 ^ 64 - 1)) (last_is : last ≡ 2 ^ (count % 64) - 1) where
  abbrev words : List ℕ
  words = slice_set full (count / 64) last

  long : length full ≡ count / 64 + 1
  long = ap length full_is ∙ length-replicate (count / 64 + 1) (2 ^ 64 - 1)

  at_last : slice_index words (count / 64) ≡ 2 ^ (count % 64) - 1
  at_last = get_or-set_same full (count / 64) last 0 (omega (arith, long)) ∙ last_is

  before : (w : ℕ) → w < count / 64 → slice_index words w ≡ 2 ^ 64 - 1
  before w less = get_or-set_other full (count / 64) w last 0 (omega arith) ∙ ap (λ ws. slice_index ws w) full_is ∙ get_or-replicate (count / 64 + 1) w (2 ^ 64 - 1) 0 (omega arith)

  past : (w : ℕ) → count / 64 < w → slice_index words w ≡ 0
  past w more = get_or_past words w 0 (omega (arith, long, length-set full (count / 64) last))

  pub all_marked : (k : ℕ) → k < count → marked words k ≡ true
  all_marked k below = marked_in words k
      (elim (cases_lt (k / 64) (count / 64)) as (λ _. bit_at (slice_index words (k / 64)) (k % 64) ≡ 1) [
        | inl less ↦ ap (λ n. bit_at n (k % 64)) (before (k / 64) less) ∙ bit_at_ones 64 (k % 64) (omega arith)
        | inr here ↦
            let same : k / 64 ≡ count / 64 = omega arith in
            ap (λ w. bit_at (slice_index words w) (k % 64)) same ∙ ap (λ n. bit_at n (k % 64)) at_last ∙ bit_at_ones (count % 64) (k % 64) (omega arith)
      ])

  pub all_blank : IsUnmarkedFrom count words
  all_blank k from = grind (arith, common_steps, unmarked_in, cases_lt, past, bit_at-zero, at_last, bit_at_ones_above)

-- a mark above for each word that has one
pub summed_all : (count d : ℕ) (words above : List ℕ) → count < 2 ^ 64 → d ≡ count / 64 + min 1 (count % 64)
    → ((k : ℕ) → k < count → marked words k ≡ true) → IsUnmarkedFrom count words → length words ≡ count / 64 + 1
    → ((k : ℕ) → k < d → marked above k ≡ true) → IsUnmarkedFrom d above → length above ≡ d / 64 + 1
    → IsSummed words above
summed_all count d words above small d_is on blank len on_above blank_above len_above = record {
  few = omega (arith, small, len);
  few_above = omega (arith, small, d_is, len_above);
  none = λ k off.
      elim (cases_lt (k / 64) d) as (λ _. marked words k ≡ false) [
        | inl less ↦ absurd (true≢false (sym (on_above (k / 64) less) ∙ off))
        | inr le ↦ blank k (omega (arith, d_is))
      ];
  some = λ w one bare.
      elim (cases_lt w d) as (λ _. ⊥) [
        | inl less ↦ true≢false (sym (on (64 * w) (omega (arith, d_is))) ∙ bare (64 * w) (omega arith))
        | inr le ↦ true≢false (sym one ∙ blank_above w le)
      ];
  room = omega (arith, d_is, len, len_above);
}
