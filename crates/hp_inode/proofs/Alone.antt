use Rattle.std.proofs.lemmas.Grind.{common_steps}
-- One index alone: put in, taken out, and counted.
use Rattle.std.proofs.Common.{◌≡◌, ℕ, ◌+◌, ◌-◌, ◌/◌, ◌%◌, Bool, true, false, not, ◌&&◌, ◌||◌, eqb, cond, List, length, get_or, sym, ap, ◌∙◌, arith, ⊎_elim, count_by}
use Rattle.std.specs.Int.{bit_at}
use Rattle.std.specs.List.{range_with_len}
use Rattle.std.proofs.Math.Bool.{or-false, or-true, and-true, and-false}
use Rattle.std.proofs.lemmas.Bool.{cases_lt, cases_eq, cases_Bool, true≢false, false_from_ne_true}
use Rattle.std.proofs.lemmas.Nat.Bits.{bit_at-zero}
use Rattle.hp_model.proofs.Counting.{count_cons}
use Rattle.hp_model.proofs.Ranges.{within-true, within-below, within-past}
use Rattle.hp_model.proofs.Words.{within}
use Rattle.hp_inode.specs.EntryBlock.{IsEntries}
use Rattle.hp_marks.specs.Marks.{marked}

module _ (old new : ℕ → Bool) (i : ℕ) (others : (k : ℕ) → (k ≡ i → ⊥) → new k ≡ old k) where
  not_alone : (k : ℕ) → (k ≡ i → ⊥) → within i (i + 1) k ≡ false
  not_alone k other = grind (arith, common_steps, within-below, within-past, cases_lt)

  alone : (k : ℕ) → k ≡ i → within i (i + 1) k ≡ true
  alone k same = within-true i (i + 1) k (omega (arith, same)) (omega (arith, same))

  pub put_in : new i ≡ true → (k : ℕ) → new k ≡ (old k || within i (i + 1) k)
  put_in here k = grind (arith, common_steps, alone, or-true, not_alone, or-false, cases_eq)

  pub put_out : new i ≡ false → (k : ℕ) → new k ≡ (old k && not (within i (i + 1) k))
  put_out here k = grind (arith, common_steps, alone, and-false, not_alone, and-true, cases_eq)

pub count_one : (p : ℕ → Bool) (i : ℕ) → count_by p (range_with_len i (i + 1 - i)) ≡ cond {A = ℕ} (p i) 1 0
count_one p i = grind (arith, common_steps, count_cons)

-- in a word that is zero there is no mark
pub zero_unmarked : (words : List ℕ) (k : ℕ) → get_or words (k / 64) 0 ≡ 0 → marked words k ≡ false
zero_unmarked words k zero = ap (λ w. eqb (bit_at w (k % 64)) 1) zero ∙ ap (λ n. eqb n 1) (bit_at-zero (k % 64))

-- with fewer bits, and fewer marks where there are none left
pub thinned_entries : (words marks new news : List ℕ) → IsEntries words marks → length new ≡ length words → length news ≡ length marks →
    ((k : ℕ) → marked new k ≡ true → marked words k ≡ true) → ((w : ℕ) → marked news w ≡ true → marked marks w ≡ true) →
    ((k : ℕ) → marked marks (k / 64) ≡ true → marked news (k / 64) ≡ false → marked new k ≡ false) → IsEntries new news
thinned_entries words marks new news is long longs fewer below gone = grind (arith, common_steps, false_from_ne_true, true≢false, cases_Bool)

-- one index goes from words and their marks
module _ (words marks new news : List ℕ) (i : ℕ) (is : IsEntries words marks) (on : marked words i ≡ true) (here : marked new i ≡ false)
    (others : (k : ℕ) → (k ≡ i → ⊥) → marked new k ≡ marked words k) where
  pub word_marked : marked marks (i / 64) ≡ true
  word_marked = grind (arith, common_steps, true≢false, cases_Bool)

  pub one_gone : (some : Bool) → (some ≡ false → get_or new (i / 64) 0 ≡ 0) → length new ≡ length words → length news ≡ length marks → marked news (i / 64) ≡ some →
      ((w : ℕ) → (w ≡ i / 64 → ⊥) → marked news w ≡ marked marks w) → IsEntries new news
  one_gone some zero long longs mark rest = thinned_entries words marks new news is long longs
      (λ k there. ⊎_elim
      (λ (same : k ≡ i). absurd (true≢false (sym there ∙ ap (marked new) same ∙ here)))
      (λ (other : k ≡ i → ⊥). sym (others k other) ∙ there)
      (cases_eq k i))
      (λ w there. ⊎_elim
      (λ (same : w ≡ i / 64). ap (marked marks) same ∙ word_marked)
      (λ (other : w ≡ i / 64 → ⊥). sym (rest w other) ∙ there)
      (cases_eq w (i / 64)))
      (λ k was clear. ⊎_elim
      (λ (same : k / 64 ≡ i / 64). zero_unmarked new k (ap (λ q. get_or new q 0) same ∙ zero (sym mark ∙ ap (marked news) (sym same) ∙ clear)))
      (λ (other : k / 64 ≡ i / 64 → ⊥). absurd (true≢false (sym was ∙ sym (rest (k / 64) other) ∙ clear)))
      (cases_eq (k / 64) (i / 64)))
