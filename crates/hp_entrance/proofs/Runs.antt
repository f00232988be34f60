-- Faults that follow one another in a queue, and what is told of them.
use Rattle.std.proofs.Common.{◌≡◌, ℕ, zero, suc, ◌+◌, ◌<◌, ◌≤◌, false, Ok, List, [], ◌∷◌, ◌++◌, length, take, drop, slice_set, refl, sym, ap, subst, ◌∙◌, arith}
use lib.ListN.{get_or}
use Rattle.std.specs.List.{All}
use Rattle.std.proofs.Math.Seq.{take-append_seam}
use Rattle.std.proofs.lemmas.List.{length-take-le, take_more, take_more_set}
use Rattle.std.proofs.lemmas.Slice.{drop-append-drop}
use Rattle.std.proofs.lemmas.List.Elements.{All-append, All-cons, All-nil, All-tail}
use Rattle.hp_model.proofs.Words.{QueuedView, Reply}
use Rattle.hp_model.specs.beside.Queue.{is_load}
use Rattle.hp_laws.proofs.Variants.{Done, Receipt, Step}
use Rattle.hp_events.specs.Queues.{AreAccessesHanded, AreFirstHanded, IsAccessHanded}
use Rattle.hp_shared.specs.Runs.{Faults}
use Rattle.hp_entrance.specs.Runs.{AreFaultsHanded, AreFaultsOf, fault_at}

-- ---- faults that wait

and_one : (f : Faults) (i n : ℕ) (qs : List QueuedView) (q : QueuedView) → length qs ≡ n → AreFaultsOf f i qs → q.step ≡ fault_at f (i + n) → AreFaultsOf f i (qs ++ q ∷ [])
and_one f i n [] q count faults one = (subst (λ k. q.step ≡ fault_at f k) (omega (arith, count)) one, tt)
and_one f i n (x ∷ xs) q count faults one =
    (faults.0, and_one f (suc i) (length xs) xs q refl faults.1 (subst (λ k. q.step ≡ fault_at f k) (omega (arith, count)) one))

-- one more is the next
pub faults_next : (f : Faults) (i n : ℕ) (qs : List QueuedView) (d : QueuedView) → n < length qs → AreFaultsOf f i (take n qs) → (get_or qs n d).step ≡ fault_at f (i + n)
    → AreFaultsOf f i (take (n + 1) qs)
faults_next f i n qs d within faults one =
    rw (take_more qs n d within) (and_one f i n (take n qs) (get_or qs n d) (length-take-le n qs (omega (arith, within))) faults one)

-- so are the first of them
pub faults_first : (f : Faults) (i n most : ℕ) (qs : List QueuedView) → n ≤ most → AreFaultsOf f i (take most qs) → AreFaultsOf f i (take n qs)
faults_first f i zero most qs few faults = tt
faults_first f i (suc n) most [] few faults = tt
faults_first f i (suc n) zero (q ∷ qs) few faults = absurd (omega (arith, few))
faults_first f i (suc n) (suc most) (q ∷ qs) few faults = (faults.0, faults_first f (suc i) n most qs (omega (arith, few)) faults.1)

pub are_no_loads : (f : Faults) (i : ℕ) (qs : List QueuedView) → AreFaultsOf f i qs → All (λ q. is_load q.step ≡ false) qs
are_no_loads f i [] faults = All-nil (λ q. is_load q.step ≡ false)
are_no_loads f i (q ∷ qs) faults = All-cons (λ q. is_load q.step ≡ false) q qs (ap is_load faults.0) (are_no_loads f (suc i) qs faults.1)

-- ---- their answers

-- one more is answered that it is done
pub answered_next : (qs : List QueuedView) (i : ℕ) (q : QueuedView) → i < length qs → All (λ q. q.reply ≡ Ok Done) (take i qs) → q.reply ≡ Ok Done
    → All (λ q. q.reply ≡ Ok Done) (take (i + 1) (slice_set qs i q))
answered_next qs i q within done one =
    let P : QueuedView → Type 0 = λ q. q.reply ≡ Ok Done in
    rw (take_more_set qs i q within) (All-append P (take i qs) (q ∷ []) done (All-cons P q [] one (All-nil P)))

module _ (size at : ℕ) (f : Faults) (is_there : f.slot ≡ at) where
  -- each that was done is answered
  pub run_answered : (i n : ℕ) (before after : List QueuedView) (was now : List Receipt) → length before ≡ n → length after ≡ n → AreFaultsOf f i before
      → All (λ q. q.reply ≡ Ok Done) after → AreFaultsHanded size at f i n was now → AreAccessesHanded size at before after was now
  run_answered i zero [] [] was now few same faults done h = h
  run_answered i (suc n) [] after was now few same faults done h = absurd (omega (arith, few))
  run_answered i n before [] was now few same faults done h = absurd (omega (arith, few, same))
  run_answered i zero (b ∷ bs) after was now few same faults done h = absurd (omega (arith, few))
  run_answered i zero before (a ∷ rest) was now few same faults done h = absurd (omega (arith, same))
  run_answered i (suc n) (b ∷ bs) (a ∷ rest) was now few same faults done h = (
    h.0,
    subst (λ (s : Step). IsAccessHanded size at s a.reply was h.0) (sym faults.0)
        (subst (λ (r : Reply). IsAccessHanded size at (fault_at f i) r was h.0) (sym (done 0 a (omega arith))) (is_there, h.1)),
    run_answered (suc i) n bs rest h.0 now (omega (arith, few)) (omega (arith, same)) faults.1 (All-tail (λ q. q.reply ≡ Ok Done) a rest done) h.2,
  )

  -- the first of a queue are made these
  pub first_answered : (i n most : ℕ) (before made : List QueuedView) (was now : List Receipt) → n ≤ most → most ≤ length before → length made ≡ n → AreFaultsOf f i (take most before)
      → All (λ q. q.reply ≡ Ok Done) made → AreFaultsHanded size at f i n was now → AreFirstHanded size at n before (made ++ drop n before) was now
  first_answered i n most before made was now fewer few count faults done handed = record {
    few = omega (arith, fewer, few);
    handed = subst (λ xs. AreAccessesHanded size at (take n before) xs was now)
        (sym (ap (λ k. take k (made ++ drop n before)) (sym count) ∙ take-append_seam made (drop n before)))
        (run_answered i n (take n before) made was now (length-take-le n before (omega (arith, fewer, few))) count (faults_first f i n most before fewer faults) done handed);
    left = drop-append-drop n before made n (omega arith) count;
  }
