-- What was known when a call began stands before it.
use Rattle.std.proofs.Common.{◌≡◌, ℕ, suc, ◌<◌, ◌≤◌, ◌==◌, Bool, true, false, List, [], ◌∷◌, ◌++◌, length, map, inl, inr, ap, sym, subst, ◌∙◌, append_assoc, arith, if◌then◌else◌}
use Rattle.hp_events.specs.Time.{IsFront, made}
use Rattle.hp_history.specs.Ending.{by_at}
use Rattle.hp_history.specs.History.{Each, InTime}
use Rattle.hp_shared.specs.Ended.{FinishedView}
use Rattle.hp_closing.specs.Time.{AnsweredFirst, IsOneOf}

over : {X : Type 0} (xs ys zs : List X) → IsFront xs ys → IsFront ys zs → IsFront xs zs
over xs ys zs a b = (a.0 ++ b.0, b.1 ∙ (ap (λ l. l ++ b.0) a.1 ∙ append_assoc xs a.0 b.0))

more_test : (t : Bool) (k m : ℕ) → k ≤ m → (if t then suc k else k) ≤ (if t then suc m else m)
more_test true k m l = omega (arith, l)
more_test false k m l = l

made_before : (n : ℕ) (xs rest : List ℕ) → made n xs ≤ made n (xs ++ rest)
made_before n [] rest = omega arith
made_before n (b ∷ bs) rest = more_test (b == n) (made n bs) (made n (bs ++ rest)) (made_before n bs rest)

-- a front has no more of a session than the whole
made_in : (n : ℕ) (xs ys : List ℕ) → IsFront xs ys → made n xs ≤ made n ys
made_in n xs ys front = subst (λ (l : List ℕ). made n xs ≤ made n l) (sym front.1) (made_before n xs front.0)

each_is : (P : FinishedView → Type 0) (xs : List FinishedView) (one : FinishedView) → Each P xs → IsOneOf one xs → P one
each_is P [] one h is = absurd is
each_is P (x ∷ xs) one h is = elim is [ inl same ↦ subst P same h.0 | inr among ↦ each_is P xs one h.1 among ]

pub answered_first : InTime → AnsweredFirst
answered_first law s sessions m run answered seen shown one among begins ends call known at to event next made_then =
    let order : List ℕ = map by_at run.all in
    let start = call.timed.start in
    let in_order : IsFront one.seen order = each_is (λ x. IsFront x.seen order) sessions one run.seen_first among in
    let seen_in_order = over seen start order known (over start ends.clock.seen order call.timed.later (over ends.clock.seen one.seen order call.seen in_order)) in
    let none_yet : made one.number start ≡ length begins.receipts =
    subst (λ n. made n start ≡ length begins.receipts) (sym call.timed.number ∙ call.number) call.timed.not_yet in
    let few = made_in one.number seen start known in
    law order seen seen_in_order answered.clock.number at one.number to (omega (arith, shown, event)) (omega (arith, few, none_yet, next)) made_then
