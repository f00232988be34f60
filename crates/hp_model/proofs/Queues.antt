-- What waits is done, one after another.
use Rattle.std.proofs.lemmas.Grind.{common_steps}
use Rattle.std.proofs.Common.{◌≡◌, ℕ, ◌+◌, ◌<◌, List, [], ◌∷◌, ◌++◌, length, take, drop, slice_set, refl, sym, ap, subst, ◌∙◌, arith}
use lib.ListN.{get_or}
use Rattle.std.proofs.lemmas.List.{take_more, take_more_set}
use Rattle.hp_model.proofs.Words.{DoesAll, DoesOne, QueuedView, Reply}
use Rattle.hp_model.specs.declared.step.Step.{Step}

-- some are done, and then others
pub does_both : {S : Type 0} (m : S → Step → Reply → S → Type 0) (s t u : S) (before after others then : List QueuedView)
    → DoesAll m s before after t → DoesAll m t others then u → DoesAll m s (before ++ others) (after ++ then) u
does_both m s t u [] [] others then all more = subst (λ r. DoesAll m r others then u) (sym all) more
does_both m s t u [] (y ∷ ys) others then all more = absurd all
does_both m s t u (x ∷ xs) [] others then all more = absurd all
does_both m s t u (x ∷ xs) (y ∷ ys) others then all more = (all.0, all.1, does_both m all.0 t u xs ys others then all.2 more)

-- one more is done, behind the others
pub does_more : {S : Type 0} (m : S → Step → Reply → S → Type 0) (s t u : S) (before after : List QueuedView) (b a : QueuedView)
    → DoesAll m s before after t → DoesOne m t b a u → DoesAll m s (before ++ b ∷ []) (after ++ a ∷ []) u
does_more m s t u before after b a all one = does_both m s t u before after (b ∷ []) (a ∷ []) all (u, one, refl)

-- the first element, or this one
abbrev first_or : List QueuedView → QueuedView → QueuedView
first_or [] d = d
first_or (x ∷ xs) d = x

first : (xs : List QueuedView) (i : ℕ) (d : QueuedView) → first_or (drop i xs) d ≡ get_or xs i d
first xs i d = grind (arith, common_steps)

heads : (xs ys : List QueuedView) (i : ℕ) (d : QueuedView) → drop i xs ≡ drop i ys → get_or xs i d ≡ get_or ys i d
heads xs ys i d same = sym (first xs i d) ∙ ap (λ zs. first_or zs d) same ∙ first ys i d

-- the ones in front are done, and the next
pub does_next : {S : Type 0} (m : S → Step → Reply → S → Type 0) (s t u : S) (before now : List QueuedView) (at : ℕ) (a d : QueuedView)
    → at < length before → length now ≡ length before → drop at now ≡ drop at before
    → DoesAll m s (take at before) (take at now) t → DoesOne m t (get_or now at d) a u
    → DoesAll m s (take (at + 1) before) (take (at + 1) (slice_set now at a)) u
does_next m s t u before now at a d within size left all one =
    rw (take_more before at d within, take_more_set now at a (omega (arith, within, size)))
    (does_more m s t u (take at before) (take at now) (get_or before at d) a all (subst (λ x. DoesOne m t x a u) (heads now before at d left) one))

-- what is left behind the next is as it was
pub left_next : (before now : List QueuedView) (at : ℕ) (a : QueuedView) → drop at now ≡ drop at before → drop (at + 1) (slice_set now at a) ≡ drop (at + 1) before
left_next before now at a same = grind (arith, common_steps)
