-- A mount gets its share through a door.
use Rattle.std.proofs.Common.{◌≡◌, ℕ, Ok, Err, List, Result}
use Rattle.hp_model.specs.declared.limits.Limits.{Limits}
use Rattle.hp_model.specs.declared.refusal.Refusal.{Refusal}
use Rattle.hp_model.specs.declared.refusal.Refusal.TheVariants as r
use Rattle.hp_model.specs.declared.section.PoolAnswer.{PoolAnswer}
use Rattle.hp_model.specs.declared.section.Section.{Section}
use Rattle.hp_model.proofs.Words.{Pool, limits, section, wanted_of}
use Rattle.hp_own_pool.proofs.Limiting.{never_full}
use Rattle.hp_subpool.specs.Subpool.{Subpool}
use Rattle.hp_mount_door.specs.Opened.{IsOpenedAt, IsShareOf}

full_is : (l : Result Limits Refusal) (nr : ℕ) (s : Section) (a : PoolAnswer) → IsShareOf l nr (Err r.TraceFull) s a → l ≡ Err r.TraceFull
full_is (Err e) nr s a h = (let same = h.0 in cc)
full_is (Ok l) nr s a h = (let same = h.0 in cc)

pub opened_at : {X : Type 0} (took : X → Section → PoolAnswer → X → Type 0) (full : X → Type 0) (size : ℕ) (text : List ℕ) (old new : X)
    (got : Result (Subpool × Limits) Refusal) (nr : ℕ) (s : Section) (a : PoolAnswer)
    → IsShareOf (limits nr size (wanted_of text)) nr got s a → took old s a new → IsOpenedAt took full size text old new got
opened_at took full size text old new (Err r.TraceFull) nr s a h t = absurd (never_full nr size (wanted_of text) (full_is (limits nr size (wanted_of text)) nr s a h))
opened_at took full size text old new (Ok got) nr s a h t = (nr, s, a, h, t)
opened_at took full size text old new (Err other) nr s a h t = (nr, s, a, h, t)

-- the same of a pool by itself
pub own_opened : (size : ℕ) (text : List ℕ) (p q : Pool) (got : Result (Subpool × Limits) Refusal) (s : Section) (a : PoolAnswer)
    → IsShareOf (limits p.nr size (wanted_of text)) p.nr got s a → section p s ≡ (a, q)
    → IsOpenedAt (λ (p : Pool) s a q. section p s ≡ (a, q)) (λ p. ⊥) size text p q got
own_opened size text p q got s a h t = opened_at (λ (p : Pool) s a q. section p s ≡ (a, q)) (λ p. ⊥) size text p q got p.nr s a h t
