-- A mount's limits are set through a door.
use Rattle.std.proofs.Common.{◌≡◌, ℕ, ◌+◌, ◌-◌, Option, Some, None, Ok, Err, List, length, ap, ◌∙◌, arith, OnErr, Result}
use Rattle.std.proofs.lemmas.Bool.{cond_both}
use Rattle.hp_model.specs.declared.limits.Limits.{Limits}
use Rattle.hp_model.specs.declared.refusal.Refusal.{Refusal}
use Rattle.hp_model.specs.declared.refusal.Refusal.TheVariants as r
use Rattle.hp_model.specs.declared.section.PoolAnswer.{PoolAnswer}
use Rattle.hp_model.specs.declared.section.Section.{Section}
use Rattle.hp_model.proofs.Words.{IsSettled, Pool, Wanted, checked, granted, is_below_min, limits, limits_of, released, section, surp_of, total_of, trimmed, wanted_of}
use Rattle.hp_subpool.specs.Subpool.{Subpool, gain, is_loss, loss, with_minimum}
use Rattle.hp_mount_door.specs.Door.{IsReady}
use Rattle.hp_mount_door.specs.Limits.{IsLimitedAt, IsLimitedBy}
use Rattle.hp_own_pool.proofs.Returning.{given_len, surplus_len}

never_checked : (l : Limits) → checked l ≡ Err r.TraceFull → ⊥
never_checked l = cond_both (is_below_min l.max l.min) (Err r.MinOverSize) (Ok l) (λ (x : Result Limits Refusal). x ≡ Err r.TraceFull → ⊥) (λ t e. cc) (λ t e. cc)

-- options are never refused so
pub never_full : (nr size : ℕ) (w : Option Wanted) → limits nr size w ≡ Err r.TraceFull → ⊥
never_full nr size None e = cc
never_full nr size (Some w) e = never_checked (limits_of nr size w) e

full_is : (l : Result Limits Refusal) (nr : ℕ) (old new : Subpool) (s : Section) (a : PoolAnswer) → IsLimitedBy l nr old new (Err r.TraceFull) s a → l ≡ Err r.TraceFull
full_is (Err e) nr old new s a h = (let same = h.0 in cc)
full_is (Ok l) nr old new s a h = (let same = h.0 in cc)

pub limited_at : {X : Type 0} (took : X → Section → PoolAnswer → X → Type 0) (full : X → Type 0) (size : ℕ) (text : List ℕ) (share left : Subpool) (old new : X)
    (got : Result (Option ℕ) Refusal) (nr : ℕ) (s : Section) (a : PoolAnswer)
    → IsLimitedBy (limits nr size (wanted_of text)) nr share left got s a → took old s a new → IsLimitedAt took full size text share left old new got
limited_at took full size text share left old new (Err r.TraceFull) nr s a h t =
    absurd (never_full nr size (wanted_of text) (full_is (limits nr size (wanted_of text)) nr share left s a h))
limited_at took full size text share left old new (Ok got) nr s a h t = (nr, s, a, h, t)
limited_at took full size text share left old new (Err other) nr s a h t = (nr, s, a, h, t)

-- the same of a pool by itself
pub own_limited : (size : ℕ) (text : List ℕ) (share left : Subpool) (p q : Pool) (got : Result (Option ℕ) Refusal) (s : Section) (a : PoolAnswer)
    → IsLimitedBy (limits p.nr size (wanted_of text)) p.nr share left got s a → section p s ≡ (a, q)
    → IsLimitedAt (λ (p : Pool) s a q. section p s ≡ (a, q)) (λ p. ⊥) size text share left p q got
own_limited size text share left p q got s a h t = limited_at (λ (p : Pool) s a q. section p s ≡ (a, q)) (λ p. ⊥) size text share left p q got p.nr s a h t

-- a share whose limits are refused stays
pub refused_stays : (l : Result Limits Refusal) (nr : ℕ) (old new : Subpool) (got : Result (Option ℕ) Refusal) (s : Section) (a : PoolAnswer)
    → IsLimitedBy l nr old new got s a → OnErr got (new ≡ old)
refused_stays (Err e) nr old new (Ok files) s a h = tt
refused_stays (Err e) nr old new (Err x) s a h = h.1
refused_stays (Ok l) nr old new (Ok files) s a h = tt
refused_stays (Ok l) nr old new (Err e) s a h = h.1

pub limited_ready : (s : Subpool) (min : ℕ) (p q : Pool) → q ≡ with_minimum s min p → IsSettled q → IsReady p → IsReady q
limited_ready s min p q is stays ready =
    let nodes = ready.nodes in
    let rows : length (with_minimum s min p).nodes.rows ≡ length p.nodes.rows = cond_both (is_loss s min) (trimmed (released (loss s min) p)) (granted 0 (gain s min) p)
    (λ (x : Pool). length x.nodes.rows ≡ length p.nodes.rows) (λ t. given_len (surp_of p.nodes.rows - (p.committed - loss s min - p.nr)) p.nodes)
    (λ t. surplus_len 0 (p.committed + gain s min - total_of p.nodes.rows) p.nodes) in
    let same = ap (λ (x : Pool). length x.nodes.rows) is ∙ rows in
    record { settled = stays; nodes = omega (arith, nodes, same) }
