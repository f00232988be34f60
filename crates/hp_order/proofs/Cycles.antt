-- Why no thread waits for itself.
use Rattle.std.proofs.Common.{◌≡◌, ℕ, zero, suc, ◌+◌, ◌<◌, ◌≤◌, [], length, refl, sym, ap, ◌∙◌, subst, arith}
use Rattle.std.proofs.Math.Logic.{inl, inr}
use Rattle.std.specs.List.{Contains}
use Rattle.std.proofs.lemmas.List.Elements.{All-contains}
use Rattle.hp_order.specs.Waiting.{Doing, works, wants, idles, Thread, MayWait, IsOrdered, Waits, WaitsFor, one, more, CanGoOn, AreKnown, HasNoCycle, EndsAtWork}

-- what a thread waits for stands above what it holds
above_held : (rank : ℕ → ℕ) (t : Thread) (l h : ℕ) → IsOrdered rank t → t.doing ≡ wants l → Contains t.held h → rank h < rank l
above_held rank t l h ordered waits holds =
    All-contains (λ x. rank x < rank l) t.held h (subst (MayWait rank t.held) waits ordered) holds

-- whoever waits for anything else holds nothing
holds_none : (rank : ℕ → ℕ) (t : Thread) (h : ℕ) → IsOrdered rank t → t.doing ≡ idles → Contains t.held h → ⊥
holds_none rank t h ordered waits holds =
    let none : t.held ≡ [] = subst (MayWait rank t.held) waits ordered in
    let k : holds.0 < length t.held = holds.1 in omega (arith, ap length none, k)

-- along a chain of waiters the rank of what each waits for rises
rises : (rank : ℕ → ℕ) (threads : ℕ → Thread) → ((i : ℕ) → IsOrdered rank (threads i))
    → (i j : ℕ) → WaitsFor threads i j → (l : ℕ) → (threads j).doing ≡ wants l → (m : ℕ) × ((threads i).doing ≡ wants m) × (rank m < rank l)
rises rank threads ordered i j (one w) l waits = (w.0, w.1, above_held rank (threads j) l w.0 (ordered j) waits w.2)
rises rank threads ordered i k (more {j = j} w rest) l waits =
    let r = rises rank threads ordered j k rest l waits in
    let less = above_held rank (threads j) r.0 w.0 (ordered j) r.1 w.2 in (w.0, w.1, omega (arith, less, r.2))

-- what the first of a chain waits for
first_wants : (threads : ℕ → Thread) (i j : ℕ) → WaitsFor threads i j → (l : ℕ) × ((threads i).doing ≡ wants l)
first_wants threads i j (one w) = (w.0, w.1)
first_wants threads i k (more w rest) = (w.0, w.1)

number_of : Doing → ℕ
number_of works = 0
number_of (wants l) = l
number_of idles = 0

pub no_cycle : HasNoCycle
unfolding number_of
no_cycle rank threads ordered i chain =
    let f = first_wants threads i i chain in
    let r = rises rank threads ordered i i chain f.0 f.1 in
    let same : r.0 ≡ f.0 = ap number_of (sym r.1 ∙ f.1) in
    omega (arith, ap rank same, r.2)

module _ (rank : ℕ → ℕ) (most : ℕ) (threads : ℕ → Thread) (bound : (l : ℕ) → rank l < most) (ordered : (i : ℕ) → IsOrdered rank (threads i)) (known : AreKnown threads) where
  Ends : ℕ → Type 0
  Ends i = (k : ℕ) × WaitsFor threads i k × CanGoOn threads k

  -- whom a thread waits for goes on, or waits for one whose lock stands higher
  step : (i j : ℕ) → (w : Waits threads i j) → ((k m : ℕ) → (threads j).doing ≡ wants m → Contains (threads k).held m → rank w.0 < rank m → Ends j) → (d : Doing) → (threads j).doing ≡ d → Ends i
  unfolding Ends
  step i j w next works is = (j, one w, inl is)
  step i j w next idles is = absurd (holds_none rank (threads j) w.0 (ordered j) is w.2)
  step i j w next (wants m) is =
      elim (known m) as (λ _. Ends i) [
        | inl free ↦ (j, one w, inr (m, is, free))
        | inr at ↦ let e = next at.0 m is at.1 (above_held rank (threads j) m w.0 (ordered j) is w.2) in (e.0, more w e.1, e.2)
      ]

  ends : (n i j : ℕ) → (w : Waits threads i j) → most ≤ rank w.0 + n → Ends i
  ends zero i j w end = absurd (omega (arith, bound w.0, end))
  ends (suc n) i j w end =
      step i j w (λ k m is holds less. ends n j k (m, is, holds) (omega (arith, less, end))) (threads j).doing refl

pub ends_at_work : EndsAtWork
unfolding Ends
ends_at_work rank most threads bound ordered known i j w = ends rank most threads bound ordered known most i j w (omega arith)
