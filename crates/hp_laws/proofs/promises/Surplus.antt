-- A step that does not lower nr leaves surplus pages within overcommit, or no more than there were.
use Rattle.std.proofs.Common.{◌≡◌, ℕ, ◌+◌, ◌≤◌, true, refl, sym, ap, ◌∙◌, max, arith, length}
use Rattle.std.proofs.lemmas.Bool.{cond_both}
use Rattle.hp_laws.proofs.Variants.{Event, Exit, Fork, Pool as OnPool, PoolAnswer, PoolEvent, Section, Slot as OnSlot, SlotEvent, Step, TableEvent, Tasks}
use Rattle.hp_model.proofs.Words.{IsEvent, IsScripted, IsSettledState, IsStep, Plan, Pool, Reply, State, can_grant, committed_pages, counts_in, pool_event, pool_of, script, section, slot_at}
use Rattle.hp_model.proofs.Words.{slot_event}
use Rattle.hp_model.proofs.RowMoves.{puts_are}
use Rattle.hp_laws.specs.Laws.{pool_after, pool_left}
use Rattle.hp_laws.proofs.ending.Fades.{IsOf, exit_of, fork_of, script_keeps}
use Rattle.hp_laws.proofs.keeping.SettingsKept.{section_numbers}
use Rattle.hp_laws.proofs.settled.StaysSettled.{event_settled, pool_is_tied}
use Rattle.hp_laws.proofs.steps.Whole.{by_event}

-- ---- sections

-- no more is committed than was, or than nr and overcommit allow
abbrev Within : Pool → PoolAnswer × Pool → Type 0
Within p q = q.1.committed ≤ max p.committed (p.nr + p.overcommit)

granted_within : (p : Pool) (d : ℕ) → can_grant d p ≡ true → p.committed + d ≤ max p.committed (p.nr + p.overcommit)
granted_within p d e = grind arith

section_within : (p : Pool) (x : Section) → Within p (section p x)
section_within p x = grind (arith, cond_both, granted_within, puts_are)

-- ---- events

record Commits (s t : State) : Type 0 where
  pub nr : t.nr ≡ s.nr
  pub overcommit : t.overcommit ≡ s.overcommit
  pub committed : committed_pages t ≤ max (committed_pages s) (s.nr + s.overcommit)

-- by the pool that is left
by_pool : (s t : State) (q : Pool) → pool_of t ≡ q → q.nr ≡ s.nr → q.overcommit ≡ s.overcommit → q.committed ≤ max (committed_pages s) (s.nr + s.overcommit) → Commits s t
by_pool s t q same nr overcommit le = grind arith

plan_commits : (s t : State) (p : Plan) → pool_of t ≡ pool_after s p → Commits s t
plan_commits s t p same = grind (arith, by_pool, section_numbers, section_within)

event_tied : (s : State) → IsSettledState s → (e : Event) (reply : Reply) (t : State) (is : IsEvent s e reply t) → pool_of t ≡ pool_left is.0 s e
event_tied s st e reply t is = ap (λ (x : Reply × State). pool_of x.1) (sym is.2) ∙ (pool_is_tied is.0 s e is.1 st).0

slot_commits : (s : State) → IsSettledState s → (k : ℕ) (e : SlotEvent) (reply : Reply) (t : State) → IsEvent s (OnSlot k e) reply t → Commits s t
slot_commits s st k e reply t is = plan_commits s t (slot_event s.page_size k is.0 (slot_at s k) e) (event_tied s st (OnSlot k e) reply t is)

table_commits : (s : State) → IsSettledState s → (e : TableEvent) (reply : Reply) (t : State) → IsEvent s (Tasks e) reply t → Commits s t
table_commits s st e reply t is = by_pool s t (pool_of s) (event_tied s st (Tasks e) reply t is) refl refl (omega arith)

-- ---- steps

-- what is promised of the surplus
abbrev IsBounded : (s t : State) → Type 0
IsBounded s t = s.nr ≤ t.nr → (counts_in t).surp ≤ max s.overcommit (counts_in s).surp

bounded : (s t : State) → Commits s t → IsBounded s t
bounded s t h = λ le. (let nr = h.nr in let c = h.committed in omega (arith, nr, c))

-- where as many are committed
same_bounded : (s t : State) → committed_pages t ≡ committed_pages s → IsBounded s t
same_bounded s t same = λ le. omega (arith, same, le)

pool_committed : (p : Pool) (e : PoolEvent) → (pool_event p e).1.committed ≡ p.committed
pool_committed p e = grind arith

event_bounded : (s : State) → IsSettledState s → (e : Event) (reply : Reply) (t : State) → IsEvent s e reply t → IsBounded s t
event_bounded s st (OnSlot k e) reply t is = bounded s t (slot_commits s st k e reply t is)
event_bounded s st e reply t is = grind (arith, bounded, table_commits, same_bounded, event_tied, pool_committed)

-- of scripts that end maps of a task
abbrev Goes : (s t : State) → Type 0
Goes s t = IsSettledState s → IsSettledState t × Commits s t

goes_event : (gone : ℕ) (s : State) (e : Event) (reply : Reply) (t : State) → IsOf gone e → IsEvent s e reply t → Goes s t
goes_event gone s (Tasks e) reply t of is st = (event_settled s (Tasks e) reply t st is, table_commits s st e reply t is)
goes_event gone s (OnSlot k e) reply t of is st = (event_settled s (OnSlot k e) reply t st is, slot_commits s st k e reply t is)
goes_event gone s (OnPool e) reply t of is st = absurd of

goes_then : (s m t : State) → Goes s m → Goes m t → Goes s t
goes_then s m t a b st = grind arith

goes_same : (s : State) → Goes s s
goes_same s st = (st, record { nr = refl; overcommit = refl; committed = omega arith })

module _ (s : State) (st : IsSettledState s) where
  fork_bounded : (parent child : ℕ) (reply : Reply) (t : State) → IsScripted s (Fork parent child) reply t → IsBounded s t
  fork_bounded parent child reply t is =
      bounded s t (script_keeps child Goes goes_same goes_then (goes_event child) (script (length s.slots) (Fork parent child)) (fork_of (length s.slots) parent child) s reply t is st).1

  exit_bounded : (task : ℕ) (reply : Reply) (t : State) → IsScripted s (Exit task) reply t → IsBounded s t
  exit_bounded task reply t is =
      bounded s t (script_keeps task Goes goes_same goes_then (goes_event task) (script (length s.slots) (Exit task)) (exit_of (length s.slots) task) s reply t is st).1

  pub step_bounded : (reply : Reply) (t : State) (step : Step) → IsStep s step reply t → IsBounded s t
  step_bounded reply t step is =
      by_event s (λ step reply t. IsBounded s t) (λ step r early le. omega arith) (λ e reply t whole it. event_bounded s st e reply t it) fork_bounded exit_bounded reply t step is
