-- Runs of threads that keep the order.
use Rattle.std.specs.Prelude.{ℕ, ◌<◌, ◌≡◌, ◌==◌, List, [], ◌∷◌, if◌then◌else◌}
use Rattle.std.specs.List.{All}
use Rattle.hp_order.specs.Waiting.{Doing, works, wants, idles, Thread, WaitsFor, IsFree, CanGoOn, AreKnown, Waits}

-- one thread does something else, and the others go on as they were
abbrev pub with_thread : ℕ → Thread → (ℕ → Thread) → ℕ → Thread
with_thread i t threads j = if j == i then t else threads j

abbrev pub thread : List ℕ → Doing → Thread
thread held doing = record { held = held; doing = doing }

-- what a thread may do next, as the calls of this crate let it: at work it waits for a lock that stands above all that it holds, or takes such a lock
-- that is free, lets the last one go, or, where it holds none, waits for anything else; one that waits for a lock takes it once it is free
pub data Does (rank : ℕ → ℕ) (threads : ℕ → Thread) (i : ℕ) : Thread → Type 0 where
  asks : (l : ℕ) → (threads i).doing ≡ works → All (λ h. rank h < rank l) (threads i).held → Does rank threads i (thread (threads i).held (wants l))
  tries : (l : ℕ) → (threads i).doing ≡ works → All (λ h. rank h < rank l) (threads i).held → IsFree threads l → Does rank threads i (thread (l ∷ (threads i).held) works)
  lets : (l : ℕ) (rest : List ℕ) → (threads i).doing ≡ works → (threads i).held ≡ l ∷ rest → Does rank threads i (thread rest works)
  rests : (threads i).doing ≡ works → (threads i).held ≡ [] → Does rank threads i (thread [] idles)
  takes : (l : ℕ) → (threads i).doing ≡ wants l → IsFree threads l → Does rank threads i (thread (l ∷ (threads i).held) works)
  wakes : (threads i).doing ≡ idles → Does rank threads i (thread (threads i).held works)

-- from the first threads, of which none holds anything, steps led to these
pub data Reached (rank : ℕ → ℕ) : (ℕ → Thread) → Type 0 where
  start : Reached rank (λ i. thread [] works)
  step : {threads : ℕ → Thread} (i : ℕ) (t : Thread) → Reached rank threads → Does rank threads i t → Reached rank (with_thread i t threads)

-- in no run does a thread wait for itself, through whomever
abbrev pub NoRunHasCycle : Type 0
NoRunHasCycle = (rank : ℕ → ℕ) (threads : ℕ → Thread) → Reached rank threads → (i : ℕ) → WaitsFor threads i i → ⊥

-- in each run whoever waits for a lock that is held waits at last for a thread that can go on
abbrev pub EachRunGoesOn : Type 0
EachRunGoesOn = (rank : ℕ → ℕ) (most : ℕ) (threads : ℕ → Thread) → ((l : ℕ) → rank l < most) → Reached rank threads → AreKnown threads
    → (i j : ℕ) → Waits threads i j → (k : ℕ) × WaitsFor threads i k × CanGoOn threads k
