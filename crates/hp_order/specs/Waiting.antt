-- Threads that hold locks, and wait.
use Rattle.std.specs.Prelude.{ℕ, ◌<◌, ◌≡◌, ◌⊎◌, List, []}
use Rattle.std.specs.List.{All, Contains}

-- what a thread does: it is at work, or waits for the lock of this number, or for anything else: a message, a connection, a read or a write
pub data Doing : Type 0 where
  works : Doing
  wants : ℕ → Doing
  idles : Doing

-- the locks that a thread holds, and what it does
pub record Thread : Type 0 where
  pub held : List ℕ
  pub doing : Doing

-- each lock has a rank. A thread waits for one where all that it holds have lower ranks, and for anything else where it holds nothing
abbrev pub MayWait : (ℕ → ℕ) → List ℕ → Doing → Type 0
MayWait rank held works = Unit {0}
MayWait rank held (wants l) = All (λ h. rank h < rank l) held
MayWait rank held idles = held ≡ []

abbrev pub IsOrdered : (ℕ → ℕ) → Thread → Type 0
IsOrdered rank t = MayWait rank t.held t.doing

-- the first waits for a lock that the second holds
abbrev pub Waits : (ℕ → Thread) → ℕ → ℕ → Type 0
Waits threads i j = (l : ℕ) × ((threads i).doing ≡ wants l) × Contains (threads j).held l

-- the first waits for the last, through any number of others
pub data WaitsFor (threads : ℕ → Thread) : ℕ → ℕ → Type 0 where
  one : {i j : ℕ} → Waits threads i j → WaitsFor threads i j
  more : {i j k : ℕ} → Waits threads i j → WaitsFor threads j k → WaitsFor threads i k

-- nobody holds the lock
abbrev pub IsFree : (ℕ → Thread) → ℕ → Type 0
IsFree threads l = (j : ℕ) → Contains (threads j).held l → ⊥

-- the thread can go on: it is at work, or the lock that it waits for is free
abbrev pub CanGoOn : (ℕ → Thread) → ℕ → Type 0
CanGoOn threads i = ((threads i).doing ≡ works) ⊎ ((l : ℕ) × ((threads i).doing ≡ wants l) × IsFree threads l)

-- each lock is free, or somebody holds it
abbrev pub AreKnown : (ℕ → Thread) → Type 0
AreKnown threads = (l : ℕ) → IsFree threads l ⊎ ((j : ℕ) × Contains (threads j).held l)

-- nobody waits for itself, through whomever
abbrev pub HasNoCycle : Type 0
HasNoCycle = (rank : ℕ → ℕ) (threads : ℕ → Thread) → ((i : ℕ) → IsOrdered rank (threads i)) → (i : ℕ) → WaitsFor threads i i → ⊥

-- whoever waits for a lock that is held waits at last for a thread that can go on
abbrev pub EndsAtWork : Type 0
EndsAtWork = (rank : ℕ → ℕ) (most : ℕ) (threads : ℕ → Thread) → ((l : ℕ) → rank l < most) → ((i : ℕ) → IsOrdered rank (threads i)) → AreKnown threads
    → (i j : ℕ) → Waits threads i j → (k : ℕ) × WaitsFor threads i k × CanGoOn threads k
