-- The tie of slots and pool: what a section with its answer moves in the pool's numbers is what its event moves in the slot's counts.
use Rattle.std.specs.Prelude.{◌≡◌, ◌⊎◌, ℕ, ◌+◌, ◌<◌, ◌≤◌, ◌&&◌, ◌==◌, if◌then◌else◌}
use Rattle.std.specs.List.{count_by, slice_index_or}
use Rattle.hp_model.specs.files.Fill.{rising_nodes}
use Rattle.hp_model.specs.machine.Plan.{Slot, Outcome, Refused, Answered, Plan, Finish, Ask, slot_committed, slot_pages, slot_pages_at, slot_usage, IsWithinLimit}
use Rattle.hp_model.specs.pool.Pool.{section}
use Rattle.hp_model.specs.declared.section.PoolAnswer.{PoolAnswer}
use Rattle.hp_model.specs.declared.section.Section.{Section}
use Rattle.hp_model.specs.declared.section.Section.TheVariants.{Grant, GrantPage, TakePage, FillPages, GiveBack, ReadAndGrant, ReadAndGiveBack, GrantAndReturn}
use Rattle.hp_model.specs.pool.PoolCounts.{Pool}

-- what the section, answered so, adds to the pool's commitment, and what it takes from it
abbrev pub raised_by : Section → PoolAnswer → ℕ
raised_by (Grant home pages) a = if a.granted then pages else 0
raised_by (GrantPage home pages) a = if a.granted then pages else 0
raised_by (TakePage home) a = 0
raised_by (FillPages pages count) a = if a.granted then pages else 0
raised_by (GiveBack puts pages) a = 0
raised_by (ReadAndGrant pages) a = if a.granted then pages else 0
raised_by (ReadAndGiveBack pages) a = 0
raised_by (GrantAndReturn pages) a = 0

abbrev pub lowered_by : Section → PoolAnswer → ℕ
lowered_by (GiveBack puts pages) a = pages
lowered_by (ReadAndGiveBack pages) a = if a.granted then pages else 0
lowered_by other a = 0

-- how many pages it takes
abbrev pub takes : Section → PoolAnswer → ℕ
takes (GrantPage home pages) a = if a.granted then 1 else 0
takes (TakePage home) a = 1
takes (FillPages pages count) a = if a.granted then count else 0
takes other a = 0

-- the pages that it takes and puts at the node
abbrev pub taken_at : ℕ → Section → PoolAnswer → ℕ
taken_at n (GrantPage home pages) a = if a.granted && (a.node == n) then 1 else 0
taken_at n (TakePage home) a = if a.node == n then 1 else 0
taken_at n (FillPages pages count) a = if a.granted then count_by (λ k. k == n) (rising_nodes count a.pages) else 0
taken_at n other a = 0

abbrev pub given_at : ℕ → Section → ℕ
given_at n (GiveBack puts pages) = slice_index_or puts n 0
given_at n other = 0

-- the usage doesn't rise, or ends within the limit
abbrev pub IsLimited : Slot → Slot → Type 0
IsLimited old new = (slot_usage new ≤ slot_usage old) ⊎ IsWithinLimit new

-- a slot before and after, by these numbers
pub record Change (old new : Slot) (raised lowered : ℕ) (taken put : ℕ → ℕ) (takes : ℕ) : Type 0 where
  pub committed : slot_committed new + lowered ≡ slot_committed old + raised
  pub pages : (n : ℕ) → n < 4 → slot_pages_at n new + put n ≡ slot_pages_at n old + taken n
  -- pages are taken only where so many more are committed than are in use
  pub covered : slot_pages old + takes ≤ slot_committed old + raised
  -- at a node that there isn't, no page comes up
  pub far : (n : ℕ) → slot_pages_at n new ≤ slot_pages_at n old + taken n
  pub limited : IsLimited old new

abbrev pub Moves : Slot → Section → PoolAnswer → Slot → Type 0
Moves old s a new = Change old new (raised_by s a) (lowered_by s a) (λ n. taken_at n s a) (λ n. given_at n s) (takes s a)

abbrev pub Stays : Slot → Slot → Type 0
Stays old new = Change old new 0 0 (λ n. 0) (λ n. 0) 0

-- the slot that an outcome leaves
abbrev pub left_by : Slot → Outcome → Slot
left_by old (Refused r) = old
left_by old (Answered a new) = new

-- whatever the pool answers, P holds of the outcome
abbrev pub Always : (Outcome → Type 0) → Plan → Type 0
Always P (Finish o) = P o
Always P (Ask sec f) = (a : PoolAnswer) → P (f a)

-- whatever the pool answers; and what is asked for is what is asked for at the nr that the pool tells
abbrev pub IsBalanced : Slot → Plan → Type 0
IsBalanced old (Finish o) = Stays old (left_by old o)
IsBalanced old (Ask s f) = ((a : PoolAnswer) → Moves old (s a.nr) a (left_by old (f a))) × ((p : Pool) → s (section p (s p.nr)).0.nr ≡ s p.nr)
