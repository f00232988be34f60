-- Statements about the machine.
use Rattle.std.specs.Prelude.{◌≡◌, ℕ, ◌<◌, ◌≤◌, Bool, true, false, Err, IsTrue, List, length}
use Rattle.std.specs.Bool.{MatchBool}
use Rattle.std.specs.List.{All}
use Rattle.hp_model.specs.declared.event.Event.{Event}
use Rattle.hp_model.specs.declared.event.Event.TheVariants.{Tasks, Slot as OnSlot, Pool as OnPool}
use Rattle.hp_model.specs.machine.SlotEvent.{SlotEvent}
use Rattle.hp_model.specs.declared.refusal.Refusal.{Refusal}
use Rattle.hp_model.specs.declared.step.Intent.{Intent}
use Rattle.hp_model.specs.declared.step.Step.{Step}
use Rattle.hp_model.specs.files.Access.{access}
use Rattle.hp_model.specs.files.CopyWrite.{copy_write}
use Rattle.hp_model.specs.machine.Event.{after, CanHappen, IsEvent, IsEventRun, IsFresh}
use Rattle.hp_model.specs.files.File.{Mount}
use Rattle.hp_model.specs.machine.Footprint.{HasFootprint}
use Rattle.hp_model.specs.threads.JointRun.{Trails, Item, AreRuns, HasParts, IsOrder, IsJointRun}
use Rattle.hp_model.specs.machine.Machine.{pool_of, start}
use Rattle.hp_model.specs.files.Page.{Copy}
use Rattle.hp_model.specs.machine.Plan.{Outcome, Refused, Answered, Plan, Finish, Ask, Choice, Reply, Slot, slot_usage, IsWithinLimit}
use Rattle.hp_model.specs.pool.Pool.{section}
use Rattle.hp_model.specs.pool.PoolCounts.{Pool}
use Rattle.hp_model.specs.machine.Promises.{is_for_pages, is_late, IsPromised, SameButNodes}
use Rattle.hp_model.specs.files.Reserved.{is_reserved}
use Rattle.hp_model.specs.pool.Resize.{pool_event}
use Rattle.hp_model.specs.beside.Run.{IsRun}
use Rattle.hp_model.specs.machine.Settled.{AreCounted, IsSettledState}
use Rattle.hp_model.specs.machine.SlotEvent.{slot_event}
use Rattle.hp_model.specs.machine.Sound.{IsSound}
use Rattle.hp_model.specs.files.Spot.{Spot}
use Rattle.hp_model.specs.machine.State.{State, slot_at}
use Rattle.hp_model.specs.machine.Step.{IsStep}
use Rattle.hp_model.specs.machine.Table.{Table}
use Rattle.hp_model.specs.Profile.{most_nodes, most_frames}
use Rattle.hp_laws.specs.Balance.{Always, IsBalanced, left_by}
use Rattle.hp_laws.specs.Follows.{Follows}

abbrev pub KeepsGoing : Outcome → Type 0
KeepsGoing (Refused r) = is_for_pages r ≡ false
KeepsGoing (Answered a s) = Unit {0}

-- whatever the pool answers, the plan is not refused for want of a huge page
abbrev pub NeverWantsPages : Plan → Type 0
NeverWantsPages p = Always KeepsGoing p

-- an access at an index that is reserved to its map is never refused for want of a huge page
abbrev pub ReservedAccess : Type 0
ReservedAccess =
    (c : Choice) (size : ℕ) (m : Mount) (s : Spot) (home i : ℕ) (intent : Intent) →
    IsTrue (is_reserved s.file s.map i) → NeverWantsPages (access c size m s home i intent)

-- an owner's write into its copy is never refused for want of a huge page
abbrev pub OwnerWrites : Type 0
OwnerWrites =
    (c : Choice) (m : Mount) (s : Spot) (home i : ℕ) (consumed : Bool) (copy : Copy) →
    s.map.owner ≡ true → NeverWantsPages (copy_write c m s home i consumed copy)

-- ---- refusals

-- a refused event leaves everything as it was
abbrev pub RefusalsChangeNothing : Type 0
RefusalsChangeNothing =
    (s : State) (e : Event) (r : Refusal) (t : State) → IsSettledState s → IsEvent s e (Err r) t → MatchBool (is_late e r) (SameButNodes s t) (t ≡ s)

-- ---- the tie of slots and pool

-- each event on a slot moves its counts as its section moves the pool's numbers
abbrev pub SlotsAreBalanced : Type 0
SlotsAreBalanced = (size slot : ℕ) (c : Choice) (old : Slot) (e : SlotEvent) → IsFresh c old → IsSound old → IsBalanced old (slot_event size slot c old e)

-- each event on a slot leaves it sound, with whatever fresh stamp
abbrev pub SlotsStaySound : Type 0
SlotsStaySound =
    (size slot : ℕ) (c : Choice) (old : Slot) (e : SlotEvent) → IsFresh c old → IsSound old →
    Always (λ o. IsSound (left_by old o)) (slot_event size slot c old e)

-- the pool as the plan's section leaves it
abbrev pub pool_after : State → Plan → Pool
pool_after s (Finish o) = pool_of s
pool_after s (Ask sec f) = (section (pool_of s) (sec s.nr)).1

-- the pool as the event leaves it
abbrev pub pool_left : Choice → State → Event → Pool
pool_left c s (Tasks e) = pool_of s
pool_left c s (OnSlot k e) = pool_after s (slot_event s.page_size k c (slot_at s k) e)
pool_left c s (OnPool e) = (pool_event (pool_of s) e).1

-- after each event the sums over files and maps are the numbers that it left in the pool, and these are settled
abbrev pub PoolIsTied : Type 0
PoolIsTied =
    (c : Choice) (s : State) (e : Event) → CanHappen c s e → IsSettledState s →
    (pool_of (after c s e).1 ≡ pool_left c s e) × IsSettledState (after c s e).1

-- the machine starts so
abbrev pub StartIsSettled : Type 0
StartIsSettled = (frames : List ℕ) (page_size slots : ℕ) → length frames ≤ most_nodes → All (λ f. f ≤ most_frames) frames → IsSettledState (start frames page_size slots)

-- and is so after each event and each step of every run
abbrev pub RunsAreSettled : Type 0
RunsAreSettled =
    (s : State) → IsSettledState s →
    ((es : List (Event × Reply)) (t : State) → IsEventRun s es t → IsSettledState t)
    × ((steps : List Step) (replies : List Reply) (t : State) → IsRun s steps replies t → IsSettledState t)

abbrev pub CountsAreSums : Type 0
CountsAreSums = (s : State) → IsSettledState s → AreCounted s

-- an event that raises a mount's usage ends within its limit
abbrev pub LimitsHold : Type 0
LimitsHold =
    (s : State) (e : Event) (reply : Reply) (t : State) (k : ℕ) → k < length s.slots → IsSettledState s → IsEvent s e reply t →
    slot_usage (slot_at s k) < slot_usage (slot_at t k) → IsWithinLimit (slot_at t k)

-- ---- promises

-- each step of a settled machine is as promised
abbrev pub PromisesAreKept : Type 0
PromisesAreKept = (s : State) (step : Step) (reply : Reply) (t : State) → IsSettledState s → IsStep s step reply t → IsPromised s step reply t

-- each step of a settled machine changes what is told of it, and nothing else
abbrev pub FootprintIsKept : Type 0
FootprintIsKept = (s : State) (step : Step) (reply : Reply) (t : State) → IsSettledState s → IsStep s step reply t → HasFootprint s step reply t

-- and what follows from that
abbrev pub WhatFollows : Type 0
WhatFollows = (s : State) (step : Step) (reply : Reply) (t : State) → IsSettledState s → IsStep s step reply t → Follows s step reply t

-- ---- trails

-- a list that joins runs of the parts is a run of the machine, and ends in the ends of the parts;
-- so the pool's numbers there are the sums over the slots
abbrev pub JoinedLaw : Type 0
JoinedLaw =
    (s : State) (t : Trails) (items : List Item) (table : Table) (ends : ℕ → Slot) (numbers : Pool)
    → IsSettledState s → AreRuns s t table ends numbers → IsOrder t items
    → (end : State) × IsJointRun s t items end × IsSettledState end
    × HasParts end (length s.slots) table ends numbers
