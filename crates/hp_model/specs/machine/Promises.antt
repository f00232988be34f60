-- What people rely on of each step. Exactly what it does, down to the node of each page, is `IsStep`.
use Rattle.std.specs.Prelude.{◌≡◌, ◌≢◌, ℕ, ◌+◌, ◌<◌, ◌≤◌, Bool, true, false, not}
use Rattle.std.specs.Prelude.{None, Some, Ok, Err, List, length, max}
use Rattle.std.specs.List.{count_by, filter_map}
use Rattle.hp_model.specs.declared.answer.Answer.{Answer}
use Rattle.hp_model.specs.declared.answer.Answer.TheVariants.{Done, Home, Names, Number, Numbers, PerNode, Stat as StatAnswer, Usage}
use Rattle.hp_model.specs.declared.event.Event.{Event}
use Rattle.hp_model.specs.declared.event.Event.TheVariants.{Slot as OnSlot}
use Rattle.hp_model.specs.declared.event.SlotEvent.TheVariants.{Mount as MountEvent}
use Rattle.hp_model.specs.declared.refusal.Refusal.{Refusal}
use Rattle.hp_model.specs.declared.refusal.Refusal.TheVariants.{OutOfMemory}
use Rattle.hp_model.specs.declared.step.Intent.TheVariants.{Read, Write}
use Rattle.hp_model.specs.declared.step.Step.{Step}
use Rattle.hp_model.specs.declared.step.Step.TheVariants.{Anon, Attach, Create as CreateStep, Df, Fault, Fork}
use Rattle.hp_model.specs.declared.step.Step.TheVariants.{Load, Ls, Map as MapStep, Meminfo, Nodes, Nr, Preallocate}
use Rattle.hp_model.specs.declared.step.Step.TheVariants.{Read as ReadStep, Stat, Store}
use Rattle.hp_model.specs.machine.Plan.{slot_usage, IsWithinLimit}
use Rattle.hp_model.specs.files.File.{cell_at, has_page, is_entered}
pub use Rattle.hp_model.specs.files.File.{file_in, map_in}
use Rattle.hp_model.specs.machine.Footprint.{HasFootprint, There}
pub use Rattle.hp_model.specs.machine.Footprint.{over}
use Rattle.hp_model.specs.machine.Machine.{committed_pages, counts_in, pool_of}
pub use Rattle.hp_model.specs.files.Mapping.{no_map}
use Rattle.hp_model.specs.machine.Named.{map_named, named_on}
pub use Rattle.hp_model.specs.machine.Named.{spot_on}
use Rattle.hp_model.specs.files.MountCounts.{usage_of}
use Rattle.hp_model.specs.pool.NodeRows.{total_of}
use Rattle.hp_model.specs.machine.Plan.{Reply, Slot}
use Rattle.hp_model.specs.pool.Resize.{node_counts}
use Rattle.hp_model.specs.beside.Run.{RunsBy}
pub use Rattle.hp_model.specs.machine.Short.{is_backed}
use Rattle.hp_model.specs.machine.Short.{MeetsShortage}
use Rattle.hp_model.specs.machine.Settled.{AreCounted}
use Rattle.hp_model.specs.machine.SlotEvent.{bytes_answer}
use Rattle.hp_model.specs.machine.State.{State, slot_at, with_slot}
use Rattle.hp_model.specs.machine.Step.{IsStep}
use Rattle.hp_model.specs.machine.Table.{home_of}
pub use Rattle.hp_model.specs.machine.Tests.{is_for_pages}
use Rattle.hp_model.specs.machine.Tests.{MeetsTests}
use Rattle.hp_model.specs.files.Value.{shown, value}

-- an access at an index reserved to its map, or an owner's write into its copy
abbrev pub is_backed_step : State → Step → Bool
is_backed_step s (Fault task slot number i intent) = is_backed intent (map_named s slot task number) i
is_backed_step s (Load task slot number i offset count) = is_backed Read (map_named s slot task number) i
is_backed_step s (Store task slot number i offset bytes) = is_backed Write (map_named s slot task number) i
is_backed_step s other = false

-- refused for want of a huge page
abbrev pub wants_page : Reply → Bool
wants_page (Ok a) = false
wants_page (Err r) = is_for_pages r

-- the pages that stay committed to the slot's mount at least
abbrev pub least_of : Slot → ℕ
least_of None = 0
least_of (Some m) = m.limits.min

-- ---- what is answered

-- what there was, or what `nr` leaves; else `ok`. Of a map's number the footprint tells
abbrev pub Answers : State → Step → Answer → State → Type 0
Answers s (Attach task) a t = There (home_of s.table task) (λ home. a ≡ Home home)
Answers s Meminfo a t = a ≡ Numbers (counts_in s)
Answers s Nodes a t = a ≡ PerNode (length s.nodes) (node_counts (pool_of s))
Answers s (Df k) a t =
    There (slot_at s k)
    (λ m. a ≡ Usage m.limits.max m.limits.min (usage_of m) m.limits.inodes (length m.files))
Answers s (Ls k) a t = There (slot_at s k) (λ m. a ≡ Names (filter_map (λ f. f.name) m.files))
Answers s (Stat k name) a t =
    There (named_on (slot_at s k) name) (λ f. a ≡ StatAnswer (length f.1.cells)
    (count_by has_page f.1.cells) (count_by is_entered f.1.cells) (length f.1.maps))
Answers s (ReadStep k name i offset count) a t =
    There (named_on (slot_at s k) name)
    (λ f. a ≡ bytes_answer offset count (shown s.page_size (cell_at f.1 i)))
Answers s (Load task k number i offset count) a t =
    There (map_named s k task number)
    (λ p. a ≡ bytes_answer offset count (value s.page_size p.file p.map i))
Answers s (Nr n) a t = a ≡ Number t.nr
Answers s (MapStep task k name a n sharing reserving) answer t = Unit {0}
Answers s (Anon task n sharing reserving) answer t = Unit {0}
Answers s step a t = a ≡ Done

abbrev pub AnswersWhatWas : State → Step → Reply → State → Type 0
AnswersWhatWas s step (Ok a) t = Answers s step a t
AnswersWhatWas s step (Err r) t = Unit {0}

-- the step answers numbers or names as they stand: of a task, of a file, or of a mount
abbrev pub is_usage : Step → Bool
is_usage (Attach task) = true
is_usage (Ls k) = true
is_usage (Stat k name) = true
is_usage (Df k) = true
is_usage step = false

-- ---- a refused event

-- a mount that is refused memory after its grant: the nodes may then be as after the grant and its giving back
abbrev pub is_late : Event → Refusal → Bool
is_late (OnSlot k (MountEvent options)) OutOfMemory = true
is_late e r = false

-- nothing but the nodes has changed
abbrev pub SameButNodes : State → State → Type 0
SameButNodes s t = t ≡ record s { nodes = t.nodes; growth = t.growth; release = t.release }

-- ---- a step

pub record IsPromised (s : State) (step : Step) (reply : Reply) (t : State) : Type 0 where
  -- an access at an index reserved to its map, and an owner's write into its copy, are never refused for want of a huge page
  pub reserved : is_backed_step s step ≡ true → wants_page reply ≡ false
  -- Total, Free, Rsvd and Surp are those of the sums over files and maps, and each promised page is free
  pub counts : AreCounted t
  -- a step that raises what a mount uses ends within the mount's limit
  pub limits : (slot : ℕ) → slot < length s.slots → slot_usage (slot_at s slot) < slot_usage (slot_at t slot) → IsWithinLimit (slot_at t slot)
  -- a step that does not lower nr leaves surplus pages within overcommit, or no more than there were
  pub surplus : s.nr ≤ t.nr → (counts_in t).surp ≤ max s.overcommit (counts_in s).surp
  -- the pool has the pages of each mount's minimum, beside all that is committed to the other mounts
  pub minimums : (slot : ℕ) → least_of (slot_at t slot) + committed_pages (with_slot t slot None) ≤ total_of (pool_of t).nodes.rows
  -- a load answers what its map showed, and what is asked for is answered as it was
  pub answers : AnswersWhatWas s step reply t
  -- a step is refused by the first of its tests that fails; where none fails, and there are pages and memory, it is done
  pub tests : MeetsTests s step reply
  -- one that is refused for want of pages lacks what it asks for, in its mount or in the pool
  pub short : MeetsShortage s step reply
  -- a step changes only its own part of the machine, and so; all else is equal
  pub footprint : HasFootprint s step reply t

-- these steps may be refused memory: one that makes a file, a map or a list of names, a preallocation, a fork, and an access that no
-- reservation backs, nor, where it writes, an owner's copy. A load of a copy is among them here, though the machine refuses it none
abbrev pub takes_memory : State → Step → Bool
takes_memory s (CreateStep k name) = true
takes_memory s (Ls k) = true
takes_memory s (Preallocate k name a b) = true
takes_memory s (MapStep task k name a n sharing reserving) = true
takes_memory s (Anon task n sharing reserving) = true
takes_memory s (Fork parent child) = true
takes_memory s (Fault task k number i intent) = not (is_backed intent (map_named s k task number) i)
takes_memory s (Load task k number i offset count) = not (is_backed Read (map_named s k task number) i)
takes_memory s (Store task k number i offset bytes) = not (is_backed Write (map_named s k task number) i)
takes_memory s step = false

-- a step of the machine, as promised; and others are not refused memory
abbrev pub IsPromisedStep : State → Step → Reply → State → Type 0
IsPromisedStep s step reply t =
    IsStep s step reply t × IsPromised s step reply t × (takes_memory s step ≡ false → reply ≢ Err OutOfMemory)

-- the steps are answered by these replies, one after another, each as promised
abbrev pub IsPromisedRun : State → List Step → List Reply → State → Type 0
IsPromisedRun s steps replies t = RunsBy IsPromisedStep s steps replies t
