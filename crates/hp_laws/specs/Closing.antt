-- Places that a trail keeps for the entries that take away what is there.
use Rattle.std.specs.Prelude.{◌≡◌, ◌≤◌, ◌<◌, ◌*◌, ℕ, List, length}
use Rattle.hp_model.specs.declared.entry.PoolEntry.{PoolEntry}
use Rattle.hp_model.specs.declared.event.Event.{Event}
use Rattle.hp_model.specs.machine.SlotEvent.{SlotEvent}
use Rattle.hp_model.specs.declared.event.TableEvent.{TableEvent}
use Rattle.hp_model.specs.declared.step.Step.{Step}
use Rattle.hp_model.specs.machine.Plan.{Choice, Reply, Slot}
use Rattle.hp_model.specs.machine.Settled.{IsSettledPool}
use Rattle.hp_model.specs.machine.SlotEvent.{slot_event}
use Rattle.hp_model.specs.machine.Step.{script}
use Rattle.hp_model.specs.machine.Table.{Table, table_event}
use Rattle.hp_model.specs.pool.NodeRows.{frames_of}
use Rattle.hp_model.specs.pool.PoolCounts.{Pool}
use Rattle.hp_model.specs.Profile.{most_tasks}
use Rattle.hp_model.specs.threads.Closing.{GivesWhatIsInUse, KeepsPlaces, is_giving_back, removes_maps, removes_task, to_exit, to_remove, to_return}
use Rattle.hp_model.specs.threads.PoolRun.{IsPoolStep}
use Rattle.hp_model.specs.threads.Telling.{Tells, TellsFront, most_receipts}
use Rattle.hp_laws.specs.Balance.{Always, left_by}

-- as many places as there may be tasks are enough for the table
abbrev pub TablePlaces : Type 0
TablePlaces =
    (nodes : ℕ) (table : Table) (e : TableEvent) → to_remove table ≤ most_tasks →
    KeepsPlaces most_tasks (to_remove table) (to_remove (table_event nodes table e).1) (removes_task table e)

-- and for a slot
abbrev pub SlotPlaces : Type 0
SlotPlaces =
    (size k : ℕ) (c : Choice) (old : Slot) (e : SlotEvent) → to_exit old ≤ most_tasks →
    Always (λ o. KeepsPlaces most_tasks (to_exit old) (to_exit (left_by old o)) (removes_maps old e)) (slot_event size k c old e)

-- and twice as many as there are frames for the pool, which has as many afterwards
abbrev pub PoolPlaces : Type 0
PoolPlaces =
    (p q : Pool) (e : PoolEntry) → IsSettledPool p → IsSettledPool q → IsPoolStep p e q → GivesWhatIsInUse p e →
    KeepsPlaces (2 * frames_of p.nodes.rows) (to_return p) (to_return q) (is_giving_back e) × (frames_of q.nodes.rows ≡ frames_of p.nodes.rows)

-- a step is told by no more events than that; by fewer, where a trail had no place for one
abbrev pub ReceiptsAreFew : Type 0
ReceiptsAreFew =
    (slots : ℕ) (step : Step) (xs : List (Event × Reply)) →
    ((reply : Reply) → Tells (script slots step) xs reply → length xs ≤ most_receipts slots step)
    × (TellsFront (script slots step) xs → length xs < most_receipts slots step)
