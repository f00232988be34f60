-- What the machine that threads share owns names no thread.
use denote.Param.Send.{IsSend, IsSync, sendable, view_send, view_sync}
use denote.Param.SendFields.{declared_send, declared_sync}
use denote.RattleType.{RattleType}
use Rattle.atomic_table.proofs.badge.Badge.TheSendSync as badge
use Rattle.atomic_table.proofs.send_lease.SendLease.TheSendSync as lease
use Rattle.atomic_table.proofs.shared.Seat.TheSendSync as seat
use Rattle.atomic_table.proofs.shared.Shared.TheSendSync as whole
use Rattle.hp_history.specs.contracts.history.History as History
use Rattle.hp_history.specs.declared.law.Places as law
use Rattle.hp_locked.specs.contracts.nodes.NodeLocks as NodeLocks
use Rattle.hp_locked.specs.contracts.pool_core.Core as Core
use Rattle.hp_laws.proofs.Variants.{Ghosts, PoolEntry, SlotEntry, TableEntry}
use Rattle.hp_nodes.proofs.Crossing.{node_frames_send}
use Rattle.hp_order.proofs.Crossing.{line_lock_send, line_lock_sync, ranked_lock_send, ranked_lock_sync}
use Rattle.hp_pool.proofs.Crossing.{pool_send}
use Rattle.hp_shared.proofs.CrossingEntries.{pool_entry_send, slot_entry_send, table_entry_send, trace_send}
use Rattle.hp_shared.proofs.CrossingMounts.{mount_send}
use Rattle.hp_shared.specs.contracts.shared.Shared as Shared
use Rattle.hp_shared.specs.contracts.shared.Shared.TheInside as Inside
use Rattle.hp_shared.specs.contracts.opener.Opener as Opener
use Rattle.hp_shared.specs.contracts.seated_slot.SeatedSlot as SeatedSlot
use Rattle.hp_shared.specs.contracts.spare.Spare as Spare
use Rattle.hp_shared.specs.contracts.locked_slot.Slot as Slot
use Rattle.hp_shared.specs.contracts.table.Table as Table
use Rattle.hp_shared.specs.contracts.table.Table.TheInside as TableInside
use Rattle.hp_tasks.specs.contracts.table.TaskTable as TaskTable
use Rattle.hp_trail.specs.declared.trail.Trail as trail
use Rattle.std.proofs.Crossing as global
use Rattle.std.proofs.Crossing.{crosses}

task_table_send : IsSend TaskTable.the_row
task_table_send = search (sendable, crosses) depth 30

module _ (N : RattleType) (names : Ghosts N.Denot) (places : law.Ghosts N.Denot) where
  history_send : IsSend (History.the_row N places)
  history_send = search (sendable, crosses, whole.the_send, lease.the_send) depth 40

  history_sync : IsSync (History.the_row N places)
  history_sync = search (sendable, crosses, whole.the_sync, lease.the_sync) depth 40

  opener_send : IsSend (Opener.the_row N places)
  opener_send = search (sendable, crosses, seat.the_send) depth 30

  table_send : (T : RattleType) (keeps : trail.Ghosts T.Denot TableEntry) → IsSend T → IsSend (Table.the_row N T names places keeps)
  table_send T keeps t = view_send (TableInside.the_row N T names places keeps) _ _ _ _ (declared_send (TableInside.the_type N T names places keeps)
      (search sendable, (task_table_send, (search sendable depth 20, (search (sendable, badge.the_send) depth 20, (search sendable, tt))))))

  core_send : (T : RattleType) (keeps : trail.Ghosts T.Denot PoolEntry) → IsSend T → IsSend (Core.the_row N T names places keeps)
  core_send T keeps t = search (sendable, pool_send, badge.the_send) depth 30

  slot_send : (T : RattleType) (keeps : trail.Ghosts T.Denot SlotEntry) → IsSend T → IsSend (Slot.the_row N T names keeps)
  slot_send T keeps t = search (sendable, mount_send) depth 30

  seated_send : (T : RattleType) (keeps : trail.Ghosts T.Denot SlotEntry) → IsSend T → IsSend (SeatedSlot.the_row N T names places keeps)
  seated_send T keeps t = search (sendable, slot_send, badge.the_send) depth 30

  spare_send : IsSend (Spare.the_row N names)
  spare_send = search (sendable, crosses, mount_send, slot_entry_send) depth 40

  nodes_send : IsSend (NodeLocks.the_row N names)
  nodes_send = search (sendable, crosses, node_frames_send) depth 30

  nodes_sync : IsSync (NodeLocks.the_row N names)
  nodes_sync = search (sendable, crosses, node_frames_send) depth 30

  pub shared_send : (k : RattleType) → IsSend (Shared.the_row N k places names)
  shared_send k = view_send (Inside.the_row N k places names) _ _ _ _ (declared_send (Inside.the_type N k places names) (
    search sendable,
    (
      global.send,
      (
        history_send,
        (
          search (sendable, crosses, line_lock_send, seated_send, trace_send, slot_entry_send) depth 30,
          (
            search (sendable, crosses, line_lock_send, table_send, trace_send, table_entry_send) depth 30,
            (
              search (sendable, crosses, line_lock_send, core_send, trace_send, pool_entry_send) depth 30,
              (
                nodes_send,
                (
                  search (sendable, crosses, ranked_lock_send, opener_send) depth 30,
                  (
                    search (sendable, crosses, ranked_lock_send, spare_send) depth 30,
                    tt,
                  ),
                ),
              ),
            ),
          ),
        ),
      ),
    ),
  ))

  pub shared_sync : (k : RattleType) → IsSync (Shared.the_row N k places names)
  shared_sync k = view_sync (Inside.the_row N k places names) _ _ _ _ (declared_sync (Inside.the_type N k places names) (
    search sendable,
    (
      global.sync,
      (
        history_sync,
        (
          search (sendable, crosses, line_lock_sync, seated_send, trace_send, slot_entry_send) depth 30,
          (
            search (sendable, crosses, line_lock_sync, table_send, trace_send, table_entry_send) depth 30,
            (
              search (sendable, crosses, line_lock_sync, core_send, trace_send, pool_entry_send) depth 30,
              (
                nodes_sync,
                (
                  search (sendable, crosses, ranked_lock_sync, opener_send) depth 30,
                  (
                    search (sendable, crosses, ranked_lock_sync, spare_send) depth 30,
                    tt,
                  ),
                ),
              ),
            ),
          ),
        ),
      ),
    ),
  ))
