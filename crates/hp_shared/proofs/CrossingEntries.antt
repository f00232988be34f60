-- What the entries of the trails own names no thread.
use denote.Param.Send.{IsSend, sendable}
use denote.Param.SendFields.{declared_send}
use denote.RattleType.{RattleType}
use Rattle.hp_model.specs.contracts.bytes.Bytes as Bytes
use Rattle.hp_model.specs.contracts.names.Names as Names
use Rattle.hp_model.specs.contracts.answer.Answer as Answer
use Rattle.hp_model.specs.contracts.answer.NodeCount as NodeCount
use Rattle.hp_model.specs.contracts.event.SlotEvent as SlotEvent
use Rattle.hp_model.specs.contracts.event.TableEvent as TableEvent
use Rattle.hp_model.specs.contracts.refusal.Refusal as Refusal
use Rattle.hp_model.specs.contracts.entry.Asked as Asked
use Rattle.hp_model.specs.contracts.entry.PoolEntry as PoolEntry
use Rattle.hp_model.specs.contracts.entry.SlotEntry as SlotEntry
use Rattle.hp_model.specs.contracts.entry.TableEntry as TableEntry
use Rattle.hp_trail.specs.contracts.kept.Kept as Kept
use Rattle.hp_trail.specs.contracts.trace.Trace as Trace
use Rattle.std.proofs.Crossing.{crosses}

kept_send : (E : RattleType) → IsSend E → IsSend (Kept.the_row E)
kept_send E e = search (sendable, crosses) depth 20

pub trace_send : (E k : RattleType) → IsSend E → IsSend (Trace.the_row E k)
trace_send E k e = search (sendable, kept_send) depth 20

bytes_send : IsSend Bytes.the_row
bytes_send = search (sendable, crosses) depth 20

names_send : IsSend Names.the_row
names_send = search (sendable, crosses, bytes_send) depth 20

refusal_send : IsSend Refusal.the_row
refusal_send = search (sendable) depth 40

node_count_send : IsSend NodeCount.the_row
node_count_send = search (sendable) depth 40

answer_send : IsSend Answer.the_row
answer_send = search (sendable, names_send, node_count_send) depth 60 fits 5000

asked_send : IsSend Asked.the_row
asked_send = search (sendable) depth 40

table_event_send : IsSend TableEvent.the_row
table_event_send = search (sendable) depth 40

slot_event_send : IsSend (SlotEvent.the_row Bytes.the_row)
slot_event_send = search (sendable, bytes_send) depth 60 fits 5000

pub pool_entry_send : IsSend PoolEntry.the_row
pool_entry_send = search (sendable, answer_send, refusal_send) depth 30

pub slot_entry_send : IsSend SlotEntry.the_row
slot_entry_send = declared_send SlotEntry.the_type (slot_event_send, (search (sendable, answer_send, refusal_send) depth 20, (search (sendable, asked_send) depth 20, tt)))

pub table_entry_send : IsSend TableEntry.the_row
table_entry_send = search (sendable, answer_send, refusal_send) depth 30
