use Rattle.hp_events.specs.Replies.{table_reply}
use Rattle.hp_shared.specs.Tables.{table_over}
use Rattle.hp_shared.proofs.table.tell.Given as goal

-- the event with its reply
abbrev pub ghosts-noted : goal.ghosts-noted
ghosts-noted g a = record { next = table_over a.told.0 (table_reply a.told.1) a.seat.now.me.0 }
