use Rattle.std.proofs.Common.{◌≡◌, List, length, map}
use Rattle.hp_model.proofs.Words.{IsTold, Item}
use Rattle.hp_trail.specs.Walk.{lists}
use Rattle.hp_trail.proofs.Emptying.{IsEmptying, session_of}
use Rattle.hp_trail.proofs.audit.events_in.Given as goal

abbrev pub invariant-loop-session : goal.invariant-loop-session
invariant-loop-session l =
    (items : List Item) → IsTold (lists l.initial.receipts.items) items → map session_of items ≡ l.initial.order.items
    → IsEmptying items (length (lists l.initial.receipts.items)) l.order.items (lists l.receipts.items) l.events.items

abbrev pub decreases-loop-session : goal.decreases-loop-session
decreases-loop-session l = length l.order.items
