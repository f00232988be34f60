use Rattle.std.proofs.Common.{◌≡◌, length}
use Rattle.hp_tasks.specs.Table.{rests}
use Rattle.hp_tasks.proofs.Noted.{AreNotedBefore}
use Rattle.hp_tasks.proofs.table.note_all.Given as goal

abbrev pub invariant-loop-at : goal.invariant-loop-at
invariant-loop-at l = (l.order ≡ l.initial.order) × (length l.places ≡ rests) × AreNotedBefore l.at l.slots l.places l.order
