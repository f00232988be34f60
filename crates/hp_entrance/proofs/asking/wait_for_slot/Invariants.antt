use Rattle.std.proofs.Common.{◌≡◌, []}
use Rattle.hp_entrance.proofs.asking.wait_for_slot.Given as goal

-- the lock of another slot was let go
abbrev pub invariant-loop : goal.invariant-loop
invariant-loop g l = (goal.iterator-loop g).can_next l.iterator' × (goal.iterator-loop g).is_finite l.iterator' × (l.turn.held ≡ [])
