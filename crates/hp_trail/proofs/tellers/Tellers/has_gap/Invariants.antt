use Rattle.std.proofs.Common.{◌≢◌, ◌<◌, ℕ, [], length, slice_index_or}
use Rattle.hp_trail.specs.Walk.{lists}
use Rattle.hp_trail.proofs.tellers.Tellers.has_gap.Given as goal

abbrev pub invariant-loop-row : goal.invariant-loop-row
invariant-loop-row l =
    (k i : ℕ) → k < l.row-index → i < length (slice_index_or (lists l.self-inside.slots.items) k [])
    → slice_index_or (slice_index_or (lists l.self-inside.slots.items) k []) i 0 ≢ 0
