use Rattle.std.proofs.Common.{◌≡◌, ℕ, ◌+◌, ◌-◌, ◌<◌, ◌≤◌, get_or, length}
use Rattle.hp_lookup.proofs.task_maps.least_missing.Given as goal

abbrev pub invariant-loop-low : goal.invariant-loop-low
invariant-loop-low l =
    (l.low ≤ l.high) × (l.high ≤ length l.maps) × ((i : ℕ) → i < l.low → get_or l.maps i 0 ≡ i + 1)
    × ((i : ℕ) → l.high ≤ i → i < length l.maps → i + 1 < get_or l.maps i 0)

abbrev pub decreases-loop-low : goal.decreases-loop-low
decreases-loop-low l = l.high - l.low
