use Rattle.std.proofs.Common.{◌≡◌, ◌++◌, ℕ, Contains, List, take, drop}
use Rattle.hp_serving.specs.FirstLine.{IsKnown, is_foreign_from}
use Rattle.hp_serving.proofs.first_line.FirstLine.with.Given as goal

abbrev pub invariant-loop-byte : goal.invariant-loop-byte
invariant-loop-byte l =
    ((input : List ℕ) → is_foreign_from l.line (drop l.byte-index l.fn.bytes ++ input) ≡ is_foreign_from l.fn.self (l.fn.bytes ++ input))
    × (IsKnown l.fn.self → IsKnown l.line) × (Contains (take l.byte-index l.fn.bytes) 10 → IsKnown l.line)
