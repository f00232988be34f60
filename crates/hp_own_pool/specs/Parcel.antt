-- Claims on pages that go back together.
use Rattle.std.specs.Prelude.{◌≡◌, ◌<◌, ℕ, Option, None, Some}
use Rattle.hp_permit.specs.Claim.{Claim}

abbrev pub claimed : Option Claim → ℕ
claimed None = 0
claimed (Some c) = c.amount

-- a claim on some pages of the node, or none
abbrev pub IsPart : ℕ → Option Claim → Type 0
IsPart node None = Unit {0}
IsPart node (Some c) = (c.node ≡ node) × (0 < c.amount)
