-- A number is read digit by digit.
use Rattle.std.specs.Prelude.{◌≡◌, ℕ, ◌+◌, ◌-◌, ◌*◌, ◌^◌, ◌<◌, ◌≤◌, Option, Some, None}
use Rattle.std.specs.Int.{IsInRange}

-- the value with one digit more, or none where the byte is no digit or the number is too large
abbrev pub IsWithDigit : ℕ → ℕ → Option ℕ → Type 0
IsWithDigit value b (Some n) = IsInRange 48 57 b × (n ≡ value * 10 + (b - 48)) × (n < 2 ^ 64)
IsWithDigit value b None = IsInRange 48 57 b → 2 ^ 64 ≤ value * 10 + (b - 48)
