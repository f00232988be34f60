-- Ranges of indices, from a up to b.
--     within a b q      q is one of them
use Rattle.std.specs.Prelude.{ℕ, Bool, ◌&&◌, nat_le, nat_lt}

abbrev pub within : ℕ → ℕ → ℕ → Bool
within a b q = nat_le a q && nat_lt q b
