-- The number of the place where a file lies.
use Rattle.std.specs.Prelude.{ℕ}

-- so many places have a number of 16 bits
abbrev pub all_places : ℕ
all_places = 65536
