-- A buffer of fixed room that is written into.
use Rattle.std.specs.Prelude.{ℕ, List, ◌++◌, length, take, drop}

-- the front of what was written, and behind it what the buffer held at first
abbrev pub buffer_filled : (start written : List ℕ) → List ℕ
buffer_filled start written = take (length start) written ++ drop (length written) start
