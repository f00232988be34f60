-- Replies that wait to be written.
use Rattle.std.specs.Prelude.{ℕ, ◌+◌, ◌≤◌, List, length}

-- their text, where a page has so many bytes
pub record Waiting : Type 0 where
  pub page : ℕ
  pub text : List ℕ

-- there is room for the longest reply, in the 131,072 bytes that there are at least
abbrev pub HasRoomForOne : Waiting → Type 0
HasRoomForOne waiting = length waiting.text + 66586 ≤ 131072
