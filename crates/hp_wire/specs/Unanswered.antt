-- Bytes that were read and wait to be answered.
use Rattle.std.specs.Prelude.{◌≡◌, ◌≤◌, ◌-◌, ℕ, List, ◌++◌, drop, length}
use Rattle.hp_wire.specs.Reading.{Reading, Reads, ReadsNone}
use Rattle.hp_model.specs.text.Lines.{after_lines, ended_lines}
use Rattle.hp_model.specs.declared.fault.RunFault.{RunFault}
use Rattle.hp_model.specs.declared.fault.RunFault.TheVariants.{Read}

-- so many bytes were read, and stand behind those that were there
pub record Gets (old new : List ℕ) (unread left : Reading) (count : ℕ) : Type 0 where
  pub bytes : List ℕ
  pub consumed : Reads unread left bytes
  pub behind : new ≡ old ++ bytes
  pub all : count ≡ length bytes

-- a read failed, and took nothing
abbrev pub FailsToRead : Reading → Reading → RunFault → Type 0
FailsToRead unread left fault = (fault ≡ Read) × ReadsNone unread left

-- so many bytes follow the last line that ended, and so many lines ended
abbrev pub CountsLines : List ℕ → ℕ × ℕ → Type 0
CountsLines bytes x = (x.0 ≤ length bytes) × (after_lines bytes ≡ drop (length bytes - x.0) bytes) × (x.1 ≡ length (ended_lines bytes))
