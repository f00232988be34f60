-- A connection over TCP, as the calls on both its ends tell it.
use Rattle.std.specs.Prelude.{◌≡◌, ℕ, ℤ, List, Option, Some, true}
use Rattle.std.specs.Net.Tcp.{stream_raw_fd}
use Rattle.hp_model.specs.declared.step.Step.{Step}
use Rattle.hp_model.specs.machine.Plan.{Reply}
use Rattle.hp_serving.specs.Connection.{IsClosed}
use Rattle.hp_serving.specs.declared.entry.Outcome.{Outcome}
use Rattle.hp_serving.specs.declared.tcp.Incoming.{Incoming}
use Rattle.hp_serving.specs.declared.tcp.Outgoing.{Outgoing}

-- the descriptor of its stream
abbrev pub reads_of : Incoming → Option ℤ
reads_of reader = Some (stream_raw_fd reader.stream.value)

-- all bytes that its reads gave
abbrev pub all_heard : Incoming → Option (List ℕ)
all_heard reader = Some reader.heard.bytes

-- the last read gave none
abbrev pub IsOver : Incoming → Type 0
IsOver reader = reader.over ≡ true

-- a read failed
abbrev pub CannotRead : Incoming → Type 0
CannotRead reader = reader.failed ≡ true

abbrev pub writes_to : Outgoing → Option ℤ
writes_to writer = Some (stream_raw_fd writer.stream.value)

-- all bytes that its writes took
abbrev pub all_said : Outgoing → Option (List ℕ)
all_said writer = Some writer.written.bytes

-- a write failed, or the client was found to have gone
abbrev pub CannotWrite : Outgoing → Type 0
CannotWrite writer = writer.gone ≡ true

-- so it ended
abbrev pub IsOverTcp : {S T G : Type 0} → (S → Type 0) → (S → T → Type 0) → (S → Step → Reply → S → Type 0) → (S → ℕ) → Outcome T G → Type 0
IsOverTcp is_opened was_told may_answer page outcome =
    IsClosed is_opened was_told may_answer page reads_of all_heard IsOver CannotRead writes_to all_said CannotWrite outcome
