-- What a session answers to a step, and the receipts that it has of it.
use Rattle.std.specs.Prelude.{◌≡◌, ◌⊎◌, ℕ, ◌+◌, ◌<◌, ◌≤◌, Bool, true, false, Err, List, [], ◌∷◌, ◌++◌, length, map}
use Rattle.std.specs.Bool.{MatchBool}
use Rattle.std.specs.List.{All}
use Rattle.hp_model.specs.declared.entry.Receipt.{Receipt}
use Rattle.hp_model.specs.declared.event.Event.{Event}
use Rattle.hp_model.specs.declared.refusal.Refusal.TheVariants.{OutOfMemory, TraceFull}
use Rattle.hp_model.specs.declared.step.Step.{Step}
use Rattle.hp_model.specs.machine.Plan.{Reply}
use Rattle.hp_model.specs.machine.Step.{Script}
use Rattle.hp_model.specs.threads.Telling.{ReceiptsTell, Tells, TellsFront, carries_bytes, has_place, most_receipts, told_of}
use Rattle.hp_events.specs.Answered.{CanAnswer}
use Rattle.hp_events.specs.Time.{Clock, IsDated, IsFront, made}
use Rattle.hp_events.specs.Replies.{is_trace_full}

-- ---- a session

-- the slots of its machine, the receipts so far, for how many there is room, where entries are kept, and what it saw of the order
pub record SessionView : Type 0 where
  pub slots : ℕ
  pub receipts : List Receipt
  pub room : ℕ
  pub clock : Clock

-- with more receipts
abbrev pub noted : SessionView → List Receipt → SessionView
noted s added = record { slots = s.slots; receipts = s.receipts ++ added; room = s.room; clock = s.clock }

-- the same but for what it saw
abbrev pub at_clock : Clock → SessionView → SessionView
at_clock c s = record { slots = s.slots; receipts = s.receipts; room = s.room; clock = c }

-- all of these could be answered so
abbrev pub AreAnswers : (size : ℕ) → List (Event × Reply) → Type 0
AreAnswers size xs = All (λ x. CanAnswer size x.0 x.1) xs

-- there is room for the most receipts that the step can bring
abbrev pub HasRoomFor : SessionView → Step → Type 0
HasRoomFor s step = length s.receipts + most_receipts s.slots step ≤ s.room

-- the step's events came one after another, each with its receipt, and the reply is the step's by them
pub record IsToldByReceipts (size : ℕ) (s : SessionView) (step : Step) (reply : Reply) (t : SessionView) : Type 0 where
  pub added : List Receipt
  pub noted : t ≡ noted s added
  pub answers : AreAnswers size (map told_of added)
  pub tells : ReceiptsTell s.slots step added reply

-- refused before the first event: there is no room for the receipts, or no memory for a copy of what the step carries
abbrev pub IsRefusedFirst : SessionView → Step → Reply → Type 0
IsRefusedFirst s step reply =
    ((reply ≡ Err TraceFull) × (s.room < length s.receipts + most_receipts s.slots step))
    ⊎ ((reply ≡ Err OutOfMemory) × (carries_bytes step ≡ true))

-- What a call answers and leaves: the receipts of the step's events are added, in order, and the reply is the step's by them.
-- Where entries are kept, it may be refused before the first instead; where none are kept, it is never TraceFull.
abbrev pub IsCallMade : (kept : Bool) (size : ℕ) → SessionView → Step → Reply → SessionView → Type 0
IsCallMade true size s step reply t = (HasRoomFor s step × IsToldByReceipts size s step reply t) ⊎ ((t ≡ s) × IsRefusedFirst s step reply)
IsCallMade false size s step reply t = (is_trace_full reply ≡ false) × IsToldByReceipts size s step reply t

-- ---- a call in time

-- it looked at the order, and nothing else changed
pub record HasLooked (s t : SessionView) : Type 0 where
  pub same : at_clock s.clock t ≡ s
  pub dated : IsDated s.receipts s.clock t.clock

-- When the call began the order began with `start`: with all that its session had seen or heard of, and with all events that the
-- session had made, but none of the call's. It begins so ever after
pub record IsTimed (s t : SessionView) : Type 0 where
  pub start : List ℕ
  pub known : IsFront s.clock.seen start
  pub not_yet : made s.clock.number start ≡ length s.receipts
  pub later : IsFront start t.clock.seen
  pub number : t.clock.number ≡ s.clock.number

-- What a call answers and leaves: but for what it saw of the order it leaves what IsCallMade says, and that is later.
pub record IsCallAnswered (kept : Bool) (size : ℕ) (s : SessionView) (step : Step) (reply : Reply) (t : SessionView) : Type 0 where
  pub made : IsCallMade kept size s step reply (at_clock s.clock t)
  pub timed : IsTimed s t

-- ---- a part of a step

-- the receipts of these came
abbrev pub AreAdded : SessionView → List (Event × Reply) → SessionView → Type 0
AreAdded s xs t = (added : List Receipt) × (t ≡ noted s added) × (map told_of added ≡ xs)

-- the event was answered so and its receipt added; or there was no place for it
abbrev pub IsMade : (kept : Bool) (size : ℕ) → SessionView → Event → Reply → SessionView → Type 0
IsMade kept size s e reply t =
    MatchBool (is_trace_full reply) ((kept ≡ true) × (has_place e ≡ false) × (t ≡ s)) (CanAnswer size e reply × AreAdded s ((e, reply) ∷ []) t)

-- the script's events, up to its reply; or up to an event for which there was no place
abbrev pub TellsOrStops : (kept : Bool) → Script → List (Event × Reply) → Reply → Type 0
TellsOrStops kept c xs reply = MatchBool (is_trace_full reply) ((kept ≡ true) × TellsFront c xs) (Tells c xs reply)

-- the script was carried out, up to its reply or to an event for which there was no place
pub record Carries (kept : Bool) (size : ℕ) (s : SessionView) (c : Script) (reply : Reply) (t : SessionView) : Type 0 where
  pub events : List (Event × Reply)
  pub added : AreAdded s events t
  pub answers : AreAnswers size events
  pub tells : TellsOrStops kept c events reply

-- whatever carries out the first script from the second state on, carries out the second from the first
abbrev pub Leads : (kept : Bool) (size : ℕ) → SessionView → Script → SessionView → Script → Type 0
Leads kept size s c t next = (reply : Reply) (u : SessionView) → Carries kept size t next reply u → Carries kept size s c reply u

-- there is room for n receipts more, where entries are kept
abbrev pub HasReceiptRoom : (kept : Bool) (n : ℕ) → SessionView → Type 0
HasReceiptRoom kept n s = kept ≡ true → length s.receipts + n ≤ s.room

-- at most n receipts came
pub record Grows (n : ℕ) (s t : SessionView) : Type 0 where
  pub slots : t.slots ≡ s.slots
  pub room : t.room ≡ s.room
  pub few : length t.receipts ≤ length s.receipts + n
