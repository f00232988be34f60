-- What a session is told of a step: its events, one after another, and the reply.
use Rattle.std.specs.Prelude.{◌≡◌, ◌⊎◌, ℕ, ◌+◌, ◌*◌, Bool, true, false, Err, List, [], ◌∷◌, map}
use Rattle.hp_model.specs.declared.entry.Receipt.{Receipt}
use Rattle.hp_model.specs.declared.event.Event.{Event}
use Rattle.hp_model.specs.declared.event.Event.TheVariants.{Slot as OnSlot}
use Rattle.hp_model.specs.declared.event.SlotEvent.TheVariants.{ExitMaps}
use Rattle.hp_model.specs.declared.refusal.Refusal.TheVariants.{TraceFull}
use Rattle.hp_model.specs.declared.step.Step.{Step}
use Rattle.hp_model.specs.declared.step.Step.TheVariants.{Fork, Exit, Mount, Remount, Create, Unlink, Truncate, Punch, Preallocate, Read, Stat, Map, Anon, Unmap, Fault, Load, Store}
use Rattle.hp_model.specs.machine.Plan.{Reply}
use Rattle.hp_model.specs.machine.Step.{Answer_with, Do, Script, Where_mapped, script}

-- The script was carried out by these events with their replies, and answers so. Nothing is known of a slot between two
-- events, so a choice by whether a task has a map there goes either way.
abbrev pub Tells : Script → List (Event × Reply) → Reply → Type 0
Tells (Answer_with r) [] reply = reply ≡ r
Tells (Answer_with r) (x ∷ xs) reply = ⊥
Tells (Do e next) [] reply = ⊥
Tells (Do e next) (x ∷ xs) reply = (x.0 ≡ e) × Tells (next x.1) xs reply
Tells (Where_mapped k task mapped other) xs reply = Tells mapped xs reply ⊎ Tells other xs reply

-- a slot's trail always has a place for the exit of a task that has maps there
abbrev pub has_place : Event → Bool
has_place (OnSlot k (ExitMaps task)) = true
has_place other = false

-- the same up to an event for which a trail had no place
abbrev pub TellsFront : Script → List (Event × Reply) → Type 0
TellsFront (Answer_with r) xs = ⊥
TellsFront (Do e next) [] = has_place e ≡ false
TellsFront (Do e next) (x ∷ xs) = (x.0 ≡ e) × TellsFront (next x.1) xs
TellsFront (Where_mapped k task mapped other) xs = TellsFront mapped xs ⊎ TellsFront other xs

-- a machine of so many slots answers the step so, by these events; TraceFull after those for which trails had places
abbrev pub TellsStep : (slots : ℕ) → Step → List (Event × Reply) → Reply → Type 0
TellsStep slots step xs (Err TraceFull) = TellsFront (script slots step) xs
TellsStep slots step xs reply = Tells (script slots step) xs reply

abbrev pub told_of : Receipt → Event × Reply
told_of r = (r.event, r.reply)

-- the same by receipts
abbrev pub ReceiptsTell : (slots : ℕ) → Step → List Receipt → Reply → Type 0
ReceiptsTell slots step receipts reply = TellsStep slots step (map told_of receipts) reply

-- The step has a name, options or bytes. Where a trail is kept they are copied before the first event.
abbrev pub carries_bytes : Step → Bool
carries_bytes (Mount k options) = true
carries_bytes (Remount k options) = true
carries_bytes (Create k name) = true
carries_bytes (Unlink k name) = true
carries_bytes (Truncate k name pages) = true
carries_bytes (Punch k name a b) = true
carries_bytes (Preallocate k name a b) = true
carries_bytes (Read k name i offset count) = true
carries_bytes (Stat k name) = true
carries_bytes (Map task k name a pages sharing reserving) = true
carries_bytes (Store task k number i offset bytes) = true
carries_bytes other = false

-- the most events that a step makes: a fork that is refused on the last slot is undone on all others, and in the table
abbrev pub most_receipts : (slots : ℕ) → Step → ℕ
most_receipts slots (Fork parent child) = 2 * slots + 1
most_receipts slots (Exit task) = slots + 1
most_receipts slots (Map task k name a pages sharing reserving) = 2
most_receipts slots (Anon task pages sharing reserving) = 2
most_receipts slots (Unmap task k number a b) = 2
most_receipts slots (Fault task k number i intent) = 2
most_receipts slots (Load task k number i offset count) = 2
most_receipts slots (Store task k number i offset bytes) = 2
most_receipts slots other = 1
