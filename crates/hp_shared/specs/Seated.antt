-- What a slot with its seat in the history is to a contract, and what an event there does.
use Rattle.std.specs.Prelude.{◌≡◌, ◌⊎◌, ℕ, Bool, false, Option, None, Some, List, [], ◌∷◌, ◌++◌, length, if◌then◌else◌}
use Rattle.std.specs.Bool.{MatchBool}
use Rattle.atomic_table.specs.Seated.{TableId}
use Rattle.hp_history.specs.declared.held.Held.{Held}
use Rattle.hp_history.specs.declared.held.Held.TheVariants.{Slot as SlotPart}
use Rattle.hp_history.specs.History.{front_of}
use Rattle.hp_history.specs.Sections.{asked_in, free_slot, receipts_next, session_view, entry_with, told_more, trail_in, trail_next}
use Rattle.hp_model.specs.declared.entry.Asked.{Asked}
use Rattle.hp_model.specs.declared.entry.Receipt.{Receipt}
use Rattle.hp_model.specs.declared.entry.SlotEntry.{SlotEntry}
use Rattle.hp_model.specs.machine.SlotEvent.{SlotEvent}
use Rattle.hp_model.specs.machine.Plan.{Reply}
use Rattle.hp_model.specs.machine.SlotEvent.{slot_event}
use Rattle.hp_model.specs.threads.JointRun.{InSlot, receipt_of}
use Rattle.hp_model.specs.threads.LocalRun.{IsLocalRun}
use Rattle.hp_locked.specs.Views.{IsTrailOf}
use Rattle.hp_mount_laws.specs.Done.{MayEnter}
use Rattle.hp_events.specs.Answered.{Went}
use Rattle.hp_events.specs.Replies.{is_trace_full}
use Rattle.hp_shared.specs.Slots.{SlotView, slot_start}
use Rattle.hp_trail.specs.Keeping.{has_room}

-- the trail that the slot's seat has
abbrev pub run_in : List (List Held) → List SlotEntry
run_in vs = trail_in (front_of vs)

abbrev pub slot_view : (number : ℕ) → List (List Held) → List Held
slot_view number vs = SlotPart number (run_in vs) ∷ []

-- the slot, and its trail as the history has it
pub record SeatedView : Type 0 where
  pub slot : SlotView
  pub run : List SlotEntry

-- the slot's seat has its trail, which is a run of it from its start to its mount
pub record IsSeatedSlot (history : TableId) (size : ℕ) (id : TableId) (views : List (List Held)) (s : SlotView) : Type 0 where
  pub named : id ≡ history
  pub one : views ≡ slot_view s.number views ∷ []
  pub ends : IsLocalRun size s.number (slot_start s.number) (run_in views) s.mount
  pub kept : IsTrailOf (run_in views) s.entries

-- what a session is told of an event of the slot
abbrev pub slot_receipt : (number : ℕ) → SlotEvent → Reply → (place : ℕ) → Receipt
slot_receipt number e r place = receipt_of (record { entry = InSlot number (entry_with e r None); place = place; by = 0 })

-- what the slot's seat has then; where there was no room, nothing happened
abbrev pub slot_left : SlotEvent → Reply → List Held → Held
slot_left e r v = if is_trace_full r then free_slot v else trail_next e r (asked_in v) v

-- and what the session's has
abbrev pub session_left : SlotEvent → Reply → List Held → Held
session_left e r v = if is_trace_full r then session_view v else receipts_next e r (asked_in v) v

-- an event changed the slot, with this reply, and is the next of its trail; the session was told of it, and its receipt is given where
-- entries are kept
pub record IsSeatedDone (keeps : Bool) (size : ℕ) (old new : SeatedView) (e : SlotEvent) (reply : Reply) (was now : List Held) (receipt : Option Receipt) : Type 0 where
  pub asked : Option Asked
  pub changes : Went size old.slot.number old.slot.mount e reply asked new.slot.mount
  pub run : new.run ≡ old.run ++ entry_with e reply asked ∷ []
  pub told : now ≡ told_more was (slot_receipt old.slot.number e reply (length old.run)) ∷ []
  pub given : receipt ≡ (if keeps then Some (slot_receipt old.slot.number e reply (length old.run)) else None)

-- it did; or it is answered TraceFull, and nothing changed: the trail had no room for an entry, or the event enters a section
-- and the pool's trail had none
abbrev pub IsSeatedEvent : Type 0 → (keeps : Bool) → (size : ℕ) → (old new : SeatedView) → SlotEvent → Reply → (was now : List Held) → Option Receipt → Type 0
IsSeatedEvent full keeps size old new e reply was now receipt =
    MatchBool (is_trace_full reply)
    ((new ≡ old) × (now ≡ was) × (receipt ≡ None)
    × ((has_room false old.slot.left old.slot.extra ≡ false) ⊎ (full × MayEnter (λ c. slot_event size old.slot.number c old.slot.mount e) old.slot.mount)))
    (IsSeatedDone keeps size old new e reply was now receipt)
