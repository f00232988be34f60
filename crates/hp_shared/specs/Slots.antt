-- What a slot under its lock is to a contract, and what an event there does.
use Rattle.std.specs.Prelude.{◌≡◌, ◌⊎◌, ℕ, zero, suc, ◌≤◌, false, Option, None, Some, List}
use Rattle.std.specs.Bool.{MatchBool}
use Rattle.hp_model.specs.declared.entry.Asked.{Asked}
use Rattle.hp_model.specs.declared.entry.Part.TheVariants.{Slot as AtSlot}
use Rattle.hp_model.specs.declared.entry.Receipt.{Receipt}
use Rattle.hp_model.specs.declared.entry.SlotEntry.{SlotEntry}
use Rattle.hp_model.specs.declared.event.Event.TheVariants.{Slot as OnSlot}
use Rattle.hp_model.specs.machine.SlotEvent.{SlotEvent}
use Rattle.hp_model.specs.machine.Machine.{open_mount}
use Rattle.hp_model.specs.machine.Plan.{Reply, Slot}
use Rattle.hp_model.specs.machine.SlotEvent.{slot_event}
use Rattle.hp_model.specs.Profile.{most_tasks}
use Rattle.hp_model.specs.threads.Closing.{to_exit}
use Rattle.hp_model.specs.threads.LocalRun.{IsLocalRun}
use Rattle.hp_locked.specs.Told.{IsReceipt}
use Rattle.hp_locked.specs.Views.{HasPlaces}
use Rattle.hp_mount_laws.specs.Done.{MayEnter}
use Rattle.hp_events.specs.Answered.{Went}
use Rattle.hp_events.specs.Replies.{is_trace_full}
use Rattle.hp_trail.specs.Keeping.{has_room, with_entry}

-- ---- what an event asks of a slot

-- or nothing happened, as the event enters a section and the door had no room for one
abbrev pub IsActedOr : Type 0 → (size k : ℕ) → Slot → SlotEvent → Reply → Option Asked → Slot → Type 0
IsActedOr full size k old e reply asked new =
    MatchBool (is_trace_full reply) ((new ≡ old) × (asked ≡ None) × full × MayEnter (λ c. slot_event size k c old e) old) (Went size k old e reply asked new)

-- ---- the slot under its lock

-- its number and its mount, with the trail if that is kept and the places left there
pub record SlotView : Type 0 where
  pub number : ℕ
  pub mount : Slot
  pub entries : Option (List SlotEntry)
  pub left : Option ℕ
  pub extra : ℕ

-- slot 0 begins with a mount without limits, the others with none
abbrev pub slot_start : ℕ → Slot
slot_start zero = Some open_mount
slot_start (suc k) = None

-- from the start the trail is a run of the slot that ends in this mount
abbrev pub IsSlotTrail : (size k : ℕ) → Option (List SlotEntry) → Slot → Type 0
IsSlotTrail size k None mount = Unit {0}
IsSlotTrail size k (Some es) mount = IsLocalRun size k (slot_start k) es mount

-- what holds of the slot under its lock: a place is left for the exit of each task that has maps
pub record IsLockedSlot (size k : ℕ) (entries : Option (List SlotEntry)) (left : Option ℕ) (extra : ℕ) (mount : Slot) : Type 0 where
  pub trail : IsSlotTrail size k entries mount
  -- where no entries are kept, no places are counted
  pub counted : entries ≡ None → left ≡ None
  pub few : to_exit mount ≤ most_tasks
  pub enough : most_tasks ≤ extra
  pub places : HasPlaces left (to_exit mount)

-- an event changed the slot, with this reply, and added its entry with the section that was entered
pub record IsSlotEventDone (size : ℕ) (old new : SlotView) (e : SlotEvent) (reply : Reply) (asked : Option Asked) (receipt : Option Receipt) : Type 0 where
  pub changes : Went size old.number old.mount e reply asked new.mount
  pub entries : new.entries ≡ with_entry old.entries (record { event = e; reply = reply; asked = asked })
  pub told : IsReceipt old.entries (AtSlot old.number) (OnSlot old.number e) reply receipt

-- it did; or it is answered TraceFull, and nothing changed: the trail had no room for an entry, or the event enters a section
-- and the door had none
abbrev pub IsSlotEvent : Type 0 → (size : ℕ) → (old new : SlotView) → SlotEvent → Reply → Option Asked → Option Receipt → Type 0
IsSlotEvent full size old new e reply asked receipt =
    MatchBool (is_trace_full reply)
    ((new ≡ old) × (receipt ≡ None) × (asked ≡ None)
    × ((has_room false old.left old.extra ≡ false) ⊎ (full × MayEnter (λ c. slot_event size old.number c old.mount e) old.mount)))
    (IsSlotEventDone size old new e reply asked receipt)
