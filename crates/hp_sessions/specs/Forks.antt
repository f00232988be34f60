-- Which slots of a fork were done.
use Rattle.std.specs.Prelude.{ℕ, Bool, false, List, Ok}
use Rattle.std.specs.List.{filter, range_with_len, slice_index_or}
use Rattle.hp_model.specs.declared.answer.Answer.{Answer}
use Rattle.hp_model.specs.declared.event.Event.TheVariants.{Slot as OnSlot}
use Rattle.hp_model.specs.declared.event.SlotEvent.TheVariants.{ForkMaps}
use Rattle.hp_sessions.specs.Calls.{IsMade, SessionView}

-- the marked ones below n
abbrev pub marked_below : List Bool → (n : ℕ) → List ℕ
marked_below done n = filter (λ k. slice_index_or done k false) (range_with_len 0 n)

-- the parent's maps on this slot became the child's as well
abbrev pub IsForked : (kept : Bool) (size k parent child : ℕ) → SessionView → SessionView → Type 0
IsForked kept size k parent child s t = (a : Answer) × IsMade kept size s (OnSlot k (ForkMaps parent child)) (Ok a) t
