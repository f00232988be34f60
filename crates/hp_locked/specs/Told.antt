-- What a part under a lock tells of an event.
use Rattle.std.specs.Prelude.{◌≡◌, ◌++◌, [], ◌∷◌, Ok, Err, Option, None, Some, List, is_some, true}
use Rattle.hp_model.specs.declared.answer.Answer.TheVariants as answer
use Rattle.hp_model.specs.declared.entry.Part.{Part}
use Rattle.hp_model.specs.declared.entry.PoolEntry.TheVariants.{OfPool}
use Rattle.hp_model.specs.declared.entry.Receipt.{Receipt}
use Rattle.hp_model.specs.declared.event.Event.{Event}
use Rattle.hp_model.specs.declared.event.PoolEvent.{PoolEvent}
use Rattle.hp_model.specs.declared.refusal.Refusal.TheVariants.{OutOfRange}
use Rattle.hp_model.specs.machine.Plan.{Reply}
use Rattle.hp_model.specs.pool.Resize.{pool_event}
use Rattle.hp_trail.specs.Keeping.{with_entry}
use Rattle.hp_locked.specs.declared.pool_told.PoolTold.{PoolTold}
use Rattle.hp_locked.specs.declared.pool_told.PoolTold.TheVariants.{Done, TooMuch, Number, Numbers, PerNode}
use Rattle.hp_locked.specs.Views.{CoreView, IsPlace}

abbrev pub pool_reply : PoolTold → Reply
pool_reply Done = Ok answer.Done
pool_reply TooMuch = Err OutOfRange
pool_reply (Number n) = Ok (answer.Number n)
pool_reply (Numbers counts) = Ok (answer.Numbers counts)
pool_reply (PerNode nodes rows) = Ok (answer.PerNode nodes rows)

-- where entries are kept, a receipt of the event at the next place, with its reply; else none
abbrev pub IsReceipt : {E : Type 0} → Option (List E) → Part → Event → Reply → Option Receipt → Type 0
IsReceipt entries part e reply None = entries ≡ None
IsReceipt entries part e reply (Some r) =
    (is_some entries ≡ true) × (r.part ≡ part) × IsPlace entries r.place × (r.event ≡ e) × (r.reply ≡ reply)

-- an event of the pool changed its numbers, with this reply, and added its entry
pub record IsPoolEventDone (old new : CoreView) (e : PoolEvent) (reply : Reply) : Type 0 where
  pub changes : pool_event old.pool e ≡ (reply, new.pool)
  pub run : new.run ≡ old.run ++ OfPool e reply ∷ []
  pub entries : new.entries ≡ with_entry old.entries (OfPool e reply)
