use Rattle.hp_model.proofs.Words.{told_reply}
use Rattle.hp_shared.proofs.seated_slot.SeatedSlot.event_unnoted.Given as goal

-- the event with its reply
abbrev pub ghosts-leave : goal.ghosts-leave
ghosts-leave g a = record { event = a.told.0.now; reply = told_reply a.told.1.now }
