use Rattle.hp_model.specs.declared.event.SlotEvent.TheVariants.{Ls}
use Rattle.hp_events.specs.Replies.{names_reply}
use Rattle.hp_shared.proofs.seats.leave_names.Given as goal

-- the names, with their list as the reply
abbrev pub ghosts-leave : goal.ghosts-leave
ghosts-leave g a = record { event = Ls; reply = names_reply a.told.now }
