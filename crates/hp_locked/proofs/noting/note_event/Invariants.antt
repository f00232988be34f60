use Rattle.hp_locked.specs.Told.{pool_reply}
use Rattle.hp_locked.proofs.noting.note_event.Given as goal

abbrev pub ghosts-answer_pool : goal.ghosts-answer_pool
ghosts-answer_pool g a = record { event = a.told.0; reply = pool_reply a.told.1 }
