use Rattle.hp_laws.proofs.settled.EventsSound.{slots_stay_sound}
use Rattle.hp_laws.proofs.slots_stay_sound.Goals as goal

pub returns : goal.returns
returns c = slots_stay_sound
