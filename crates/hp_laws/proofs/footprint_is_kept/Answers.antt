use Rattle.hp_laws.proofs.footprint.Footprint.{footprint}
use Rattle.hp_laws.proofs.footprint_is_kept.Goals as goal

pub returns : goal.returns
returns c = footprint
