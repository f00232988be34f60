use denote.Param.Send.{IsSync}
use Rattle.hp_frames.proofs.Crossing.{lease_sync}
use Rattle.hp_frames.specs.contracts.lodging.Lease as C

pub sync : IsSync C.the_row
sync = lease_sync
