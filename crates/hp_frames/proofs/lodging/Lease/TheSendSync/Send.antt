use denote.Param.Send.{IsSend}
use Rattle.hp_frames.proofs.Crossing.{lease_send}
use Rattle.hp_frames.specs.contracts.lodging.Lease as C

pub send : IsSend C.the_row
send = lease_send
