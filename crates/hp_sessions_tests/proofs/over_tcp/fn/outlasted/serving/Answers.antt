use denote.Param.Send.{sendable}
use Rattle.std.proofs.Crossing.{crosses}
use Rattle.hp_wire.proofs.Crossing.{written_send}
use Rattle.hp_sessions_tests.proofs.over_tcp.fn.outlasted.serving.Goals as goal

pub serves-requires-send-C-Reader : goal.serves-requires-send-C-Reader
serves-requires-send-C-Reader g c κs within = search (sendable, crosses, written_send) depth 40

pub serves-requires-send-C-Writer : goal.serves-requires-send-C-Writer
serves-requires-send-C-Writer g c κs within = search (sendable, crosses, written_send) depth 40
