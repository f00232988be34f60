use denote.Param.Send.{sendable}
use Rattle.std.proofs.Crossing.{crosses}
use Rattle.hp_wire.proofs.Crossing.{written_send}
use Rattle.hugetlbd.proofs.over_tcp.OverTcpServer.serve.Goals as goal

pub serve_over-requires-send-C-Reader : goal.serve_over-requires-send-C-Reader
serve_over-requires-send-C-Reader g c κs within = search (sendable, crosses, written_send) depth 40

pub serve_over-requires-send-C-Writer : goal.serve_over-requires-send-C-Writer
serve_over-requires-send-C-Writer g c κs within = search (sendable, crosses, written_send) depth 40
