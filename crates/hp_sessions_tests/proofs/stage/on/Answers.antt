use denote.Param.Send.{IsSync, sendable}
use denote.RattleType.{RattleType}
use denote.Ref.{NamedLft}
use Rattle.std.proofs.Crossing.{crosses}
use Rattle.hp_history.specs.declared.law.Places as law
use Rattle.hp_model.specs.declared.naming.Naming.{Ghosts}
use Rattle.hp_shared.proofs.Crossing.{shared_sync}
use Rattle.hp_server.specs.contracts.served.Served as Served
use Rattle.hp_sessions_tests.specs.contracts.gates.Watched as Watched
use Rattle.hp_sessions_tests.specs.contracts.gates.Watcher as Watcher
use Rattle.hp_sessions_tests.proofs.stage.on.Goals as goal

watcher_sync : (κ : NamedLft) (R : RattleType) → IsSync R → IsSync (Watcher.the_row κ R)
watcher_sync κ R r = search (sendable, crosses) depth 60 fits 5000

watched_sync : (κ : NamedLft) (R : RattleType) → IsSync R → IsSync (Watched.the_row κ R)
watched_sync κ R r = search (sendable, crosses, watcher_sync) depth 60 fits 5000

served_sync : (N G k : RattleType) (names : Ghosts N.Denot) (places : law.Ghosts N.Denot) → IsSync G → IsSync (Served.the_row N G k names places)
served_sync N G k names places s = search (sendable, shared_sync) depth 40

pub play-requires-sync-M : goal.play-requires-sync-M
play-requires-sync-M g c κs within = search (sendable, served_sync, watched_sync) depth 40
