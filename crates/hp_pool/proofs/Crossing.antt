-- What the pool owns names no thread.
use denote.Param.Send.{IsSend, sendable}
use denote.RattleType.{RattleType}
use Rattle.hp_model.specs.declared.naming.Naming.{Ghosts}
use Rattle.hp_nodes.proofs.Crossing.{lists_send}
use Rattle.hp_permit.proofs.Crossing.{book_send}
use Rattle.hp_pool.specs.contracts.pool.Pool as Pool

pub pool_send : (N : RattleType) (names : Ghosts N.Denot) → IsSend (Pool.the_row N names)
pool_send N names = search (sendable, lists_send, book_send) depth 20
