use Rattle.std.proofs.Common.{length, arith, ap}
use Rattle.hp_system.proofs.Ready.{pool_ready}
use Rattle.hp_laws.proofs.lists.NodeRows.{padded}
use Rattle.hp_model.proofs.Words.{Machine}
use Rattle.hp_system.proofs.system.System.node_counts.Goals as goal

pub returns : goal.returns
returns g c =
    let is = ap (λ (x : Machine). length x.pool.nodes.rows) c.self.view_is in
    let few = (pool_ready c.self.view_is c.requires).nodes in
    padded c.args.self.now.pool c.loop-node.rows c.loop-node.node (omega (arith, is, few))
    (omega (arith, is, c.len-node-end.ensures, c.loop-node-test.false, c.loop-node.auto.node-end)) c.loop-node.invariant
