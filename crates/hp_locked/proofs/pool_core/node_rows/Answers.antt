use Rattle.std.proofs.Common.{arith}
use Rattle.hp_laws.proofs.lists.NodeRows.{padded}
use Rattle.hp_locked.proofs.pool_core.node_rows.Goals as goal

pub returns : goal.returns
returns g c = padded c.args.pool.now c.loop-node.rows c.loop-node.node c.requires (omega (arith, c.len-node-end.ensures, c.loop-node-test.false, c.loop-node.auto.node-end)) c.loop-node.invariant
