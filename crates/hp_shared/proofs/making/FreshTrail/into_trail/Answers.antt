use Rattle.std.proofs.Common.{◌==◌}
use Rattle.hp_shared.proofs.Opened.{counted_if, fresh_if}
use Rattle.hp_shared.proofs.making.FreshTrail.into_trail.Goals as goal

pub returns-clause-fresh : goal.returns-clause-fresh
returns-clause-fresh g c = fresh_if _ (g.row.K == 1) c.args.self.trail c.args.self.none

pub returns-clause-counted : goal.returns-clause-counted
returns-clause-counted g c = counted_if _ (g.row.K == 1) c.args.self.trail
