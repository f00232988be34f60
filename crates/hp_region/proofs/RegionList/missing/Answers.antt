use Rattle.std.proofs.Common.{arith}
use Rattle.hp_region.proofs.Counts.{missing_in-count_in}
use Rattle.hp_region.proofs.RegionList.missing.Goals as goal

pub overflow_sub-result : goal.overflow_sub-result
overflow_sub-result c = omega (arith, missing_in-count_in c.args.self.now.indices c.args.a c.args.b, c.count.ensures, c.saturating_sub.ensures)

pub returns : goal.returns
returns c = omega (arith, missing_in-count_in c.args.self.now.indices c.args.a c.args.b, c.count.ensures, c.saturating_sub.ensures)
