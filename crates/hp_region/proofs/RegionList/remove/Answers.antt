use Rattle.std.proofs.Common.{ap, ◌∙◌, arith, ◌<◌}
use Rattle.hp_region.specs.Spans.{indices_of}
use Rattle.hp_region.proofs.Members.{indices_of-removed, difference_none}
use Rattle.hp_region.proofs.Apart.{apart-removed}
use Rattle.hp_region.proofs.Counts.{missing_in-count_in}
use Rattle.hp_region.proofs.RegionList.remove.Goals as goal

pub remove_span-requires-clause-some : goal.remove_span-requires-clause-some
remove_span-requires-clause-some c = omega (arith, missing_in-count_in c.args.self.now.indices c.args.a c.args.b, c.count-count.ensures)

pub invariant_of-self : goal.invariant_of-self
invariant_of-self c =
    let some : c.args.a < c.args.b = omega (arith, missing_in-count_in c.args.self.now.indices c.args.a c.args.b, c.count-count.ensures) in
    rw c.in_ok-remove_span.ensures.ok (apart-removed 0 c.args.a c.args.b c.self.inside.spans.items c.self.invariant some)

pub returns-in_ok-remove_span-clause-ok : goal.returns-in_ok-remove_span-clause-ok
returns-in_ok-remove_span-clause-ok c =
    let some : c.args.a < c.args.b = omega (arith, missing_in-count_in c.args.self.now.indices c.args.a c.args.b, c.count-count.ensures) in
    rw (← c.self.view_is) (ap indices_of c.in_ok-remove_span.ensures.ok ∙ indices_of-removed c.args.a c.args.b c.self.inside.spans.items some)

pub returns-else-count-gt0-clause-ok : goal.returns-else-count-gt0-clause-ok
returns-else-count-gt0-clause-ok c = difference_none c.args.self.now.indices c.args.a c.args.b (omega (arith, c.count-count.ensures))
