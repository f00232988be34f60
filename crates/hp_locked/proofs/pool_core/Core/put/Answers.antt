use Rattle.hp_locked.proofs.Added.{given_is, given_kept}
use Rattle.hp_locked.proofs.pool_core.Core.put.Goals as goal

pub invariant_of-self : goal.invariant_of-self
invariant_of-self g c =
    given_kept g.T.Trail.entries g.T.Trail.left g.T.Trail.extra c.self.inside.trail c.given.new.trail c.self.inside.seat.views c.given.new.seat.views c.args.parcel
    _ c.self.inside.pool c.returned-pages.new.pool c.returned-pages.result.0 c.returned-pages.result.1 c.returned-pages.ensures.puts c.returned-pages.ensures.fall
    c.returned-pages.ensures.moved c.returned-pages.ensures.same c.given.result c.given.ensures.some c.given.ensures.none c.self.invariant
    c.returned-pages.ensures.ready c.law.ensures.settled c.returned-pages.ensures.less c.given.ensures.pool

pub returns-clause-given : goal.returns-clause-given
returns-clause-given g c =
    rw c.self.view_is at (given_is g.T.Trail.entries g.T.Trail.left g.T.Trail.extra c.self.inside.trail c.given.new.trail c.self.inside.seat.views c.given.new.seat.views c.args.parcel
    _ c.self.inside.pool c.returned-pages.new.pool c.returned-pages.result.0 c.returned-pages.result.1 c.returned-pages.ensures.puts c.returned-pages.ensures.fall
    c.returned-pages.ensures.moved c.returned-pages.ensures.same c.given.result c.given.ensures.some c.given.ensures.none)
