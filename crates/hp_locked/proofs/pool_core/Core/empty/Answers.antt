use Rattle.hp_locked.proofs.Added.{given_is, given_kept}
use Rattle.hp_locked.proofs.pool_core.Core.empty.Goals as goal

pub invariant_of-self : goal.invariant_of-self
invariant_of-self g c =
    given_kept g.T.Trail.entries g.T.Trail.left g.T.Trail.extra c.self.inside.trail c.given.new.trail c.self.inside.seat.views c.given.new.seat.views c.args.parcel
    _ c.self.inside.pool c.emptied-pages.new.pool c.emptied-pages.result.0 c.emptied-pages.result.1 c.emptied-pages.ensures.puts c.emptied-pages.ensures.fall
    c.emptied-pages.ensures.moved c.emptied-pages.ensures.same c.given.result c.given.ensures.some c.given.ensures.none c.self.invariant
    c.emptied-pages.ensures.ready c.law.ensures.settled c.emptied-pages.ensures.less c.given.ensures.pool

pub returns-clause-given : goal.returns-clause-given
returns-clause-given g c =
    rw c.self.view_is at (given_is g.T.Trail.entries g.T.Trail.left g.T.Trail.extra c.self.inside.trail c.given.new.trail c.self.inside.seat.views c.given.new.seat.views c.args.parcel
    _ c.self.inside.pool c.emptied-pages.new.pool c.emptied-pages.result.0 c.emptied-pages.result.1 c.emptied-pages.ensures.puts c.emptied-pages.ensures.fall
    c.emptied-pages.ensures.moved c.emptied-pages.ensures.same c.given.result c.given.ensures.some c.given.ensures.none)
