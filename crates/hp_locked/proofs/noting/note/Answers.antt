use Rattle.std.proofs.Common.{length, ap}
use Rattle.hp_history.specs.Sections.{pool_in}
use Rattle.hp_locked.proofs.Added.{place_kept}
use Rattle.hp_locked.proofs.noting.note.Goals as goal

pub returns-clause-entered : goal.returns-clause-entered
returns-clause-entered g c = (
  length (pool_in c.args.seat.now.views),
  place_kept g.T.Trail.keeps (g.T.Trail.entries c.args.trail.now) (pool_in c.args.seat.now.views) c.place-place.result (g.met.T.Trail.kept c.args.trail.now)
      c.requires.pool.kept c.place-place.ensures.kept,
  ap (λ m. m.0) c.enter.ensures.busy,
)
