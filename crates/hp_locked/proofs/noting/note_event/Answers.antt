use Rattle.hp_history.specs.Sections.{pool_in}
use Rattle.hp_locked.proofs.Added.{place_kept}
use Rattle.hp_locked.proofs.noting.note_event.Goals as goal

pub returns-clause-place : goal.returns-clause-place
returns-clause-place g c =
    place_kept g.T.Trail.keeps (g.T.Trail.entries c.args.trail.now) (pool_in c.args.seat.now.views) c.place-place.result (g.met.T.Trail.kept c.args.trail.now)
    c.requires.pool.kept c.place-place.ensures.kept
