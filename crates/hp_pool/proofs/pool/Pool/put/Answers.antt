use Rattle.hp_pool.proofs.Runs.{put_is}
use Rattle.hp_pool.proofs.pool.Pool.put.Goals as goal

pub returns-clause-moved : goal.returns-clause-moved
returns-clause-moved g c = rw (← c.self.view_is) (put_is _ _ c.self.inside.book c.args.claim.node c.args.claim.amount c.self.inside.lists
    c.put.new.self c.put.ensures.moved c.put.ensures.sums c.put.ensures.in_use)
