use Rattle.std.proofs.Common.{◌+◌, ◌∙◌, ap}
use Rattle.hp_pool.proofs.Runs.{kept_is}
use Rattle.hp_pool.proofs.pool.Pool.put_keep.Goals as goal

pub returns-clause-moved : goal.returns-clause-moved
returns-clause-moved g c =
    let more = c.issue.ensures.outstanding ∙ ap (λ n. c.self.inside.book + n) c.amount-count.ensures in
    rw (← c.self.view_is) (kept_is _ _ c.self.inside.book c.issue.new.self c.args.claim.node c.args.claim.amount c.self.inside.lists c.put.new.self
    more c.put.ensures.moved c.put.ensures.sums c.put.ensures.in_use)
