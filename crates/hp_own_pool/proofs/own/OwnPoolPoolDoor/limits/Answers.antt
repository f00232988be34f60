use Rattle.hp_own_pool.proofs.Limiting.{own_limited, refused_stays}
use Rattle.hp_own_pool.proofs.own.OwnPoolPoolDoor.limits.Goals as goal

pub returns-clause-set : goal.returns-clause-set
returns-clause-set g c =
    let did = c.set_limits-files in
    rw (← c.self.view_is) (own_limited c.args.page_bytes c.args.options.now c.args.share.now did.new.share c.self.inside.pool did.new.pool did.result.0
    did.result.1 did.result.2 did.ensures.limits did.ensures.section)

pub returns-clause-unchanged : goal.returns-clause-unchanged
returns-clause-unchanged g c =
    let did = c.set_limits-files in
    refused_stays _ _ c.args.share.now did.new.share did.result.0 did.result.1 did.result.2 did.ensures.limits
