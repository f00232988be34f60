use Rattle.hp_own_pool.proofs.Shares.{own_opened}
use Rattle.hp_own_pool.proofs.own.OwnPoolPoolDoor.open.Goals as goal

pub returns-clause-opened : goal.returns-clause-opened
returns-clause-opened g c =
    let did = c.open_share-share in
    rw (← c.self.view_is) (own_opened c.args.page_bytes c.args.options.now c.self.inside.pool did.new.pool did.result.0
    did.result.1 did.result.2 did.ensures.opens did.ensures.section)
