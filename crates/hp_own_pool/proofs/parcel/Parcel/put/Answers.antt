use Rattle.std.proofs.Common.{◌≤◌, subst, sum}
use Rattle.hp_own_pool.specs.Parcel.{claimed}
use Rattle.hp_own_pool.proofs.Returning.{four_put}
use Rattle.hp_own_pool.proofs.parcel.Parcel.put.Goals as goal

pub returns-clause-pool : goal.returns-clause-pool
returns-clause-pool g c =
    let r = c.into_claims-zero.result in
    let within = subst (λ xs. sum xs ≤ c.args.share.now.pages) c.into_claims-zero.ensures.counts c.requires in
    rw c.into_claims-zero.ensures.counts (four_put c.args.share.now c.put_part.new.share c.put_part-2.new.share c.put_part-3.new.share c.put_part-4.new.share
    c.args.pool.now c.put_part.new.pool c.put_part-2.new.pool c.put_part-3.new.pool c.put_part-4.new.pool (claimed r.0) (claimed r.1) (claimed r.2) (claimed r.3) within
    c.put_part.ensures.share c.put_part.ensures.pool c.put_part-2.ensures.share c.put_part-2.ensures.pool
    c.put_part-3.ensures.share c.put_part-3.ensures.pool c.put_part-4.ensures.share c.put_part-4.ensures.pool).1
