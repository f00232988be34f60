use Rattle.std.proofs.Common.{ap, ◌+◌, arith, sum}
use Rattle.hp_model.specs.pool.PoolCounts.{used}
use Rattle.hp_subpool.specs.Subpool.{fall}
use Rattle.hp_locked.proofs.Giving.{both_moved, lowers, puts_cover, ready_after, same_after}
use Rattle.hp_locked.proofs.pool_core.giving.returned.Goals as goal

pub returns-clause-moved : goal.returns-clause-moved
returns-clause-moved g c =
    both_moved c.args.parcel c.counts-puts.ensures.four c.args.share.now c.put.new.share c.args.pool.now c.put.new.pool c.put_reserves.new.pool c.settle.new.self c.args.reserves
    (c.put.ensures.share, c.put.ensures.pool) c.requires.pages c.put_reserves.ensures.pool c.settle.ensures.moved

pub returns-clause-same : goal.returns-clause-same
returns-clause-same g c =
    same_after c.args.parcel c.counts-puts.ensures.four c.args.pool.now c.settle.new.self (fall c.args.share.now (sum c.args.parcel + c.args.reserves)) c.requires.ready
    (both_moved c.args.parcel c.counts-puts.ensures.four c.args.share.now c.put.new.share c.args.pool.now c.put.new.pool c.put_reserves.new.pool c.settle.new.self c.args.reserves
    (c.put.ensures.share, c.put.ensures.pool) c.requires.pages c.put_reserves.ensures.pool c.settle.ensures.moved)

pub returns-clause-ready : goal.returns-clause-ready
returns-clause-ready g c =
    ready_after c.args.parcel c.counts-puts.ensures.four c.args.pool.now c.settle.new.self (fall c.args.share.now (sum c.args.parcel + c.args.reserves)) c.requires.ready c.settle.ensures.settled
    (both_moved c.args.parcel c.counts-puts.ensures.four c.args.share.now c.put.new.share c.args.pool.now c.put.new.pool c.put_reserves.new.pool c.settle.new.self c.args.reserves
    (c.put.ensures.share, c.put.ensures.pool) c.requires.pages c.put_reserves.ensures.pool c.settle.ensures.moved)

pub returns-clause-less : goal.returns-clause-less
returns-clause-less g c = λ some.
    lowers c.args.parcel (fall c.args.share.now (sum c.args.parcel + c.args.reserves)) c.args.pool.now c.settle.new.self
    (both_moved c.args.parcel c.counts-puts.ensures.four c.args.share.now c.put.new.share c.args.pool.now c.put.new.pool c.put_reserves.new.pool c.settle.new.self c.args.reserves
    (c.put.ensures.share, c.put.ensures.pool) c.requires.pages c.put_reserves.ensures.pool c.settle.ensures.moved)
    (let same = ap used c.put_reserves.ensures.pool in let settled = c.settle.ensures.used in let puts = c.put.ensures.used in omega (arith, same, settled, puts))
    (puts_cover c.args.share.now c.put.new.share c.args.parcel c.args.reserves c.args.pool.now c.put.new.pool c.put.ensures.share c.put.ensures.pool c.put_reserves.ensures.covered)
    some
