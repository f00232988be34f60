use Rattle.std.proofs.Common.{◌∙◌, ap, arith, sym}
use Rattle.hp_model.specs.pool.PoolCounts.{used}
use Rattle.hp_subpool.specs.Subpool.{Subpool, committed_of}
use Rattle.hp_locked.proofs.Giving.{all_moved, close_covers, lowers, ready_after, same_after}
use Rattle.hp_locked.proofs.pool_core.giving.emptied.Goals as goal

pub returns-clause-moved : goal.returns-clause-moved
returns-clause-moved g c =
    let last = c.take_all-last.result in
    let all = c.take_all-last.ensures.all in
    let pages = c.requires.pages ∙ sym (ap (λ (s : Subpool). s.pages) all) in
    rw (← all) (all_moved c.args.parcel c.counts-puts.ensures.four last c.put.new.share c.args.pool.now c.put.new.pool c.put_reserves.new.pool c.settle.new.self c.used-held.result
    c.put_reserves.new.self c.close.new.pool (c.put.ensures.share, c.put.ensures.pool) pages c.used-held.ensures c.put_reserves.ensures.sub c.put_reserves.ensures.pool
    c.close.ensures.pool c.settle.ensures.moved)

pub returns-clause-same : goal.returns-clause-same
returns-clause-same g c =
    let last = c.take_all-last.result in
    let all = c.take_all-last.ensures.all in
    let pages = c.requires.pages ∙ sym (ap (λ (s : Subpool). s.pages) all) in
    rw (← all) (same_after c.args.parcel c.counts-puts.ensures.four c.args.pool.now c.settle.new.self (committed_of last) c.requires.ready (all_moved c.args.parcel
    c.counts-puts.ensures.four last c.put.new.share c.args.pool.now c.put.new.pool c.put_reserves.new.pool c.settle.new.self c.used-held.result c.put_reserves.new.self c.close.new.pool
    (c.put.ensures.share, c.put.ensures.pool) pages c.used-held.ensures c.put_reserves.ensures.sub c.put_reserves.ensures.pool c.close.ensures.pool c.settle.ensures.moved))

pub returns-clause-ready : goal.returns-clause-ready
returns-clause-ready g c =
    let last = c.take_all-last.result in
    let all = c.take_all-last.ensures.all in
    let pages = c.requires.pages ∙ sym (ap (λ (s : Subpool). s.pages) all) in
    ready_after c.args.parcel c.counts-puts.ensures.four c.args.pool.now c.settle.new.self (committed_of last) c.requires.ready c.settle.ensures.settled (all_moved
    c.args.parcel c.counts-puts.ensures.four last c.put.new.share c.args.pool.now c.put.new.pool c.put_reserves.new.pool c.settle.new.self c.used-held.result c.put_reserves.new.self
    c.close.new.pool (c.put.ensures.share, c.put.ensures.pool) pages c.used-held.ensures c.put_reserves.ensures.sub c.put_reserves.ensures.pool c.close.ensures.pool
    c.settle.ensures.moved)

pub returns-clause-less : goal.returns-clause-less
returns-clause-less g c =
    let last = c.take_all-last.result in
    let all = c.take_all-last.ensures.all in
    let pages = c.requires.pages ∙ sym (ap (λ (s : Subpool). s.pages) all) in
    rw (← all) (λ some. lowers c.args.parcel (committed_of last) c.args.pool.now c.settle.new.self (all_moved c.args.parcel c.counts-puts.ensures.four last c.put.new.share
    c.args.pool.now c.put.new.pool c.put_reserves.new.pool c.settle.new.self c.used-held.result c.put_reserves.new.self c.close.new.pool (c.put.ensures.share, c.put.ensures.pool) pages
    c.used-held.ensures c.put_reserves.ensures.sub c.put_reserves.ensures.pool c.close.ensures.pool c.settle.ensures.moved) (let same = ap used c.put_reserves.ensures.pool in let then =
    ap used c.close.ensures.pool in let settled = c.settle.ensures.used in let puts = c.put.ensures.used in omega (arith, same, then, settled, puts)) (close_covers last c.put.new.share
    c.args.parcel c.used-held.result c.put_reserves.new.self c.args.pool.now c.put.new.pool c.put_reserves.new.pool c.put.ensures.share c.put.ensures.pool pages c.used-held.ensures
    c.put_reserves.ensures.sub c.put_reserves.ensures.pool c.put_reserves.ensures.covered c.close.ensures.covered) some)
