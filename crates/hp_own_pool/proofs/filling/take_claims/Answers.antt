use Rattle.std.proofs.Common.{arith, ap, ◌≡◌, ◌∙◌}
use Rattle.hp_model.proofs.Words.{takes_of}
use Rattle.hp_own_pool.proofs.Takings.{all_taken, more_taken}
use Rattle.hp_own_pool.proofs.filling.take_claims.Goals as goal

pub loop-done-preserved : goal.loop-done-preserved
loop-done-preserved g c =
    let took = c.take_some-claim in
    record {
      within = omega (arith, took.ensures.within, c.amount-done.ensures, c.loop-done-test.true);
      taken = rw c.amount-done.ensures (more_taken c.args.pool.now c.loop-done.pool took.new.pool c.args.share.now c.loop-done.share took.new.self
          c.loop-done.done took.result.amount took.result.node c.loop-done.parcel c.add.new.self c.loop-done.invariant.taken
          took.ensures.pool took.ensures.sub took.ensures.used c.add.ensures.below c.add.ensures.added);
      settled = λ is. took.ensures.settled (c.loop-done.invariant.settled is);
    }

pub returns-clause-counts : goal.returns-clause-counts
returns-clause-counts g c =
    let all : c.loop-done.done ≡ c.args.count = omega (arith, c.loop-done.invariant.within, c.loop-done-test.false) in
    all_taken c.args.pool.now c.loop-done.pool c.args.share.now c.loop-done.share c.loop-done.done c.loop-done.parcel c.loop-done.invariant.taken
    ∙ ap (λ n. takes_of n c.args.pool.now) all
