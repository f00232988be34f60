use Rattle.hp_shared.specs.Runs.{faults_of}
use Rattle.hp_entrance.proofs.Runs.{faults_next}
use Rattle.hp_entrance.proofs.holding.faults_in.Goals as goal

pub loop-done-preserved : goal.loop-done-preserved
loop-done-preserved c =
    let first = c.args.first.now in
    let next = c.follows.ensures c.if-not-follows.false in
    faults_next (faults_of first.slot first c.args.intent) first.index c.loop-done.done c.args.queue.now c.index-queue-done.result c.loop-done-test.true
    c.loop-done.invariant (cc)
