use Rattle.std.proofs.Common.{◌≤◌, ◌∙◌, length, take, refl, subst, arith}
use Rattle.std.proofs.lemmas.List.{length-take-le}
use Rattle.hp_shared.specs.Runs.{faults_of}
use Rattle.hp_entrance.specs.Runs.{AreFaultsHanded, AreFaultsOf}
use Rattle.hp_entrance.proofs.Runs.{are_no_loads, faults_first, first_answered}
use Rattle.hp_entrance.proofs.holding.held_run.Goals as goal

pub answer_all-requires : goal.answer_all-requires
answer_all-requires g c =
    let a = c.access.result.now in
    let f = faults_of a.slot a c.in-Some.intent in
    let done = c.fault_run-done.result in
    let queue = c.args.queue.now in
    are_no_loads f a.index (take done queue) (faults_first f a.index done c.faults_in-most.result queue c.fault_run-done.ensures.few c.faults_in-most.ensures.faults)

pub returns-clause-first : goal.returns-clause-first
returns-clause-first g c =
    let size = g.N.Naming.page_bytes in
    let at = c.args.at in
    let a = c.access.result.now in
    let intent = c.in-Some.intent in
    let most = c.faults_in-most.result in
    let done = c.fault_run-done.result in
    let queue = c.args.queue.now in
    let made = c.answer_all.new.queue in
    let was = c.args.member.now.receipts in
    let now = c.fault_run-done.new.self.receipts in
    let few = c.faults_in-most.ensures.few in
    let fewer = c.fault_run-done.ensures.few in
    let within : done ≤ length queue = omega (arith, few, fewer) in
    first_answered size at (faults_of at a intent) refl a.index done most queue made was now fewer few (c.answer_all.auto.queue ∙ length-take-le done queue within)
    (subst (λ k. AreFaultsOf (faults_of k a intent) a.index (take most queue)) c.if-access-at.false c.faults_in-most.ensures.faults) c.answer_all.ensures
    (subst (λ k. AreFaultsHanded size k (faults_of k a intent) a.index done was now) c.requires.number c.fault_run-done.ensures.done)
