use Rattle.std.proofs.Common.{◌≡◌, subst, OnOk}
use Rattle.hp_model.proofs.Words.{IsReadyMachine, IsSettledState, Machine, State}
use Rattle.hp_shared.specs.Sharing.{EndsRuns, entries_of}
use Rattle.hp_closing.proofs.Ready.{when_joined}
use Rattle.hp_trail.specs.Walk.{lists, trails_of}
use Rattle.hp_closing.proofs.closing.audit.Goals as goal

pub returns-clause-ready : goal.returns-clause-ready
returns-clause-ready c =
    let t = trails_of c.deref.result.now c.deref-3.result.now c.deref-2.result.now in
    let same : t ≡ entries_of c.args.trails.now = (let a = c.deref.ensures in let b = c.deref-2.ensures in let d = c.deref-3.ensures in cc) in
    subst (λ x. OnOk c.audit.result ((s : State) (m : Machine) → IsSettledState s → EndsRuns s x m → IsReadyMachine m)) same
    (when_joined t (lists c.args.told.items) c.audit.result c.audit.ensures)
