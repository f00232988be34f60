use Rattle.std.proofs.Common.{◌==◌, sym, subst, IfSome}
use Rattle.hp_locked.specs.Views.{frames_list}
use Rattle.hp_model.proofs.Words.{Machine, start}
use Rattle.hp_mount_door.specs.Door.{IsReady}
use Rattle.hp_shared.specs.Ended.{HasEnded}
use Rattle.hp_shared.specs.Sharing.{EndsRuns, entries_of}
use Rattle.hp_closing.proofs.closing.into_system.Goals as goal

pub returns-clause-ready : goal.returns-clause-ready
returns-clause-ready g c = subst (λ (m : Machine). IsReady m.pool) (sym c.from_parts.ensures) c.into_parts-unshared.ensures.ready

pub returns-clause-runs : goal.returns-clause-runs
returns-clause-runs g c =
    let from = start (frames_list g.N.Naming.frames) c.args.shared.page_size c.args.shared.slots in
    subst (λ (m : Machine). IfSome c.into_parts-unshared.result.0.trails (λ t. EndsRuns from (entries_of t) m)) (sym c.from_parts.ensures) c.into_parts-unshared.ensures.runs

pub returns-clause-ends : goal.returns-clause-ends
returns-clause-ends g c = λ order.
    let from = start (frames_list g.N.Naming.frames) c.args.shared.page_size c.args.shared.slots in
    let parts = c.into_parts-unshared in
    subst (λ (m : Machine). HasEnded (g.row.K == 1) from c.args.shared.slots m parts.result.0.trails parts.result.1.sessions parts.result.1.seat.me.0)
    (sym c.from_parts.ensures) (parts.ensures.ends order)
