use Rattle.std.proofs.Common.{List, sym, ap}
use Rattle.hp_entrance.specs.Members.{MemberView, told_at}
use Rattle.hp_entrance.proofs.Handed.{told_before}
use Rattle.hp_entrance.proofs.Following.{run_as, run_handed}
use Rattle.hp_history.specs.declared.held.Held.{Held}
use Rattle.hp_history.specs.History.{receipts_in}
use Rattle.hp_shared.specs.Runs.{faults_of, seated_mount}
use Rattle.hp_entrance.proofs.member.Member.fault_run.Goals as goal

pub returns-clause-done : goal.returns-clause-done
returns-clause-done g c =
    let v : List Held = c.into_seat-mine.result.me.0 in
    let w : List Held = c.fault_run-mine.result.0.me.0 in
    let size = g.N.Naming.page_bytes in
    let slot = c.args.slot.now in
    let access = c.args.access.now in
    let f = faults_of slot.slot.number access c.args.intent in
    run_as size slot.slot.number f access.index c.fault_run-mine.result.1 c.args.self.now.receipts (receipts_in v) (told_at c.into_badge.result.views) (receipts_in w)
    (told_before c.args.self.now c.self.inside.seat.views c.replace.result.views v (sym (ap (λ (m : MemberView). m.receipts) c.self.view_is))
    (ap (λ b. b.views) c.replace.ensures.value) c.into_seat-mine.ensures.2) (ap told_at c.into_badge.ensures.2)
    (run_handed size f access.index c.fault_run-mine.result.1 (seated_mount slot v) (seated_mount c.fault_run-mine.new.self w) c.fault_run-mine.ensures.done)
