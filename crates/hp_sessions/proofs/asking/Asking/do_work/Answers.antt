use Rattle.std.proofs.Common.{ap, ◌∙◌, arith}
use Rattle.hp_laws.proofs.Variants.{Add, Tasks as OnTasks}
use Rattle.hp_model.proofs.Words.{told_reply}
use Rattle.hp_sessions.specs.Calls.{HasReceiptRoom}
use Rattle.hp_events.specs.Works.{work_receipts}
use Rattle.hp_events.specs.declared.work.Work.TheVariants.{Connect}
use Rattle.hp_sessions.proofs.Carrying.{only_made}
use Rattle.hp_sessions.proofs.Working.{worked}
use Rattle.hp_sessions.proofs.asking.Asking.do_work.Goals as goal

pub returns-in-Connect-clause-worked : goal.returns-in-Connect-clause-worked
returns-in-Connect-clause-worked g c =
    let n = c.most_receipts.ensures ∙ ap (work_receipts c.count.result) c.in-Connect.is in
    let room : HasReceiptRoom g.P.Parts.keeps 1 c.args.self.now = λ k. omega (arith, c.if-lacks.ensures k, n) in
    let e = OnTasks (Add c.in-Connect.task c.in-Connect.home) in
    rw c.in-Connect.is (worked _ _ _ _ (Connect c.in-Connect.task c.in-Connect.home) (told_reply c.table_told.result) room
    (only_made g.P.Parts.keeps g.P.Parts.page _ _ e (told_reply c.table_told.result) (rw c.table_told.ensures.reply c.make_table.ensures.made)))
