use Rattle.std.proofs.Common.{sym, subst}
use Rattle.hp_events.specs.declared.work.Work.TheVariants.{Attach}
use Rattle.hp_laws.proofs.Variants.{Find, Tasks as OnTasks}
use Rattle.hp_model.proofs.Words.{Reply}
use Rattle.hp_events.specs.Replies.{table_reply}
use Rattle.hp_sessions.specs.Works.{IsWorked}
use Rattle.hp_sessions.proofs.Carrying.{only_made}
use Rattle.hp_sessions.proofs.Working.{worked}
use Rattle.hp_sessions.proofs.asking.Asking.attach.Goals as goal

pub returns-clause-worked : goal.returns-clause-worked
returns-clause-worked g c =
    let size = g.P.Parts.page in
    let s = c.args.self.now in
    let t = c.make_table.new.self in
    subst (λ (r : Reply). IsWorked g.P.Parts.keeps size s (Attach c.args.task) r t) (sym c.table_told.ensures.reply)
    (worked g.P.Parts.keeps size s t (Attach c.args.task) (table_reply c.make_table.result) c.if-lacks.ensures
    (only_made g.P.Parts.keeps size s t (OnTasks (Find c.args.task)) (table_reply c.make_table.result) c.make_table.ensures.made))
