use Rattle.std.proofs.Common.{◌==◌, ap, ◌∙◌, subst}
use Rattle.hp_laws.proofs.Variants.{Tasks as OnTasks}
use Rattle.hp_events.specs.Answered.{IsHanded}
use Rattle.hp_events.specs.Replies.{table_reply}
use Rattle.hp_entrance.specs.Members.{EntranceView}
use Rattle.hp_entrance.proofs.asking.EntranceParts.table.Goals as goal

pub returns-clause-handed : goal.returns-clause-handed
returns-clause-handed g c =
    let size = g.N.Naming.page_bytes in
    subst (λ rs. IsHanded (g.row.K == 1) size (OnTasks c.args.event) (table_reply c.table-told.result) rs c.table-told.new.self.receipts)
    (c.in_default.ensures.none ∙ ap (λ (v : EntranceView). v.receipts) c.self.view_is) (c.table-told.ensures.handed size)
