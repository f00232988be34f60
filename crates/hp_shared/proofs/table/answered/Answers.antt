use Rattle.std.proofs.Common.{ap, ◌∙◌}
use Rattle.hp_model.proofs.Words.{table_event}
use Rattle.hp_shared.proofs.table.answered.Goals as goal

pub returns-in-FindAndAdd-clause-event : goal.returns-in-FindAndAdd-clause-event
returns-in-FindAndAdd-clause-event c = ap (table_event c.args.nodes c.args.tasks.now) c.in-FindAndAdd.is ∙ c.add_child.ensures.event c.args.nodes

pub returns-in-Remove-clause-event : goal.returns-in-Remove-clause-event
returns-in-Remove-clause-event c = ap (table_event c.args.nodes c.args.tasks.now) c.in-Remove.is ∙ c.remove.ensures.event c.args.nodes
