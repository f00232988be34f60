use Rattle.hp_events.specs.declared.work.Work.TheVariants.{Pool}
use Rattle.hp_laws.proofs.Variants.{Pool as OnPool}
use Rattle.hp_model.proofs.Words.{told_reply}
use Rattle.hp_sessions.proofs.Carrying.{only_made}
use Rattle.hp_sessions.proofs.Working.{worked}
use Rattle.hp_sessions.proofs.asking.Asking.of_pool.Goals as goal

pub returns-clause-worked : goal.returns-clause-worked
returns-clause-worked g c =
    let size = g.P.Parts.page in
    let s = c.args.self.now in
    let t = c.make_pool.new.self in
    worked g.P.Parts.keeps size s t (Pool c.args.event) (told_reply c.make_pool.result) c.if-lacks.ensures
    (only_made g.P.Parts.keeps size s t (OnPool c.args.event) (told_reply c.make_pool.result) c.make_pool.ensures.made)
