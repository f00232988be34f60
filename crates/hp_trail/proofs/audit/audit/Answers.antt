use Rattle.std.proofs.Common.{subst, MatchOption}
use Rattle.hp_laws.proofs.settled.JoinedRun.{joined_law}
use Rattle.hp_model.proofs.Words.{Differ, Trails}
use Rattle.hp_trail.specs.Walk.{JoinsBy, lists, trails_of}
use Rattle.hp_trail.proofs.Exact.{joined_differ_not}
use Rattle.hp_trail.proofs.audit.audit.Goals as goal

pub returns-in-Ok : goal.returns-in-Ok
returns-in-Ok c =
    let t : Trails = trails_of c.args.tasks.now c.args.slots.now c.args.pool.now in
    let some = subst (λ o. MatchOption o (Differ t (lists c.deref.result.now)) (λ order. JoinsBy t (lists c.deref.result.now) order.items)) c.in-Ok-Some.field-0-is c.in-Ok-Some.ensures in
    let joined : JoinsBy t (lists c.args.receipts.items) c.in-Ok-Some.order.items = subst (λ rs. JoinsBy t (lists rs) c.in-Ok-Some.order.items) c.deref.ensures.value some in
    record {
      items = joined.0;
      joins = joined.1;
      answered = c.in-Ok.ensures joined.0 joined.1.told joined.2;
      run = λ s table ends numbers settled runs. joined_law s t joined.0 table ends numbers settled runs joined.1.order;
    }

pub returns-in-Ok-None : goal.returns-in-Ok-None
returns-in-Ok-None c =
    let t : Trails = trails_of c.args.tasks.now c.args.slots.now c.args.pool.now in
    let none = subst (λ o. MatchOption o (Differ t (lists c.deref.result.now)) (λ order. JoinsBy t (lists c.deref.result.now) order.items)) c.in-Ok-None.field-0-is c.in-Ok-None.ensures in
    let differ : Differ t (lists c.args.receipts.items) = subst (λ rs. Differ t (lists rs)) c.deref.ensures.value none in
    record { differ = differ; none = λ items joins. joined_differ_not t (lists c.args.receipts.items) items joins differ }
