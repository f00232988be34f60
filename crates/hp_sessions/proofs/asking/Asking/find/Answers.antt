use Rattle.std.proofs.Common.{IfErr, IfOk, Err, Ok, ℕ, subst, sym}
use Rattle.hp_laws.proofs.Variants.{Find, Home, Tasks as OnTasks}
use Rattle.hp_model.proofs.Words.{Script, finding}
use Rattle.hp_sessions.specs.Calls.{Carries, Leads, SessionView}
use Rattle.hp_sessions.proofs.Carrying.{found, made_by, not_found}
use Rattle.hp_sessions.proofs.asking.Asking.find.Goals as goal
use Rattle.hp_sessions.proofs.asking.Asking.find.Goals.{in-Home, in-Refused}

pub returns-clause-found : goal.returns-clause-found
returns-clause-found g c =
    let keeps = g.P.Parts.keeps in
    let page = g.P.Parts.page in
    let s = c.args.self.now in
    let told = c.table in
    let parts = told.new.self in
    let t : SessionView = record { slots = g.P.Parts.slots parts; receipts = g.P.Parts.told parts; room = g.P.Parts.places parts; clock = g.P.Parts.clock parts } in
    elim c.match-table.branch [
      | in-Home w ↦ subst (λ r. IfOk r (λ home. (f : ℕ → Script) → Leads keeps page s (finding c.args.task f) t (f home))) (sym w.result-is)
          (found keeps page s t c.args.task w.in-Home.home
          (made_by s t c.self.view_is told.ensures.slots told.ensures.places told.ensures.clock keeps page (OnTasks (Find c.args.task)) (Ok (Home w.in-Home.home)) w.in-Home.ensures.handed))
      | in-Refused w ↦ subst (λ r. IfOk r (λ home. (f : ℕ → Script) → Leads keeps page s (finding c.args.task f) t (f home))) (sym w.result-is) tt
    ]

pub returns-clause-refused : goal.returns-clause-refused
returns-clause-refused g c =
    let keeps = g.P.Parts.keeps in
    let page = g.P.Parts.page in
    let s = c.args.self.now in
    let told = c.table in
    let parts = told.new.self in
    let t : SessionView = record { slots = g.P.Parts.slots parts; receipts = g.P.Parts.told parts; room = g.P.Parts.places parts; clock = g.P.Parts.clock parts } in
    elim c.match-table.branch [
      | in-Home w ↦ subst (λ r. IfErr r (λ refusal. (f : ℕ → Script) → Carries keeps page s (finding c.args.task f) (Err refusal) t)) (sym w.result-is) tt
      | in-Refused w ↦ subst (λ r. IfErr r (λ refusal. (f : ℕ → Script) → Carries keeps page s (finding c.args.task f) (Err refusal) t)) (sym w.result-is)
          (not_found keeps page s t c.args.task w.in-Refused.refusal
          (made_by s t c.self.view_is told.ensures.slots told.ensures.places told.ensures.clock keeps page (OnTasks (Find c.args.task)) (Err w.in-Refused.refusal) w.in-Refused.ensures.handed))
    ]
