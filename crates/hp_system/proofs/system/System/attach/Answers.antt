use Rattle.std.proofs.Common.{◌≡◌, sym, subst, ap, ◌∙◌}
use Rattle.hp_laws.proofs.Variants.{Attach}
use Rattle.hp_model.proofs.Words.{IsStep, Machine, State, home_of, told_reply}
use Rattle.hp_system.proofs.MachineSteps.{attach_found, attach_not_found}
use Rattle.hp_system.proofs.system.System.attach.Goals as goal
use Rattle.hp_system.proofs.system.System.attach.Goals.{in-Some, in-None}

pub returns-clause-step : goal.returns-clause-step
returns-clause-step g c =
    let s = c.args.self.now.state in
    let home : home_of s.table c.args.task ≡ c.home.result = ap (λ (x : State). home_of x.table c.args.task) (sym (ap (λ (x : Machine). x.state) c.self.view_is)) ∙ sym c.home.ensures in
    elim c.match-home.branch [
      | in-Some w ↦ subst (λ r. IsStep s (Attach c.args.task) (told_reply r) s) (sym w.result-is) (attach_found s c.args.task w.in-Some.home (home ∙ w.in-Some.is))
      | in-None w ↦ subst (λ r. IsStep s (Attach c.args.task) (told_reply r) s) (sym w.result-is) (attach_not_found s c.args.task (home ∙ w.in-None.is))
    ]
