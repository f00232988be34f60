use Rattle.std.proofs.Common.{◌≡◌, ◌+◌, ◌∷◌, ◌++◌, [], take, sym, subst, ap, ◌∙◌, arith}
use Rattle.std.proofs.lemmas.List.{take_more}
use Rattle.hp_model.proofs.Words.{IsPromisedRun, IsPromisedStep}
use Rattle.hp_laws.proofs.steps.Runs.{run_more}
use Rattle.hp_system.proofs.system.System.run.Goals as goal

pub loop-step-preserved : goal.loop-step-preserved
loop-step-preserved g c =
    let i = c.loop-step.step-index in
    let steps = c.args.steps.now in
    let step = c.step-item.result in
    let inv = c.loop-step.invariant in
    let taken : take i steps ++ step ∷ [] ≡ take (i + 1) steps = ap (λ x. take i steps ++ x ∷ []) c.step-item.is ∙ sym (take_more steps i step c.loop-step-test.true) in
    let run = run_more IsPromisedStep c.args.self.now.state c.loop-step.self.state c.apply-reply.new.self.state (take i steps)
    c.loop-step.replies.items step c.apply-reply.result inv.ran (
      c.apply-reply.ensures.step,
      c.apply-reply.ensures.promised,
      c.apply-reply.ensures.memory,
    ) in
    record {
      ran = subst (λ xs. IsPromisedRun c.args.self.now.state xs c.push_reserved.new.self.items c.apply-reply.new.self.state) taken
          (subst (λ rs. IsPromisedRun c.args.self.now.state (take i steps ++ step ∷ []) rs c.apply-reply.new.self.state) (sym c.push_reserved.ensures.items) run);
      ready = c.apply-reply.ensures.ready;
      size = c.apply-reply.ensures.size ∙ inv.size;
      filled = omega (arith, c.push_reserved.ensures.len, inv.filled);
      room = omega (arith, c.push_reserved.ensures.capacity, inv.room);
    }
