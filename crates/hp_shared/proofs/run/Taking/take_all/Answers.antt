use Rattle.std.proofs.Common.{◌≡◌, ◌+◌, ap, sym, subst, ◌∙◌, length, arith}
use Rattle.hp_subpool.specs.Subpool.{Subpool, with_pages}
use Rattle.hp_shared.specs.Runs.{HasEntered, RunView}
use Rattle.hp_shared.proofs.Entered.{no_pages_more, none_took, one_counted, page_more, took_more}
use Rattle.hp_shared.proofs.run.Taking.take_all.Goals as goal
use Rattle.hp_shared.proofs.run.Taking.take_all.Goals.{then-is_full-via-then-is_full, then-is_full-via-else-is_full+then-not-step}

pub loop-done-init : goal.loop-done-init
loop-done-init g c = record { entered = none_took c.args.self.now c.requires.none; counted = ap length c.requires.none; share = no_pages_more c.args.share.now }

pub step-requires : goal.step-requires
step-requires g c =
    let held = ap (λ (s : Subpool). s.held) c.loop-done.invariant.share in
    let room = sym (ap (λ (d : RunView). d.is_full) c.self.view_is) ∙ (sym c.is_full.ensures ∙ c.if-is_full.false) in
    (omega arith, (omega arith, (room, omega (arith, held, c.loop-done-test.true, c.requires.held))))

pub returns-then-is_full-clause-took : goal.returns-then-is_full-clause-took
returns-then-is_full-clause-took g c =
    let self_is : c.then-is_full.self ≡ c.loop-done.self = elim c.then-is_full.branch as (λ _. c.then-is_full.self ≡ c.loop-done.self) [
      | then-is_full-via-then-is_full w ↦ w.self-is
      | then-is_full-via-else-is_full+then-not-step w ↦ w.self-is ∙ w.step.ensures.same w.if-not-step.true
    ] in
    subst (λ (x : RunView). HasEntered c.args.self.now x.waiting x) (sym self_is) c.loop-done.invariant.entered

pub returns-then-is_full-clause-few : goal.returns-then-is_full-clause-few
returns-then-is_full-clause-few g c =
    let self_is : c.then-is_full.self ≡ c.loop-done.self = elim c.then-is_full.branch as (λ _. c.then-is_full.self ≡ c.loop-done.self) [
      | then-is_full-via-then-is_full w ↦ w.self-is
      | then-is_full-via-else-is_full+then-not-step w ↦ w.self-is ∙ w.step.ensures.same w.if-not-step.true
    ] in
    let long = ap (λ (x : RunView). length x.waiting) self_is in
    omega (arith, long, c.loop-done.invariant.counted, c.loop-done-test.true)

pub returns-then-is_full-clause-share : goal.returns-then-is_full-clause-share
returns-then-is_full-clause-share g c =
    let self_is : c.then-is_full.self ≡ c.loop-done.self = elim c.then-is_full.branch as (λ _. c.then-is_full.self ≡ c.loop-done.self) [
      | then-is_full-via-then-is_full w ↦ w.self-is
      | then-is_full-via-else-is_full+then-not-step w ↦ w.self-is ∙ w.step.ensures.same w.if-not-step.true
    ] in
    let share_is : c.then-is_full.share ≡ c.loop-done.share = elim c.then-is_full.branch as (λ _. c.then-is_full.share ≡ c.loop-done.share) [
      | then-is_full-via-then-is_full w ↦ w.share-is
      | then-is_full-via-else-is_full+then-not-step w ↦ w.share-is ∙ w.step.ensures.unchanged w.if-not-step.true
    ] in
    let was = c.loop-done.invariant in
    share_is ∙ (was.share ∙ ap (λ n. with_pages n c.args.share.now) (sym was.counted ∙ sym (ap (λ (x : RunView). length x.waiting) self_is)))

pub loop-done-preserved : goal.loop-done-preserved
loop-done-preserved g c =
    let was = c.loop-done.invariant in
    let more = c.step.ensures.taken c.if-not-step.false in
    record {
      entered = took_more c.args.self.now c.loop-done.self c.step.new.self c.loop-done.done was.entered was.counted more;
      counted = one_counted (c.loop-done.self.index + c.loop-done.done) c.loop-done.done c.loop-done.self c.step.new.self was.counted more;
      share = page_more c.loop-done.done c.args.share.now c.loop-done.share c.step.new.share was.share (c.step.ensures.share c.if-not-step.false);
    }

pub returns-clause-took : goal.returns-clause-took
returns-clause-took g c = c.loop-done.invariant.entered

pub returns-clause-few : goal.returns-clause-few
returns-clause-few g c = omega (arith, c.loop-done.invariant.counted, c.loop-done-test.false, c.loop-done.auto.done-end)

pub returns-clause-share : goal.returns-clause-share
returns-clause-share g c = (let was = c.loop-done.invariant in was.share ∙ ap (λ n. with_pages n c.args.share.now) (sym was.counted))
