use Rattle.std.proofs.Common.{◌<◌, Err, length, sym, ap, ◌∙◌, arith}
use Rattle.std.proofs.lemmas.List.{length-set}
use Rattle.hp_sessions.specs.Calls.{SessionView}
use Rattle.hp_sessions.proofs.Carrying.{grows_then}
use Rattle.hp_sessions.proofs.Forking.{next_slot, slot_refused, slot_stops}
use Rattle.hp_sessions.proofs.asking.Asking.fork_slots.Goals as goal

pub returns-then-has_no_place : goal.returns-then-has_no_place
returns-then-has_no_place g c =
    let many = c.count-at-end.ensures.count in
    let view = ap (λ (v : SessionView). v.slots) c.self.view_is in
    let test = c.loop-at-test.true in
    c.loop-at.invariant.left (Err c.in-Err.refusal) c.make_fork.new.self
    (slot_stops g.P.Parts.keeps g.P.Parts.page c.args.parent c.args.child c.loop-at.self c.make_fork.new.self c.loop-at.done c.loop-at.at c.args.self.now.slots c.in-Err.refusal
    (omega (arith, many, view, test)) (sym c.has_no_place.ensures ∙ c.if-has_no_place.true) c.in-Err.ensures.refused)

pub returns-in-Err : goal.returns-in-Err
returns-in-Err g c =
    let many = c.count-at-end.ensures.count in
    let view = ap (λ (v : SessionView). v.slots) c.self.view_is in
    let test = c.loop-at-test.true in
    c.loop-at.invariant.left (Err c.undo.result) c.undo.new.self
    (slot_refused g.P.Parts.keeps g.P.Parts.page c.args.parent c.args.child c.loop-at.self c.make_fork.new.self c.loop-at.done c.loop-at.at c.args.self.now.slots c.in-Err.refusal
    (omega (arith, many, view, test)) (sym c.has_no_place.ensures ∙ c.if-has_no_place.false) c.in-Err.ensures.refused (Err c.undo.result) c.undo.new.self c.undo.ensures)

pub loop-at-preserved : goal.loop-at-preserved
loop-at-preserved g c =
    let was = c.loop-at.invariant in
    let many = c.count-at-end.ensures.count in
    let few = c.count-at-end.ensures.few in
    let view = ap (λ (v : SessionView). v.slots) c.self.view_is in
    let test = c.loop-at-test.true in
    let long = was.long in
    let within : c.loop-at.at < length c.loop-at.done = omega (arith, few, test, long) in
    record {
      left = λ reply u rest. was.left reply u
          (next_slot g.P.Parts.keeps g.P.Parts.page c.args.parent c.args.child c.loop-at.self c.make_fork.new.self c.loop-at.done c.loop-at.at c.args.self.now.slots c.in-Ok.forked
          (omega (arith, many, view, test)) within c.in-Ok.ensures.made reply u rest);
      grows = grows_then c.loop-at.at 1 c.args.self.now c.loop-at.self c.make_fork.new.self was.grows c.make_fork.ensures.grows;
      long = length-set c.loop-at.done c.loop-at.at c.in-Ok.forked ∙ long;
    }
