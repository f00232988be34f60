use Rattle.std.proofs.Common.{refl, arith, ◌<◌, ◌^◌}
use Rattle.hp_marks.proofs.Cleared.{clear_begun, clear_done, clear_all}
use Rattle.hp_marks.proofs.Range.{set_rest}
use Rattle.hp_marks.proofs.marks.clear_marks.Goals as goal

pub loop-at-init : goal.loop-at-init
loop-at-init c = record { done = clear_begun c.args.words.now c.args.words.now c.args.a c.args.b; rest = λ k from. refl }

pub loop-at-preserved : goal.loop-at-preserved
loop-at-preserved c =
    let words = c.loop-at.words in
    let small : c.bits_within.result < 2 ^ 64 = omega arith in
    record {
      done = clear_done words c.args.words.now c.args.a c.args.b c.loop-at.at c.bits_within.result (omega arith) small c.bits_within.ensures c.loop-at.invariant.done c.loop-at.invariant.rest;
      rest = set_rest words c.args.words.now c.loop-at.at _ (omega arith) c.loop-at.invariant.rest;
    }

pub returns : goal.returns
returns c = clear_all c.loop-at.words c.args.words.now c.args.a c.args.b c.loop-at.at (omega arith) c.loop-at.invariant.done c.loop-at.invariant.rest
