use Rattle.std.proofs.Common.{◌∙◌, arith, rules}
use Rattle.hp_text.proofs.Digits.{number_step, number_stop, number_end, number_from}
use Rattle.hp_text.proofs.numbers.number_of.Goals as goal

pub loop-b-preserved : goal.loop-b-preserved
loop-b-preserved c =
    let h = c.in_ok-value.ensures in
    record {
      so_far = number_step c.args.digits.now c.loop-b.value c.loop-b.b-index c.in_ok-value.value (number_from 0 c.args.digits.now) c.loop-b-test.true c.loop-b.invariant.so_far h.0 h.1;
      fits = h.2;
    }

pub returns-in_err-value : goal.returns-in_err-value
returns-in_err-value c =
    c.from_residual.ensures
    ∙ number_stop c.args.digits.now c.loop-b.value c.loop-b.b-index c.loop-b-test.true c.loop-b.invariant.so_far c.in_err-value.ensures (search rules) (omega arith)

pub returns : goal.returns
returns c = number_end c.args.digits.now c.loop-b.value c.loop-b.b-index c.loop-b-test.false c.loop-b.invariant.fits c.loop-b.invariant.so_far (search rules) (omega arith)
