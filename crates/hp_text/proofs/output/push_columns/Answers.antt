use Rattle.std.proofs.Common.{List, ℕ, subst, arith}
use Rattle.std.proofs.lemmas.Fmt.{length-decimal-le}
use Rattle.hp_text.specs.Output.{Adds}
use Rattle.hp_text.proofs.Columns.{columns_are, wide_is}
use Rattle.hp_text.proofs.output.push_columns.Goals as goal

pub returns-then-n-gt-MOST_IN_COLUMNS-clause-adds : goal.returns-then-n-gt-MOST_IN_COLUMNS-clause-adds
returns-then-n-gt-MOST_IN_COLUMNS-clause-adds c =
    subst (λ (xs : List ℕ). Adds c.args.out.now c.push_number.new.out xs) (wide_is c.args.n c.if-n-gt-MOST_IN_COLUMNS.true c.ranges.n.fits) c.push_number.ensures.adds

pub write_digits-requires : goal.write_digits-requires
write_digits-requires c = (length-decimal-le 8 c.args.n (omega arith) (omega arith) c.ranges.n.fits, omega arith)

pub returns-clause-adds : goal.returns-clause-adds
returns-clause-adds c =
    let w = c.write_digits in
    subst (λ (xs : List ℕ). Adds c.args.out.now c.push.new.out xs)
    (columns_are w.result c.args.n w.new.buf w.ensures.start w.ensures.written w.ensures.before) c.push.ensures
