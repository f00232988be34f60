use Rattle.std.proofs.Common.{List, ℕ, sym, subst, arith}
use Rattle.std.proofs.lemmas.Fmt.{decimal_digit}
use Rattle.hp_text.specs.Output.{Adds}
use Rattle.hp_text.proofs.Columns.{length_digit}
use Rattle.hp_text.proofs.output.push_number.Goals as goal

pub returns-then-n-lt10-clause-adds : goal.returns-then-n-lt10-clause-adds
returns-then-n-lt10-clause-adds c =
    subst (λ (digits : List ℕ). Adds c.args.out.now c.push_byte.new.out digits) (sym (decimal_digit c.args.n c.if-n-lt10.true)) c.push_byte.ensures

pub returns-then-n-lt10-clause-short : goal.returns-then-n-lt10-clause-short
returns-then-n-lt10-clause-short c = omega (arith, length_digit c.args.n c.if-n-lt10.true)
