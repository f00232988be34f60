use Rattle.std.proofs.Common.{map, inl, inr, refl, arith}
use Rattle.hp_words.specs.Config.{choice_of, chosen, usual}
use Rattle.hp_program.proofs.Runs.{answered_well, answered_as, ran_as}
use Rattle.hp_words.proofs.Usual.{few_serve_not, few_texts, no_words}
use Rattle.hp_program.proofs.Refused.{few_is_1, few_ask_no_text, not_taken, right_is_1, serves_is_1, told_as_asked}
use Rattle.hp_program.proofs.run.program.Goals as goal

pub returns-in-Ok-Script-clause-usual : goal.returns-in-Ok-Script-clause-usual
returns-in-Ok-Script-clause-usual g c few zero =
    let same = no_words (map g.S.AsStr.text c.args.words.now) (choice_of c.in-Ok-Script.machine) (few_texts _ _ few) (rw c.in-Ok-Script.field-0-is at c.in-Ok-Script.ensures.asked) in
    answered_as _ (chosen usual) (g.R.Read.remaining c.args.input.now) (g.W.Write.contents c.args.output.now) (g.W.Write.contents c.run_on-ended.new.output)
    same (answered_well _ (g.R.Read.remaining c.args.input.now) (g.W.Write.contents c.args.output.now) (g.W.Write.contents c.run_on-ended.new.output)
    c.run_on-ended.result c.report.result c.report.ensures.status c.run_on-ended.ensures.script zero)

pub returns-in-Ok-Script-clause-alone : goal.returns-in-Ok-Script-clause-alone
returns-in-Ok-Script-clause-alone g c few =
    let same = no_words (map g.S.AsStr.text c.args.words.now) (choice_of c.in-Ok-Script.machine) (few_texts _ _ few) (rw c.in-Ok-Script.field-0-is at c.in-Ok-Script.ensures.asked) in
    inl (c.run_on-ended.result, c.report.ensures.status, ran_as same c.run_on-ended.ensures.run)

pub returns-in-Ok-Serve-clause-usual : goal.returns-in-Ok-Serve-clause-usual
returns-in-Ok-Serve-clause-usual g c few zero = absurd (few_serve_not _ _ _ (few_texts g.S.AsStr.text c.args.words.now few) (rw c.in-Ok-Serve.field-0-is at c.in-Ok-Serve.ensures.asked))

pub returns-in-Ok-Serve-clause-alone : goal.returns-in-Ok-Serve-clause-alone
returns-in-Ok-Serve-clause-alone g c few = absurd (few_serve_not _ _ _ (few_texts g.S.AsStr.text c.args.words.now few) (rw c.in-Ok-Serve.field-0-is at c.in-Ok-Serve.ensures.asked))

pub returns-in-Err-clause-right : goal.returns-in-Err-clause-right
returns-in-Err-clause-right g c choice asked fits two =
    omega (arith, two, right_is_1 _ c.in-Err.wrong c.refuse.result choice c.in-Err.ensures.refused c.refuse.ensures.ends asked fits)

pub returns-in-Err-clause-serves : goal.returns-in-Err-clause-serves
returns-in-Err-clause-serves g c choice serving asked fits serves two =
    omega (arith, two, serves_is_1 _ c.in-Err.wrong c.refuse.result choice serving c.in-Err.ensures.refused c.refuse.ensures.ends asked fits serves)

pub returns-in-Err-clause-script : goal.returns-in-Err-clause-script
returns-in-Err-clause-script g c zero =
    let words = map g.S.AsStr.text c.args.words.now in
    let told = told_as_asked words c.in-Err.wrong _ c.in-Err.ensures.refused (c.refuse.ensures.told zero) in
    inl (
      refl,
      not_taken words c.in-Err.wrong c.refuse.result c.in-Err.ensures.refused c.refuse.ensures.ends zero,
      told.0,
      told.1,
      told.2,
    )

pub returns-in-Err-clause-usual : goal.returns-in-Err-clause-usual
returns-in-Err-clause-usual g c few zero =
    absurd (omega (arith, zero, few_is_1 _ c.in-Err.wrong c.refuse.result (few_texts g.S.AsStr.text c.args.words.now few) c.in-Err.ensures.refused c.refuse.ensures.ends))

pub returns-in-Err-clause-alone : goal.returns-in-Err-clause-alone
returns-in-Err-clause-alone g c few =
    let texts = few_texts g.S.AsStr.text c.args.words.now few in
    inr (
      few_is_1 _ c.in-Err.wrong c.refuse.result texts c.in-Err.ensures.refused c.refuse.ensures.ends,
      refl,
      c.refuse.ensures.quiet (few_ask_no_text _ c.in-Err.wrong texts c.in-Err.ensures.refused),
    )
