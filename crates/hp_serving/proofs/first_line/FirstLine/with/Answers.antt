use Rattle.std.proofs.Common.{◌+◌, ◌∙◌, ◌++◌, Contains, take, drop, get_or, arith, ap, subst, inl, inr}
use Rattle.std.proofs.lemmas.List.{take_all, take_more}
use Rattle.std.proofs.lemmas.List.Elements.{Contains-push_cases}
use Rattle.hp_serving.specs.FirstLine.{IsKnown, is_foreign_from}
use Rattle.hp_serving.proofs.Tails.{next_byte}
use Rattle.hp_serving.proofs.first_line.FirstLine.with.Goals as goal

pub loop-byte-preserved : goal.loop-byte-preserved
loop-byte-preserved c =
    let bytes = c.args.bytes.now in
    let i = c.loop-byte.byte-index in
    let more = take_more bytes i 0 c.loop-byte-test.true in (
      λ input. (c.after-line.ensures.same (drop (i + 1) bytes ++ input) ∙ ap (is_foreign_from c.loop-byte.line) (next_byte bytes i input c.loop-byte-test.true) ∙ c.loop-byte.invariant.0 input),
      λ known. c.after-line.ensures.known (c.loop-byte.invariant.1 known),
      λ has. elim (Contains-push_cases (take i bytes) (get_or bytes i 0) 10 (subst (λ xs. Contains xs 10) more has)) as (λ _. IsKnown c.after-line.result)
          [ inl before ↦ c.after-line.ensures.known (c.loop-byte.invariant.2 before) | inr is ↦ c.after-line.ensures.ended is ],
    )

pub returns-clause-ended : goal.returns-clause-ended
returns-clause-ended c =
    let bytes = c.args.bytes.now in
    let all = take_all c.loop-byte.byte-index bytes (omega (arith, c.loop-byte-test.false)) in
    λ has. c.loop-byte.invariant.2 (rw all has)
