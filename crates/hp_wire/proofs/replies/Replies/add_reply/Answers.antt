use Rattle.std.proofs.Common.{◌≡◌, ◌∙◌, length, nat_le, false, true, arith, ap, sym, cond, Ok, Err}
use Rattle.std.proofs.lemmas.Bool.Decides.{nat_tests}
use Rattle.hp_model.specs.declared.refusal.Refusal.TheVariants.{LineTooLong}
use Rattle.hp_model.proofs.Words.{Line, ended, step_of, step_of_bytes}
use Rattle.hp_wire.proofs.Added.{not_read}
use Rattle.hp_wire.proofs.replies.Replies.add_reply.Goals as goal

pub returns-then-line-gt-MOST_LINE_BYTES-clause-answered : goal.returns-then-line-gt-MOST_LINE_BYTES-clause-answered
returns-then-line-gt-MOST_LINE_BYTES-clause-answered g c =
    let line = c.args.line.now in
    let long : nat_le (length line) 1024 ≡ false = grind (arith, nat_tests) in
    let same : step_of (ended line) ≡ Err LineTooLong = ap (λ b. step_of (cond {A = Line} b (Ok line) (Err LineTooLong))) long in
    not_read LineTooLong (sym same) c.add_refusal.ensures.text c.add_refusal.ensures.page

pub returns-in-Err-clause-answered : goal.returns-in-Err-clause-answered
returns-in-Err-clause-answered g c =
    let line = c.args.line.now in
    let short : nat_le (length line) 1024 ≡ true = grind (arith, nat_tests) in
    let same : step_of (ended line) ≡ step_of_bytes line = ap (λ b. step_of (cond {A = Line} b (Ok line) (Err LineTooLong))) short in
    rw same (not_read c.in-Err.refusal (sym c.in-Err.ensures) c.add_refusal-in-Err.ensures.text c.add_refusal-in-Err.ensures.page)

pub returns-in-Err-loading-clause-answered : goal.returns-in-Err-loading-clause-answered
returns-in-Err-loading-clause-answered g c =
    let line = c.args.line.now in
    let short : nat_le (length line) 1024 ≡ true = grind (arith, nat_tests) in
    let same : step_of (ended line) ≡ step_of_bytes line = ap (λ b. step_of (cond {A = Line} b (Ok line) (Err LineTooLong))) short in
    let kind = rw c.in-Ok-Load.field-0-is at c.in-Ok-Load.ensures in
    rw same (not_read c.in-Err-loading.refusal (c.in-Err-loading.ensures ∙ sym kind) c.add_refusal-in-Err-loading.ensures.text c.add_refusal-in-Err-loading.ensures.page)

pub returns-in-Err-storing-clause-answered : goal.returns-in-Err-storing-clause-answered
returns-in-Err-storing-clause-answered g c =
    let line = c.args.line.now in
    let short : nat_le (length line) 1024 ≡ true = grind (arith, nat_tests) in
    let same : step_of (ended line) ≡ step_of_bytes line = ap (λ b. step_of (cond {A = Line} b (Ok line) (Err LineTooLong))) short in
    let kind = rw c.in-Ok-Store.field-0-is at c.in-Ok-Store.ensures in
    rw same (not_read c.in-Err-storing.refusal (c.in-Err-storing.ensures ∙ sym kind) c.add_refusal-in-Err-storing.ensures.text c.add_refusal-in-Err-storing.ensures.page)
