use Rattle.std.proofs.Common.{◌≡◌, ◌∙◌, ap, sym, rules, true, false, option_map}
use Rattle.hp_program.proofs.Said.{not_shown, shown}
use Rattle.hp_program.proofs.run.refuse.Goals as goal

pub returns-in-Ok : goal.returns-in-Ok
returns-in-Ok g c =
    let text : c.as_bytes.result.now ≡ c.in-Some.text.now = search rules in
    rw c.in-Parse.is (shown g.W.Write.contents g.W.Sink.is_sure c.args.output.now c.write_whole.new.writer (g.E.Sink.is_sure c.args.faults.now) (g.E.Write.contents c.args.faults.now)
    c.in-Parse.error c.in-Some.text.now (sym c.text_asked.ensures ∙ ap (option_map (λ s. s.now)) c.in-Some.is) (rw text at c.in-Ok.ensures.sent))

pub returns-in-Err : goal.returns-in-Err
returns-in-Err g c =
    let text : c.as_bytes.result.now ≡ c.in-Some.text.now = search rules in
    let cut = c.in-Err.ensures.cut in
    rw (c.in-Parse.is, c.report-in-Err.ensures.status) (not_shown g.W.Write.contents g.W.Sink.is_sure c.args.output.now c.write_whole.new.writer
    (g.E.Sink.is_sure c.args.faults.now) (g.E.Write.contents c.args.faults.now)
    (g.E.Write.contents c.report-in-Err.new.faults) c.in-Parse.error c.in-Some.text.now (sym c.text_asked.ensures ∙ ap (option_map (λ s. s.now)) c.in-Some.is) (rw text at cut.1)
    (λ s. (let never : false ≡ true = c.in-Err.ensures.sure s in cc)) (rw cut.0 at c.report-in-Err.ensures.says))
