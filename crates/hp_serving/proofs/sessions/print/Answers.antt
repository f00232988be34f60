use Rattle.std.proofs.Common.{◌≡◌, rules}
use Rattle.std.proofs.lemmas.Result.{err_from_is_err_and}
use Rattle.hp_model.proofs.Words.{meminfo_text}
use Rattle.hp_serving.specs.Ended.{text_of_audit}
use Rattle.hp_serving.proofs.Printed.{cut_first, cut_second, sent_second}
use Rattle.hp_serving.proofs.sessions.print.Goals as goal

pub returns-in_err-write_whole-clause-cut : goal.returns-in_err-write_whole-clause-cut
returns-in_err-write_whole-clause-cut g c =
    let p = err_from_is_err_and c.from_residual.result c.from_residual.ensures.1 in
    let line : c.as_bytes.result.now ≡ text_of_audit c.args.closed.audit = search rules in
    rw (p.1, p.2) (cut_first (g.W.Write.contents c.args.output.now) (g.W.Write.contents c.write_whole.new.writer) (text_of_audit c.args.closed.audit)
    (meminfo_text c.args.closed.page c.args.closed.counts) _ (rw line at c.in_err-write_whole.ensures.cut))

pub returns-clause-sent : goal.returns-clause-sent
returns-clause-sent g c =
    let line : c.as_bytes.result.now ≡ text_of_audit c.args.closed.audit = search rules in
    let text : c.as_slice.result.now ≡ meminfo_text c.args.closed.page c.args.closed.counts = search rules in
    sent_second (g.W.Write.contents c.args.output.now) (g.W.Write.contents c.write_whole.new.writer) (g.W.Write.contents c.write_whole-2.new.writer) (text_of_audit c.args.closed.audit)
    (meminfo_text c.args.closed.page c.args.closed.counts) c.write_whole-2.result (rw line at c.in_ok-write_whole.ensures.sent) (rw text at c.write_whole-2.ensures.sent)

pub returns-clause-cut : goal.returns-clause-cut
returns-clause-cut g c =
    let line : c.as_bytes.result.now ≡ text_of_audit c.args.closed.audit = search rules in
    let text : c.as_slice.result.now ≡ meminfo_text c.args.closed.page c.args.closed.counts = search rules in
    cut_second (g.W.Write.contents c.args.output.now) (g.W.Write.contents c.write_whole.new.writer) (g.W.Write.contents c.write_whole-2.new.writer) (text_of_audit c.args.closed.audit)
    (meminfo_text c.args.closed.page c.args.closed.counts) c.write_whole-2.result (rw line at c.in_ok-write_whole.ensures.sent) (rw text at c.write_whole-2.ensures.cut)
