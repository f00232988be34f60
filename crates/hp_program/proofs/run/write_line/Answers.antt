use Rattle.std.proofs.Common.{◌≡◌, rules}
use Rattle.std.proofs.lemmas.Result.{err_from_is_err_and, IfErr-weaker}
use Rattle.hp_program.proofs.Said.{cut_first, cut_second, cut_third, cut_fourth}
use Rattle.hp_program.proofs.run.write_line.Goals as goal

pub returns-in_err-write_whole-clause-cut : goal.returns-in_err-write_whole-clause-cut
returns-in_err-write_whole-clause-cut g c =
    let p = err_from_is_err_and c.from_residual.result c.from_residual.ensures.1 in
    let cut = c.in_err-write_whole.ensures.cut in
    rw (p.1, p.2) (cut.0, cut_first (g.E.Write.contents c.args.faults.now) (g.E.Write.contents c.write_whole.new.writer) c.args.what.now c.args.of.now cut.1)

pub returns-in_err-write_whole-2-clause-cut : goal.returns-in_err-write_whole-2-clause-cut
returns-in_err-write_whole-2-clause-cut g c =
    let p = err_from_is_err_and c.from_residual-in_err-write_whole-2.result c.from_residual-in_err-write_whole-2.ensures.1 in
    let what : c.as_bytes.result.now ≡ c.args.what.now = search rules in
    rw (p.1, p.2) (
      c.in_err-write_whole-2.ensures.cut.0,
      cut_second (g.E.Write.contents c.args.faults.now) (g.E.Write.contents c.write_whole.new.writer) (g.E.Write.contents c.write_whole-2.new.writer) c.args.what.now c.args.of.now
          c.in_ok-write_whole.ensures.sent (rw what at c.in_err-write_whole-2.ensures.cut.1),
    )

pub returns-in_err-write_whole-3-clause-cut : goal.returns-in_err-write_whole-3-clause-cut
returns-in_err-write_whole-3-clause-cut g c =
    let p = err_from_is_err_and c.from_residual-in_err-write_whole-3.result c.from_residual-in_err-write_whole-3.ensures.1 in
    let what : c.as_bytes.result.now ≡ c.args.what.now = search rules in
    let of : c.as_bytes-2.result.now ≡ c.args.of.now = search rules in
    rw (p.1, p.2) (
      c.in_err-write_whole-3.ensures.cut.0,
      cut_third (g.E.Write.contents c.args.faults.now) (g.E.Write.contents c.write_whole.new.writer) (g.E.Write.contents c.write_whole-2.new.writer)
          (g.E.Write.contents c.write_whole-3.new.writer) c.args.what.now c.args.of.now
          c.in_ok-write_whole.ensures.sent (rw what at c.in_ok-write_whole-2.ensures.sent) (rw of at c.in_err-write_whole-3.ensures.cut.1),
    )

pub returns-clause-cut : goal.returns-clause-cut
returns-clause-cut g c =
    let what : c.as_bytes.result.now ≡ c.args.what.now = search rules in
    let of : c.as_bytes-2.result.now ≡ c.args.of.now = search rules in
    IfErr-weaker c.write_whole-4.result _ _ (λ e h. (
      h.0,
      cut_fourth (g.E.Write.contents c.args.faults.now) (g.E.Write.contents c.write_whole.new.writer) (g.E.Write.contents c.write_whole-2.new.writer)
          (g.E.Write.contents c.write_whole-3.new.writer) (g.E.Write.contents c.write_whole-4.new.writer) c.args.what.now c.args.of.now
          c.in_ok-write_whole.ensures.sent (rw what at c.in_ok-write_whole-2.ensures.sent) (rw of at c.in_ok-write_whole-3.ensures.sent) h.1,
    )) c.write_whole-4.ensures.cut
