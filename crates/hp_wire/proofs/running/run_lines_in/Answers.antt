use Rattle.std.proofs.Common.{◌<◌, ◌-◌, ◌∙◌, ap, arith, drop, length, length-drop, length-take}
use Rattle.std.proofs.lemmas.Result.{err_from_is_err_and}
use Rattle.hp_wire.proofs.Endings.{finished}
use Rattle.hp_wire.proofs.Turns.{all_read, but_one, cut_short, few, gets_as, passed, turned}
use Rattle.hp_wire.proofs.running.run_lines_in.Goals as goal

pub returns-then-n-eq0-clause-served : goal.returns-then-n-eq0-clause-served
returns-then-n-eq0-clause-served g c =
    let i = c.loop.invariant in
    finished _ _ i.progress (gets_as c.bytes-bytes.ensures c.in_ok-n.ensures.got) c.if-n-eq0.true i.page i.limit c.finish.ensures.count c.finish.ensures.written c.finish.ensures.cut

pub returns-in_err-answer_chunk-clause-served : goal.returns-in_err-answer_chunk-clause-served
returns-in_err-answer_chunk-clause-served g c =
    let i = c.loop.invariant in
    let e = err_from_is_err_and c.from_residual-in_err-answer_chunk.result c.from_residual-in_err-answer_chunk.ensures.1 in
    let cut = c.in_err-answer_chunk.ensures.cut in
    let got = gets_as c.bytes-bytes.ensures c.in_ok-n.ensures.got in
    let some : 0 < c.in_ok-n.n = omega arith in
    rw (e.1, e.2, cut.0) (cut_short i.progress got (but_one got some) i.page cut.1)

pub returns-then-total-gt-MOST_INPUT_BYTES-clause-served : goal.returns-then-total-gt-MOST_INPUT_BYTES-clause-served
returns-then-total-gt-MOST_INPUT_BYTES-clause-served g c =
    let i = c.loop.invariant in
    let got = gets_as c.bytes-bytes.ensures c.in_ok-n.ensures.got in
    let some : 0 < c.in_ok-n.n = omega arith in
    let ran = passed 1073741824 i.progress got (but_one got some) i.page c.in_ok-answer_chunk.ensures.ran (omega (arith, c.in_ok-n.ensures.bound))
    (omega (arith, got.all, length-drop (c.in_ok-n.n - 1) got.bytes)) in
    (ran.0, ran.1, (ran.2, ran.3))

pub returns-in_err-left-clause-served : goal.returns-in_err-left-clause-served
returns-in_err-left-clause-served g c =
    let i = c.loop.invariant in
    let e = err_from_is_err_and c.from_residual-in_err-left.result c.from_residual-in_err-left.ensures.1 in
    let cut = c.in_err-left.ensures.cut in
    let got = gets_as c.bytes-bytes.ensures c.in_ok-n.ensures.got in
    rw (e.1, e.2, cut.0) (cut_short i.progress got (all_read got) i.page cut.1)

pub overflow_add-count : goal.overflow_add-count
overflow_add-count g c =
    let i = c.loop.invariant in
    let kept = rw (← c.bytes-bytes.ensures) at c.keep_last.ensures in
    let p = turned i.progress (gets_as c.bytes-bytes.ensures c.in_ok-n.ensures.got) i.page c.in_ok-left.ensures.ran c.in_ok-left.ensures.counts kept in
    omega (arith, few p)

pub loop-preserved : goal.loop-preserved
loop-preserved g c =
    let i = c.loop.invariant in
    let kept = rw (← c.bytes-bytes.ensures) at c.keep_last.ensures in
    let p = turned i.progress (gets_as c.bytes-bytes.ensures c.in_ok-n.ensures.got) i.page c.in_ok-left.ensures.ran c.in_ok-left.ensures.counts kept in
    record {
      progress = p;
      limit = omega arith;
      turns = omega arith;
      held = omega (arith, ap length kept, length-take 1025 (drop (length c.bytes-bytes.result.now - c.in_ok-left.left) c.bytes-bytes.result.now));
      few = few p;
      page = c.answer_chunk-in-loop.ensures.page ∙ i.page;
      ready = c.answer_chunk-in-loop.ensures.ready;
      none = c.in_ok-left.ensures.none;
      no_queue = c.in_ok-left.ensures.no_queue;
      reader = λ s. c.read.ensures.stays (i.reader s);
      writer = λ s. c.answer_chunk-in-loop.ensures.writer.1 (i.writer s);
      lent = c.answer_chunk-in-loop.ensures.writer.2 ∙ i.lent;
      reads_of = c.read.ensures.connection ∙ i.reads_of;
      writes_to = c.answer_chunk-in-loop.ensures.writer.3 ∙ i.writes_to;
    }
