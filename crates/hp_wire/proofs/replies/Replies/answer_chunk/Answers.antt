use Rattle.std.proofs.Common.{arith, refl, sym, ◌∙◌, ◌≡◌, [], ◌++◌, ◌∷◌, ap, length, length-append, subst, append_assoc, List}
use Rattle.std.proofs.lemmas.Result.{err_from_is_err_and}
use Rattle.hp_model.proofs.Words.{Line, QueuedView, ended, ended_lines, pieces}
use Rattle.hp_wire.specs.Queues.{AreRead}
use Rattle.hp_wire.proofs.Known.{answered_none, answered_then, ran_part, ran_sent, ran_unsent}
use Rattle.hp_wire.proofs.LineCuts.{none_off, one_off}
use Rattle.hp_wire.proofs.Together.{all_alone, all_together, part_later, part_longer}
use Rattle.hp_wire.proofs.replies.Replies.answer_chunk.Goals as goal

pub loop-after-init : goal.loop-after-init
loop-after-init g c = (
  [],
  [],
  record {
    answered = answered_none;
    read = subst (λ (qs : List QueuedView). AreRead [] qs) (sym c.requires.no_queue) tt;
    cut = none_off c.args.chunk.now;
    count = refl;
    few = omega arith;
    places = (let none = ap length c.requires.no_queue in omega (arith, none));
    alone = λ _. c.requires.no_queue;
    ready = c.requires.ready;
    page = refl;
    sure = λ s. s;
    lent = refl;
    connection = refl;
  },
)

pub loop-after-preserved : goal.loop-after-preserved
loop-after-preserved g c =
    let i = c.loop-after.invariant in
    let done = i.0 in
    let waiting = i.1 in
    let line = c.first_long_piece.result.0.now in
    let next = c.in-Some.after.now in
    let cut : pieces c.loop-after.rest.now ≡ line ∷ pieces next = rw c.in-Some.is at c.first_long_piece.ensures.pieces in
    let whole : c.loop-after.rest.now ≡ line ++ 10 ∷ next = rw c.in-Some.is at c.first_long_piece.ensures.whole in
    let more = c.in_ok-take_line-in-Some.ensures.taken waiting i.2.read in
    let same : (done ++ waiting) ++ ended line ∷ [] ≡ (done ++ more.done) ++ more.others =
    append_assoc done waiting (ended line ∷ []) ∙ ap (λ (ls : List Line). done ++ ls) more.all ∙ sym (append_assoc done more.done more.others) in (
      done ++ more.done,
      more.others,
      record {
        answered = answered_then i.2.answered (rw i.2.page at more.answered);
        read = more.read;
        cut = rw same at (one_off line next i.2.cut cut whole);
        count = (let one = length-append (done ++ waiting) (ended line ∷ []) in let before = i.2.count in let all = ap length same in omega (arith, one, before, all));
        few = omega (arith, i.2.few, ap length whole, length-append line (10 ∷ next));
        places = c.in_ok-take_line-in-Some.ensures.few;
        alone = c.in_ok-take_line-in-Some.ensures.alone;
        ready = c.take_line.ensures.ready;
        page = c.take_line.ensures.page ∙ i.2.page;
        sure = λ s. c.take_line.ensures.writer.1 (i.2.sure s);
        lent = c.take_line.ensures.writer.2 ∙ i.2.lent;
        connection = c.take_line.ensures.writer.3 ∙ i.2.connection;
      },
    )

pub returns-in_err-take_line-in-Some-clause-cut : goal.returns-in_err-take_line-in-Some-clause-cut
returns-in_err-take_line-in-Some-clause-cut g c =
    let p = err_from_is_err_and c.from_residual.result c.from_residual.ensures.1 in
    let i = c.loop-after.invariant in
    let done = i.0 in
    let waiting = i.1 in
    let line = c.first_long_piece.result.0.now in
    let next = c.in-Some.after.now in
    let cut : pieces c.loop-after.rest.now ≡ line ∷ pieces next = rw c.in-Some.is at c.first_long_piece.ensures.pieces in
    let whole : c.loop-after.rest.now ≡ line ++ 10 ∷ next = rw c.in-Some.is at c.first_long_piece.ensures.whole in
    let part = c.in_err-take_line-in-Some.ensures.cut waiting i.2.read in
    let off = one_off line next i.2.cut cut whole in
    rw (p.1, p.2) (
      part.0,
      ran_part c.requires.none (part_longer (ended_lines next) (off.lines ∙ ap (λ (ls : List Line). ls ++ ended_lines next) (append_assoc done waiting (ended line ∷ [])))
          (part_later i.2.answered (rw i.2.page at part.1))),
    )

pub returns-in_err-answer_queued-in-None-clause-cut : goal.returns-in_err-answer_queued-in-None-clause-cut
returns-in_err-answer_queued-in-None-clause-cut g c =
    let p = err_from_is_err_and c.from_residual-in_err-answer_queued-in-None.result c.from_residual-in_err-answer_queued-in-None.ensures.1 in
    let i = c.loop-after.invariant in
    let part = c.in_err-answer_queued-in-None.ensures.cut i.1 i.2.read in
    rw (p.1, p.2) (part.0, ran_part c.requires.none (part_longer (ended_lines c.loop-after.rest.now) i.2.cut.lines (part_later i.2.answered (rw i.2.page at part.1))))

pub returns-in-None-clause-ran : goal.returns-in-None-clause-ran
returns-in-None-clause-ran g c =
    let i = c.loop-after.invariant in
    let none : pieces c.loop-after.rest.now ≡ c.first_long_piece.result.0.now ∷ [] = rw c.in-None.is at c.first_long_piece.ensures.pieces in
    ran_sent c.requires.none (all_together i.0 i.1 i.2.cut none i.2.answered i.2.page i.2.read c.in_ok-answer_queued-in-None.ensures.answered) c.in_ok-send-in-None-2.ensures.sent

pub returns-in_err-send-in-None-2-clause-cut : goal.returns-in_err-send-in-None-2-clause-cut
returns-in_err-send-in-None-2-clause-cut g c =
    let p = err_from_is_err_and c.from_residual-in_err-send-in-None-2.result c.from_residual-in_err-send-in-None-2.ensures.1 in
    let i = c.loop-after.invariant in
    let none : pieces c.loop-after.rest.now ≡ c.first_long_piece.result.0.now ∷ [] = rw c.in-None.is at c.first_long_piece.ensures.pieces in
    let cut = c.in_err-send-in-None-2.ensures.cut in
    rw (p.1, p.2) (cut.0, ran_unsent c.requires.none (all_together i.0 i.1 i.2.cut none i.2.answered i.2.page i.2.read c.in_ok-answer_queued-in-None.ensures.answered) cut.1)

pub returns-then-not-several-clause-ran : goal.returns-then-not-several-clause-ran
returns-then-not-several-clause-ran g c =
    let i = c.loop-after.invariant in
    let one : pieces c.loop-after.rest.now ≡ c.first_long_piece.result.0.now ∷ [] = rw c.in-None.is at c.first_long_piece.ensures.pieces in
    let queue = i.2.alone c.if-not-several.true in
    ran_sent c.requires.none (all_alone i.0 i.1 i.2.cut one i.2.answered (rw queue at i.2.read)) c.in_ok-send-in-None.ensures.sent

pub returns-in_err-send-in-None-clause-cut : goal.returns-in_err-send-in-None-clause-cut
returns-in_err-send-in-None-clause-cut g c =
    let p = err_from_is_err_and c.from_residual-in_err-send-in-None.result c.from_residual-in_err-send-in-None.ensures.1 in
    let i = c.loop-after.invariant in
    let one : pieces c.loop-after.rest.now ≡ c.first_long_piece.result.0.now ∷ [] = rw c.in-None.is at c.first_long_piece.ensures.pieces in
    let queue = i.2.alone c.if-not-several.true in
    let cut = c.in_err-send-in-None.ensures.cut in
    rw (p.1, p.2) (cut.0, ran_unsent c.requires.none (all_alone i.0 i.1 i.2.cut one i.2.answered (rw queue at i.2.read)) cut.1)
