use Rattle.std.proofs.Common.{◌≡◌, ◌++◌, ap, ◌∙◌, subst, List, ℕ}
use lib.ListN.{get_or}
use Rattle.std.proofs.lemmas.Result.{err_from_is_err_and}
use Rattle.hp_model.proofs.Words.{QueuedView, line_of}
use Rattle.hp_wire.specs.Answered.{Gains}
use Rattle.hp_wire.proofs.Together.{cut_text, gains_line, text_more}
use Rattle.hp_wire.proofs.replies.Replies.add_queued.Goals as goal

pub returns-in_err-make_room-clause-cut : goal.returns-in_err-make_room-clause-cut
returns-in_err-make_room-clause-cut g c =
    let p = err_from_is_err_and c.from_residual.result c.from_residual.ensures.1 in
    let cut = c.in_err-make_room.ensures.cut in
    rw (p.1, p.2) (
      cut.0,
      cut_text (g.W.Write.contents c.args.writer.now) (g.W.Write.contents c.loop-at.writer) (g.W.Write.contents c.make_room.new.writer)
          c.args.self.now.page c.args.queue.now c.loop-at.at c.loop-at.invariant.added cut.1,
    )

pub loop-at-preserved : goal.loop-at-preserved
loop-at-preserved g c =
    let i = c.loop-at.invariant in
    let page = c.args.self.now.page in
    let qs = c.args.queue.now in
    let at = c.loop-at.at in
    let d = c.index-waiting-at.result in
    let line = line_of page (get_or qs at d).reply in
    let room = c.make_room.new.self in
    let told = ap (λ (q : QueuedView). line_of page q.reply) c.index-waiting-at.is ∙ ap (λ (ls : List QueuedView). line_of page (get_or ls at d).reply) c.as_slice-waiting.ensures in
    let is : c.add_done.new.self.text ≡ room.text ++ line =
    c.add_done.ensures.text ∙ ap (λ n. room.text ++ line_of n c.index-waiting-at.result.reply) (c.make_room.ensures.page ∙ i.page) ∙ ap (λ line. room.text ++ line) told in
    record {
      added = subst (λ (xs : List ℕ). Gains (g.W.Write.contents c.args.writer.now) c.args.self.now.text (g.W.Write.contents c.make_room.new.writer) c.add_done.new.self.text xs)
          (text_more page qs at d (rw c.as_slice-waiting.ensures at c.loop-at-test.true)) (gains_line line c.add_done.new.self.text i.added c.in_ok-make_room.ensures.kept is);
      page = c.add_done.ensures.page ∙ c.make_room.ensures.page ∙ i.page;
      sure = λ s. c.make_room.ensures.writer.1 (i.sure s);
      lent = c.make_room.ensures.writer.2 ∙ i.lent;
      connection = c.make_room.ensures.writer.3 ∙ i.connection;
    }
