use Rattle.std.proofs.Common.{◌≡◌, [], ◌∷◌, ◌++◌, ◌∙◌, List, refl, sym, ap, subst, append-nil}
use Rattle.std.proofs.lemmas.Result.{err_from_is_err_and}
use Rattle.hp_model.proofs.Words.{Line, QueuedView, ended}
use Rattle.hp_wire.specs.Answered.{AnswersAll}
use Rattle.hp_wire.specs.Queues.{AreRead}
use Rattle.hp_wire.specs.Waiting.{Waiting}
use Rattle.hp_wire.proofs.Known.{answered_cut, answered_none, answered_one, answered_then}
use Rattle.hp_wire.proofs.Together.{if_err, none_read, on_ok, part_longer, read_taken}
use Rattle.hp_wire.proofs.replies.Replies.take_line.Given.{Over}
use Rattle.hp_wire.proofs.replies.Replies.take_line.Goals as goal
use Rattle.hp_wire.proofs.replies.Replies.take_line.Goals.{Joined-several, else-several, then-several+else-take+in_ok-answer_queued}

pub returns-then-is_full-clause-taken : goal.returns-then-is_full-clause-taken
returns-then-is_full-clause-taken g c =
    let line = ended c.args.line.now in
    let taken = c.take.ensures.taken c.if-take.true in
    on_ok c.answer_queued.result (λ answered none waiting read. record {
      done = waiting ++ line ∷ [];
      others = [];
      all = sym (append-nil (waiting ++ line ∷ []));
      answered = answered (waiting ++ line ∷ []) (read_taken waiting c.args.queue.now c.take.new.self line read taken);
      read = subst (λ (qs : List QueuedView). AreRead [] qs) (sym none) tt;
    }) c.answer_queued.ensures.answered c.answer_queued.ensures.none

pub returns-then-is_full-clause-cut : goal.returns-then-is_full-clause-cut
returns-then-is_full-clause-cut g c =
    let line = ended c.args.line.now in
    let taken = c.take.ensures.taken c.if-take.true in
    if_err c.answer_queued.result
    (λ fault cut _ waiting read. cut (waiting ++ line ∷ []) (read_taken waiting c.args.queue.now c.take.new.self line read taken))
    c.answer_queued.ensures.cut c.answer_queued.ensures.cut

pub returns-then-take-clause-taken : goal.returns-then-take-clause-taken
returns-then-take-clause-taken g c =
    let line = ended c.args.line.now in
    let taken = c.take.ensures.taken c.if-take.true in
    λ waiting read. record {
      done = [];
      others = waiting ++ line ∷ [];
      all = refl;
      answered = answered_none;
      read = read_taken waiting c.args.queue.now c.take.new.self line read taken;
    }

pub returns-in_err-answer_queued-clause-cut : goal.returns-in_err-answer_queued-clause-cut
returns-in_err-answer_queued-clause-cut g c =
    let p = err_from_is_err_and c.from_residual.result c.from_residual.ensures.1 in
    let line = ended c.args.line.now in
    let left = c.take.ensures.left c.if-take.false in
    rw (p.1, p.2) (λ waiting read.
    let cut = c.in_err-answer_queued.ensures.cut waiting (subst (λ (qs : List QueuedView). AreRead waiting qs) (sym left) read) in
    (cut.0, part_longer (line ∷ []) refl cut.1))

-- the line is answered by itself, behind what waited
module _ (g : Over) (c : Joined-several g) where
  emptied : c.if-several.queue ≡ []
  emptied = elim c.if-several.branch [
    | then-several+else-take+in_ok-answer_queued w ↦ w.queue-is ∙ w.in_ok-answer_queued.ensures.none
    | else-several w ↦ w.queue-is ∙ c.requires.alone w.if-several.false
  ]

  same_page : c.if-several.self.page ≡ c.args.self.now.page
  same_page = elim c.if-several.branch [
    | then-several+else-take+in_ok-answer_queued w ↦ ap (λ (r : Waiting). r.page) w.self-is ∙ w.in_ok-answer_queued.ensures.page
    | else-several w ↦ ap (λ (r : Waiting). r.page) w.self-is
  ]

  before : (waiting : List Line) → AreRead waiting c.args.queue.now
      → AnswersAll g.S.Service.may_answer g.W.Write.contents waiting c.args.service.now c.if-several.service c.args.writer.now c.if-several.writer c.args.self.now c.if-several.self
  before waiting read = elim c.if-several.branch [
    | then-several+else-take+in_ok-answer_queued w ↦ rw (w.service-is, w.writer-is, w.self-is)
        (w.in_ok-answer_queued.ensures.answered waiting (subst (λ (qs : List QueuedView). AreRead waiting qs) (sym (w.take.ensures.left w.if-take.false)) read))
    | else-several w ↦
        let none : waiting ≡ [] = none_read waiting (subst (λ (qs : List QueuedView). AreRead waiting qs) (c.requires.alone w.if-several.false) read) in
        rw (w.service-is, w.writer-is, w.self-is, none) answered_none
  ]

pub returns-in_err-make_room-clause-cut : goal.returns-in_err-make_room-clause-cut
returns-in_err-make_room-clause-cut g c =
    let p = err_from_is_err_and c.from_residual-in_err-make_room.result c.from_residual-in_err-make_room.ensures.1 in
    let line = ended c.args.line.now in
    let cut = c.in_err-make_room.ensures.cut in
    rw (p.1, p.2) (λ waiting read. (cut.0, answered_cut (line ∷ []) (before g (goal.at.returns-in_err-make_room-clause-cut g c).Joined-several waiting read) refl refl cut.1))

pub returns-clause-taken : goal.returns-clause-taken
returns-clause-taken g c waiting read =
    let over = (goal.at.returns-clause-taken g c).Joined-several in
    let line = ended c.args.line.now in
    let added = c.add_reply.ensures.answered in
    let page = c.in_ok-make_room.ensures.page ∙ same_page g over in
    record {
      done = waiting ++ line ∷ [];
      others = [];
      all = sym (append-nil (waiting ++ line ∷ []));
      answered = answered_then (before g over waiting read) (answered_one added.reply c.in_ok-make_room.ensures.kept added.answered page added.text);
      read = subst (λ (qs : List QueuedView). AreRead [] qs) (sym (emptied g over)) tt;
    }
