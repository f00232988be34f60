use Rattle.std.proofs.Common.{◌≡◌, ℕ, sym, subst, ◌∙◌, arith}
use Rattle.hp_events.specs.Replies.{table_reply}
use Rattle.hp_sessions.specs.Forks.{marked_below}
use Rattle.hp_sessions.proofs.Carrying.{grows_more, grows_then}
use Rattle.hp_sessions.proofs.Forking.{Exited, undo_ends, undo_full, undo_next, undo_other}
use Rattle.hp_sessions.proofs.asking.Asking.undo.Goals as goal
use Rattle.hp_sessions.proofs.asking.Asking.undo.Goals.{then-is_done, else-is_done}

pub loop-at-preserved : goal.loop-at-preserved
loop-at-preserved g c =
    let was = c.loop-at.invariant in
    let size = g.P.Parts.page in
    let s = c.args.self.now in
    let done = c.args.done.now in
    let at = c.loop-at.at in
    elim c.if-is_done.branch [
      | then-is_done w ↦ rw w.self-is (record {
        gone = undo_next g.P.Parts.keeps size s c.loop-at.self w.make_exit.new.self done at c.args.child (sym c.is_done.ensures ∙ w.if-is_done.true) was.gone w.make_exit.ensures.leads;
        grows = grows_then at 1 s c.loop-at.self w.make_exit.new.self was.grows w.make_exit.ensures.grows;
      })
      | else-is_done w ↦ rw w.self-is (record {
        gone = undo_other g.P.Parts.keeps size s c.loop-at.self done at c.args.child (sym c.is_done.ensures ∙ w.if-is_done.false) was.gone;
        grows = grows_more at s c.loop-at.self was.grows;
      })
    ]

pub returns : goal.returns
returns g c =
    let size = g.P.Parts.page in
    let s = c.args.self.now in
    let over = c.loop-at-test.false in
    let under = c.loop-at.auto.at-end in
    let all : c.loop-at.at ≡ c.args.count = omega (arith, over, under) in
    undo_ends g.P.Parts.keeps size s c.loop-at.self c.make_table-told.new.self (marked_below c.args.done.now c.args.count) c.args.child c.args.refusal (table_reply c.make_table-told.result)
    c.requires.noted (sym c.is_full.ensures ∙ c.if-is_full.false)
    (subst (λ (n : ℕ). Exited g.P.Parts.keeps size s (marked_below c.args.done.now n) c.args.child c.loop-at.self) all c.loop-at.invariant.gone) c.make_table-told.ensures.made

pub returns-then-is_full : goal.returns-then-is_full
returns-then-is_full g c =
    let size = g.P.Parts.page in
    let s = c.args.self.now in
    let over = c.loop-at-test.false in
    let under = c.loop-at.auto.at-end in
    let all : c.loop-at.at ≡ c.args.count = omega (arith, over, under) in
    undo_full g.P.Parts.keeps size s c.loop-at.self c.make_table-told.new.self (marked_below c.args.done.now c.args.count) c.args.child c.args.refusal (table_reply c.make_table-told.result)
    (sym c.is_full.ensures ∙ c.if-is_full.true)
    (subst (λ (n : ℕ). Exited g.P.Parts.keeps size s (marked_below c.args.done.now n) c.args.child c.loop-at.self) all c.loop-at.invariant.gone) c.make_table-told.ensures.made
