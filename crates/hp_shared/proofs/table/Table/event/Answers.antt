use Rattle.std.proofs.Common.{◌≡◌, false, [], ◌∷◌, sym, ap, ◌∙◌, subst}
use Rattle.hp_model.proofs.Words.{IsTableRun, removes_task, table_event}
use Rattle.hp_events.specs.Replies.{table_reply}
use Rattle.hp_shared.specs.Tables.{IsLockedTable, table_in, table_view}
use Rattle.hp_shared.proofs.Places.{or_room}
use Rattle.hp_shared.proofs.TablesKept.{closing_room, table_noted}
use Rattle.hp_shared.proofs.table.Table.event.Goals as goal
use Rattle.hp_trail.specs.Keeping.{has_room}

pub note-receipt-requires : goal.note-receipt-requires
note-receipt-requires g c =
    let t = c.self.inside in
    closing_room t.nodes (table_in t.seat.views) (g.T.Trail.entries t.trail) (g.T.Trail.left t.trail) (g.T.Trail.extra t.trail)
    t.tasks c.args.event (table_reply c.answered-told.result.0) c.answered-told.new.tasks
    c.self.invariant.4 c.answered-told.ensures.event (sym c.may_note.ensures.may ∙ c.if-not-may_note.false)

pub tell-requires-clause-next : goal.tell-requires-clause-next
tell-requires-clause-next g c =
    let t = c.self.inside in
    let was = c.self.invariant.4 in (
      t.tasks,
      c.answered-told.new.tasks,
      subst (λ n. IsTableRun n [] (table_in t.seat.views) t.tasks) c.self.invariant.1 was.ends,
      subst (λ n. table_event n t.tasks c.args.event ≡ (table_reply c.answered-told.result.0, c.answered-told.new.tasks)) c.self.invariant.1 c.answered-told.ensures.event,
      c.answered-told.ensures.change,
    )

pub invariant_of-self-2 : goal.invariant_of-self-2
invariant_of-self-2 g c =
    let t = c.self.inside in
    let now = c.tell.ensures.trail in (
      c.self.invariant.0,
      c.self.invariant.1,
      c.tell.ensures.table,
      now ∙ ap (λ vs. table_view vs ∷ []) (sym now),
      subst (λ vs. IsLockedTable t.nodes (table_in vs) (g.T.Trail.entries c.note-receipt.new.trail) (g.T.Trail.left c.note-receipt.new.trail)
          (g.T.Trail.extra c.note-receipt.new.trail) c.answered-told.new.tasks) (sym now)
          (table_noted t.nodes (table_in t.seat.views) (g.T.Trail.entries t.trail) (g.T.Trail.left t.trail) (g.T.Trail.extra t.trail)
          t.tasks c.args.event (table_reply c.answered-told.result.0) c.answered-told.new.tasks
          c.self.invariant.4 c.answered-told.ensures.event (g.T.Trail.entries c.note-receipt.new.trail) (g.T.Trail.left c.note-receipt.new.trail)
          (g.T.Trail.extra c.note-receipt.new.trail) c.note-receipt.ensures.entries c.note-receipt.ensures.left c.note-receipt.ensures.extra
          (or_room (removes_task t.tasks c.args.event) (has_room false (g.T.Trail.left t.trail)
          (g.T.Trail.extra t.trail)) (sym c.may_note.ensures.may ∙ c.if-not-may_note.false))),
    )
