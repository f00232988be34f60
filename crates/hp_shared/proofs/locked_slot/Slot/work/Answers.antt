use Rattle.std.proofs.Common.{◌≡◌, inl, inr, true, false, None, refl, sym, ap, ◌∙◌, subst}
use Rattle.std.proofs.lemmas.Bool.{false≢true}
use Rattle.hp_history.specs.Sections.{IsEntered}
use Rattle.hp_model.proofs.Words.{IsWithinLimits, told_reply}
use Rattle.hp_trail.specs.Keeping.{has_room, with_entry}
use Rattle.hp_events.specs.Answered.{Went}
use Rattle.hp_events.specs.Replies.{is_trace_full}
use Rattle.hp_events.specs.Event.{full_for, has_maps_for, is_exit}
use Rattle.hp_shared.specs.Slots.{IsActedOr, IsSlotEvent, SlotView}
use Rattle.hp_shared.proofs.Acting.{acted_or, acted_plain, acted_small, event_entered, unused}
use Rattle.hp_shared.proofs.SlotsKept.{entry_asked, event_done, event_full, event_went, full_keeps, full_stays, may_fit, may_room, neither, slot_noted, was_full, work_event, work_removes}
use Rattle.hp_shared.proofs.locked_slot.Slot.work.Given.{Over}
use Rattle.hp_shared.proofs.locked_slot.Slot.work.Goals as goal
use Rattle.hp_shared.proofs.locked_slot.Slot.work.Goals.{After-ask, After-note-receipt}

module _ (g : Over) (c : After-ask g) where
  -- the door had no room for the section of this work
  abbrev full : Type 0
  full = full_for (g.D.PoolDoor.is_full c.ask.new.door) c.args.event.now

  acted : IsActedOr full g.N.Naming.page_bytes c.self.inside.number c.self.inside.mount c.args.event.now (told_reply c.ask.new.reply)
      (g.D.SessionDoor.asked c.ask.new.door) c.ask.new.slot
  acted =
      acted_or g.D.SessionDoor.keeps g.D.SessionDoor.asked g.D.SessionDoor.mine g.D.PoolDoor.took (λ d. full_for (g.D.PoolDoor.is_full d) c.args.event.now) g.met.D.SessionDoor.tells
      g.N.Naming.page_bytes c.self.inside.number c.self.inside.mount c.args.door.now c.args.event.now (told_reply c.ask.new.reply) c.ask.new.slot
      c.ask.new.door (g.met.D.SessionDoor.begins c.args.door.now c.requires.ready) c.ask.ensures.done

  entered : IsEntered g.D.SessionDoor.keeps (g.D.SessionDoor.mine c.args.door.now) (g.D.SessionDoor.asked c.ask.new.door) (g.D.SessionDoor.mine c.ask.new.door)
  entered =
      event_entered g.D.SessionDoor.keeps g.D.SessionDoor.asked g.D.SessionDoor.mine g.D.PoolDoor.took (λ d. full_for (g.D.PoolDoor.is_full d) c.args.event.now) g.met.D.SessionDoor.tells
      g.N.Naming.page_bytes c.self.inside.number c.self.inside.mount c.args.door.now c.args.event.now (told_reply c.ask.new.reply) c.ask.new.slot
      c.ask.new.door (g.met.D.SessionDoor.begins c.args.door.now c.requires.ready) c.ask.ensures.done

  small : IsWithinLimits (told_reply c.ask.new.reply)
  small =
      acted_small full g.N.Naming.page_bytes c.self.inside.number c.self.inside.mount c.args.event.now (g.D.SessionDoor.asked c.ask.new.door) c.ask.new.slot
      (told_reply c.ask.new.reply) acted c.ask.ensures.limits

  went : is_trace_full (told_reply c.ask.new.reply) ≡ false → Went g.N.Naming.page_bytes c.self.inside.number c.self.inside.mount c.args.event.now (told_reply c.ask.new.reply)
      (g.D.SessionDoor.asked c.ask.new.door) c.ask.new.slot
  went noted =
      let s = c.self.inside in
      event_went full g.N.Naming.page_bytes s.number (g.T.Trail.entries s.trail) (g.T.Trail.left s.trail) (g.T.Trail.extra s.trail) s.mount c.args.event.now
      (told_reply c.ask.new.reply) (g.D.SessionDoor.asked c.ask.new.door) c.ask.new.slot acted noted

  mapped : has_maps_for c.args.event.now c.self.inside.mount ≡ true
  mapped = ap (λ (v : SlotView). has_maps_for c.args.event.now v.mount) c.self.view_is ∙ c.requires.has

pub returns-then-not-may_note-clause-done : goal.returns-then-not-may_note-clause-done
returns-then-not-may_note-clause-done g c =
    let s = c.self.inside in
    let room = (neither (is_exit c.args.event.now) (has_room false (g.T.Trail.left s.trail) (g.T.Trail.extra s.trail)) (sym c.may_note.ensures ∙ c.if-not-may_note.true)).1 in
    (c.self.view_is, refl, g.met.D.SessionDoor.begins c.args.door.now c.requires.ready, inl (subst (λ (v : SlotView). has_room false v.left v.extra ≡ false) c.self.view_is room))

pub returns-then-not-may_note-clause-entered : goal.returns-then-not-may_note-clause-entered
returns-then-not-may_note-clause-entered g c =
    unused g.D.SessionDoor.keeps g.D.SessionDoor.asked g.D.SessionDoor.mine c.args.door.now (g.met.D.SessionDoor.begins c.args.door.now c.requires.ready)

pub returns-then-not-may_note-clause-keeps : goal.returns-then-not-may_note-clause-keeps
returns-then-not-may_note-clause-keeps g c = λ full.
    let t = c.self.inside.trail in
    inl (full_keeps g.T.Trail.keeps (g.T.Trail.entries t) (g.T.Trail.left t) (g.T.Trail.extra t) (g.met.T.Trail.kept t) c.self.invariant.counted
    (neither (is_exit c.args.event.now) (has_room false (g.T.Trail.left t) (g.T.Trail.extra t)) (sym c.may_note.ensures ∙ c.if-not-may_note.true)).1)

pub returns-then-not-may_note-clause-exit : goal.returns-then-not-may_note-clause-exit
returns-then-not-may_note-clause-exit g c = λ exit.
    let t = c.self.inside.trail in
    let no = (neither (is_exit c.args.event.now) (has_room false (g.T.Trail.left t) (g.T.Trail.extra t)) (sym c.may_note.ensures ∙ c.if-not-may_note.true)).0 in
    absurd (false≢true (sym no ∙ exit))

pub invariant_of-self-then-is_full : goal.invariant_of-self-then-is_full
invariant_of-self-then-is_full g c =
    let a = (goal.at.invariant_of-self-then-is_full g c).After-ask in
    let s = c.self.inside in
    full_stays (full g a) g.N.Naming.page_bytes s.number (g.T.Trail.entries s.trail) (g.T.Trail.left s.trail)
    (g.T.Trail.extra s.trail) s.mount c.args.event.now (told_reply c.ask.new.reply)
    (g.D.SessionDoor.asked c.ask.new.door) c.ask.new.slot (acted g a) (sym c.is_full.ensures ∙ c.if-is_full.true) c.self.invariant

pub returns-then-is_full-clause-keeps : goal.returns-then-is_full-clause-keeps
returns-then-is_full-clause-keeps g c =
    let a = (goal.at.returns-then-is_full-clause-keeps g c).After-ask in
    let s = c.self.inside in
    λ was. inr (was_full (full g a) g.N.Naming.page_bytes s.number (g.T.Trail.entries s.trail) (g.T.Trail.left s.trail)
    (g.T.Trail.extra s.trail) s.mount c.args.event.now (told_reply c.ask.new.reply)
    (g.D.SessionDoor.asked c.ask.new.door) c.ask.new.slot (acted g a) was)

pub returns-then-is_full-clause-done : goal.returns-then-is_full-clause-done
returns-then-is_full-clause-done g c =
    let a = (goal.at.returns-then-is_full-clause-done g c).After-ask in
    let s = c.self.inside in
    subst (λ (v : SlotView). IsSlotEvent (full g a) g.N.Naming.page_bytes v
    (record {
      number = s.number;
      mount = c.ask.new.slot;
      entries = g.T.Trail.entries s.trail;
      left = g.T.Trail.left s.trail;
      extra = g.T.Trail.extra s.trail;
    })
    c.args.event.now (told_reply c.ask.new.reply) (g.D.SessionDoor.asked c.ask.new.door) None) c.self.view_is
    (event_full (full g a) g.N.Naming.page_bytes s.number (g.T.Trail.entries s.trail) (g.T.Trail.left s.trail)
    (g.T.Trail.extra s.trail) s.mount c.args.event.now (told_reply c.ask.new.reply)
    (g.D.SessionDoor.asked c.ask.new.door) c.ask.new.slot (acted g a) (sym c.is_full.ensures ∙ c.if-is_full.true))

pub returns-then-is_full-clause-given : goal.returns-then-is_full-clause-given
returns-then-is_full-clause-given g c = λ noted. absurd (false≢true (sym noted ∙ (sym c.is_full.ensures ∙ c.if-is_full.true)))

pub returns-then-is_full-clause-exit : goal.returns-then-is_full-clause-exit
returns-then-is_full-clause-exit g c = c.ask.ensures.exit

pub returns-then-is_full-clause-entered : goal.returns-then-is_full-clause-entered
returns-then-is_full-clause-entered g c = entered g (goal.at.returns-then-is_full-clause-entered g c).After-ask

pub returns-then-is_full-clause-limits : goal.returns-then-is_full-clause-limits
returns-then-is_full-clause-limits g c = small g (goal.at.returns-then-is_full-clause-limits g c).After-ask

pub note-receipt-requires-clause-small : goal.note-receipt-requires-clause-small
note-receipt-requires-clause-small g c = small g (goal.at.note-receipt-requires-clause-small g c).After-ask

pub note-receipt-requires-clause-plain : goal.note-receipt-requires-clause-plain
note-receipt-requires-clause-plain g c =
    let a = (goal.at.note-receipt-requires-clause-plain g c).After-ask in
    let s = c.self.inside in
    acted_plain (full g a) g.N.Naming.page_bytes s.number s.mount c.args.event.now (g.D.SessionDoor.asked c.ask.new.door) c.ask.new.slot
    (told_reply c.ask.new.reply) (acted g a) c.requires.apart

pub note-receipt-requires-clause-copies : goal.note-receipt-requires-clause-copies
note-receipt-requires-clause-copies g c = c.requires.copies

pub note-receipt-requires-clause-room : goal.note-receipt-requires-clause-room
note-receipt-requires-clause-room g c =
    let s = c.self.inside in
    let a = (goal.at.note-receipt-requires-clause-room g c).After-ask in
    may_fit g.N.Naming.page_bytes s.number (g.T.Trail.entries s.trail) (g.T.Trail.left s.trail) (g.T.Trail.extra s.trail) s.mount c.args.event.now
    (told_reply c.ask.new.reply) (g.D.SessionDoor.asked c.ask.new.door) c.ask.new.slot c.self.invariant
    (went g a (sym c.is_full.ensures ∙ c.if-is_full.false))
    (is_exit c.args.event.now) (work_removes s.mount c.args.event.now (mapped g a)) (sym c.may_note.ensures ∙ c.if-not-may_note.false)

module _ (g : Over) (c : After-note-receipt g) where
  entries : g.T.Trail.entries c.note-receipt.new.trail ≡ with_entry (g.T.Trail.entries c.self.inside.trail)
      (record { event = c.args.event.now; reply = told_reply c.ask.new.reply; asked = g.D.SessionDoor.asked c.ask.new.door })
  entries = c.note-receipt.ensures.entries
      ∙ entry_asked g.T.Trail.keeps (g.T.Trail.entries c.self.inside.trail) c.args.event.now (told_reply c.ask.new.reply) c.asked.result
      (g.D.SessionDoor.asked c.ask.new.door) (g.met.T.Trail.kept c.self.inside.trail) (λ kept. c.asked.ensures (c.requires.keeps kept))

pub invariant_of-self-2 : goal.invariant_of-self-2
invariant_of-self-2 g c =
    let at = goal.at.invariant_of-self-2 g c in
    let a = at.After-ask in
    let has = mapped g a in
    let s = c.self.inside in
    slot_noted g.N.Naming.page_bytes s.number (g.T.Trail.entries s.trail) (g.T.Trail.left s.trail) (g.T.Trail.extra s.trail) s.mount c.args.event.now (told_reply c.ask.new.reply)
    (g.D.SessionDoor.asked c.ask.new.door) c.ask.new.slot c.self.invariant (went g a (sym c.is_full.ensures ∙ c.if-is_full.false)) (g.T.Trail.entries c.note-receipt.new.trail)
    (g.T.Trail.left c.note-receipt.new.trail) (g.T.Trail.extra c.note-receipt.new.trail)
    (work_event s.mount c.args.event.now has) (entries g at.After-note-receipt) c.note-receipt.ensures.left c.note-receipt.ensures.none c.note-receipt.ensures.extra
    (may_room (is_exit c.args.event.now) _ (g.T.Trail.left s.trail) (g.T.Trail.extra s.trail) (work_removes s.mount c.args.event.now has) (sym c.may_note.ensures ∙ c.if-not-may_note.false))

pub returns-clause-done : goal.returns-clause-done
returns-clause-done g c =
    let at = goal.at.returns-clause-done g c in
    let a = at.After-ask in
    let s = c.self.inside in
    subst (λ (v : SlotView). IsSlotEvent (full g a) g.N.Naming.page_bytes v
    (record {
      number = s.number;
      mount = c.ask.new.slot;
      entries = g.T.Trail.entries c.note-receipt.new.trail;
      left = g.T.Trail.left c.note-receipt.new.trail;
      extra = g.T.Trail.extra c.note-receipt.new.trail;
    })
    c.args.event.now (told_reply c.ask.new.reply) (g.D.SessionDoor.asked c.ask.new.door) c.note-receipt.result) c.self.view_is
    (event_done (full g a) g.N.Naming.page_bytes s.number (g.T.Trail.entries s.trail) (g.T.Trail.left s.trail)
    (g.T.Trail.extra s.trail) s.mount c.args.event.now (told_reply c.ask.new.reply)
    (g.D.SessionDoor.asked c.ask.new.door) c.ask.new.slot (acted g a) (sym c.is_full.ensures ∙ c.if-is_full.false)
    (g.T.Trail.entries c.note-receipt.new.trail) (g.T.Trail.left c.note-receipt.new.trail) (g.T.Trail.extra c.note-receipt.new.trail)
    c.note-receipt.result (entries g at.After-note-receipt) c.note-receipt.ensures.receipt)

pub returns-clause-entered : goal.returns-clause-entered
returns-clause-entered g c = entered g (goal.at.returns-clause-entered g c).After-ask

pub returns-clause-limits : goal.returns-clause-limits
returns-clause-limits g c = small g (goal.at.returns-clause-limits g c).After-ask

pub returns-clause-keeps : goal.returns-clause-keeps
returns-clause-keeps g c = λ full. absurd (false≢true (sym (sym c.is_full.ensures ∙ c.if-is_full.false) ∙ full))

pub returns-clause-given : goal.returns-clause-given
returns-clause-given g c = λ noted. c.note-receipt.ensures.given

pub returns-clause-exit : goal.returns-clause-exit
returns-clause-exit g c = c.ask.ensures.exit
