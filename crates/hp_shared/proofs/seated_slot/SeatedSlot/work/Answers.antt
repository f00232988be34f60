use Rattle.hp_history.specs.History.{front_of}
use Rattle.std.proofs.Common.{◌≡◌, ◌==◌, true, Bool, None, List, [], ◌∷◌, sym, ap, ◌∙◌, subst}
use Rattle.hp_history.specs.declared.held.Held.{Held}
use Rattle.hp_history.specs.Sections.{IsEntered, free_slot, session_view}
use Rattle.hp_model.proofs.Words.{told_reply}
use Rattle.hp_laws.proofs.Variants.{SlotEntry}
use Rattle.hp_events.specs.Event.{full_for, has_maps_for}
use Rattle.hp_shared.specs.Seated.{IsSeatedEvent, SeatedView, run_in}
use Rattle.hp_shared.specs.Slots.{IsSlotEvent}
use Rattle.hp_shared.proofs.SeatedKept.{event_seated, full_as, held, one_free, seat_next, work_full_as}
use Rattle.hp_shared.proofs.SlotsKept.{work_event}
use Rattle.hp_shared.proofs.seated_slot.SeatedSlot.work.Given.{Over}
use Rattle.hp_shared.proofs.seated_slot.SeatedSlot.work.Goals as goal
use Rattle.hp_shared.proofs.seated_slot.SeatedSlot.work.Goals.{After-leave}

module _ (g : Over) (c : After-leave g) where
  abbrev run : List SlotEntry
  run = run_in c.self.inside.seat.views

  at_door : c.new-door.result.mine ≡ held c.self.inside.slot.number run c.args.mine.me.0 None
  at_door = ap (λ d. d.mine) c.new-door.ensures ∙ (ap (λ m. m.0) c.join.ensures.both
      ∙ ap (λ h. h ∷ session_view c.args.mine.me.0 ∷ []) (ap (λ vs. free_slot (front_of vs)) c.self.invariant.one))

  entered : IsEntered g.T.Trail.keeps (held c.self.inside.slot.number run c.args.mine.me.0 None) c.work-told.new.door.asked c.into_mine-mine.result.0.me.0
  entered =
      subst (λ (b : Bool). IsEntered b (held c.self.inside.slot.number run c.args.mine.me.0 None) c.work-told.new.door.asked c.into_mine-mine.result.0.me.0) c.requires.keeps
      (subst (λ (v : List Held). IsEntered (g.row.K == 1) v c.work-told.new.door.asked c.into_mine-mine.result.0.me.0) at_door
      (subst (λ (w : List Held). IsEntered (g.row.K == 1) c.new-door.result.mine c.work-told.new.door.asked w) (sym (ap (λ m. m.0) c.into_mine-mine.ensures.mine)) c.work-told.ensures.entered))

  does : IsSlotEvent (full_for (g.T.Trail.keeps ≡ true) c.args.event.now) g.N.Naming.page_bytes c.self.inside.slot c.work-told.new.self c.args.event.now
      (told_reply c.work-told.result.0) c.work-told.new.door.asked c.work-told.result.1
  does =
      full_as _ (full_for (g.T.Trail.keeps ≡ true) c.args.event.now) (work_full_as _ (g.T.Trail.keeps ≡ true) (λ f. sym c.requires.keeps ∙ f.1) c.args.event.now)
      g.N.Naming.page_bytes c.self.inside.slot c.work-told.new.self c.args.event.now (told_reply c.work-told.result.0) c.work-told.new.door.asked c.work-told.result.1 c.work-told.ensures.done

pub join-requires-clause-one : goal.join-requires-clause-one
join-requires-clause-one g c = one_free c.self.inside.slot.number c.self.inside.seat.views c.self.invariant.one

pub invariant_of-self : goal.invariant_of-self
invariant_of-self g c =
    let a = (goal.at.invariant_of-self g c).After-leave in
    let s = c.self.inside.slot in
    seat_next g.T.Trail.keeps (full_for (g.T.Trail.keeps ≡ true) c.args.event.now) g.N.Naming.page_bytes s c.work-told.new.self (run g a) c.args.event.now
    (told_reply c.work-told.result.0) c.work-told.new.door.asked c.work-told.result.1 c.args.mine.me.0 c.into_mine-mine.result.0.me.0 (entered g a) (does g a)
    c.work-told.ensures.given c.self.invariant.kept c.leave.result.views c.leave.ensures.trail g.N.Places.history c.leave.result.table_id c.leave.ensures.slot
    c.work-told.ensures.number (work_event s.mount c.args.event.now (ap (λ (x : SeatedView). has_maps_for c.args.event.now x.slot.mount) c.self.view_is ∙ c.requires.has))
    c.self.invariant.ends

pub returns-clause-done : goal.returns-clause-done
returns-clause-done g c =
    let a = (goal.at.returns-clause-done g c).After-leave in
    let s = c.self.inside.slot in
    subst (λ (x : SeatedView). IsSeatedEvent (full_for (g.T.Trail.keeps ≡ true) c.args.event.now) g.T.Trail.keeps g.N.Naming.page_bytes x
    (record { slot = c.work-told.new.self; run = run_in c.leave.result.views }) c.args.event.now (told_reply c.work-told.result.0) c.args.mine.me.0
    c.leave.new.mine.me.0 c.work-told.result.1) c.self.view_is
    (event_seated g.T.Trail.keeps (full_for (g.T.Trail.keeps ≡ true) c.args.event.now) g.N.Naming.page_bytes s c.work-told.new.self (run g a) c.args.event.now
    (told_reply c.work-told.result.0) c.work-told.new.door.asked c.work-told.result.1 c.args.mine.me.0 c.into_mine-mine.result.0.me.0 (entered g a) (does g a)
    c.work-told.ensures.given c.self.invariant.kept c.leave.result.views c.leave.ensures.trail c.leave.new.mine.me.0 c.requires.session (ap (λ m. m.0) c.leave.ensures.told))
