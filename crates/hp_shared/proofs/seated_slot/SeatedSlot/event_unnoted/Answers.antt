use Rattle.hp_history.specs.History.{front_of}
use Rattle.std.proofs.Common.{◌≡◌, ◌==◌, false, Bool, None, List, [], ◌∷◌, sym, ap, ◌∙◌, subst}
use Rattle.std.proofs.lemmas.Bool.{false≢true}
use Rattle.hp_history.specs.declared.held.Held.{Held}
use Rattle.hp_history.specs.Sections.{IsEntered, free_slot, session_view}
use Rattle.hp_model.proofs.Words.{told_reply}
use Rattle.hp_laws.proofs.Variants.{SlotEntry}
use Rattle.hp_events.specs.Replies.{is_trace_full}
use Rattle.hp_shared.specs.Seated.{IsSeatedDone, SeatedView, run_in, session_left, slot_left}
use Rattle.hp_shared.specs.Slots.{IsSlotEvent}
use Rattle.hp_shared.proofs.SeatedKept.{event_seated, full_as, held, never_true, one_free, seat_next, seated_done, session_went, slot_went}
use Rattle.hp_shared.proofs.SlotsKept.{mount_event}
use Rattle.hp_shared.proofs.seated_slot.SeatedSlot.event_unnoted.Given.{Over}
use Rattle.hp_shared.proofs.seated_slot.SeatedSlot.event_unnoted.Goals as goal
use Rattle.hp_shared.proofs.seated_slot.SeatedSlot.event_unnoted.Goals.{After-leave}

module _ (g : Over) (c : After-leave g) where
  abbrev run : List SlotEntry
  run = run_in c.self.inside.seat.views

  at_door : c.new-door.result.mine ≡ held c.self.inside.slot.number run c.args.mine.me.0 None
  at_door = ap (λ d. d.mine) c.new-door.ensures ∙ (ap (λ m. m.0) c.join.ensures.both
      ∙ ap (λ h. h ∷ session_view c.args.mine.me.0 ∷ []) (ap (λ vs. free_slot (front_of vs)) c.self.invariant.one))

  entered : IsEntered g.T.Trail.keeps (held c.self.inside.slot.number run c.args.mine.me.0 None) c.event_unnoted-told.new.door.asked c.into_mine-mine.result.0.me.0
  entered =
      subst (λ (b : Bool). IsEntered b (held c.self.inside.slot.number run c.args.mine.me.0 None) c.event_unnoted-told.new.door.asked c.into_mine-mine.result.0.me.0) c.requires.keeps
      (subst (λ (v : List Held). IsEntered (g.row.K == 1) v c.event_unnoted-told.new.door.asked c.into_mine-mine.result.0.me.0) at_door
      (subst (λ (w : List Held). IsEntered (g.row.K == 1) c.new-door.result.mine c.event_unnoted-told.new.door.asked w) (sym (ap (λ m. m.0) c.into_mine-mine.ensures.mine))
      c.event_unnoted-told.ensures.entered))

  does : IsSlotEvent ⊥ g.N.Naming.page_bytes c.self.inside.slot c.event_unnoted-told.new.self c.args.event
      (told_reply c.event_unnoted-told.result) c.event_unnoted-told.new.door.asked None
  does =
      full_as _ ⊥ (λ f. false≢true (sym c.requires.unkept ∙ (sym c.requires.keeps ∙ f.1)))
      g.N.Naming.page_bytes c.self.inside.slot c.event_unnoted-told.new.self c.args.event (told_reply c.event_unnoted-told.result)
      c.event_unnoted-told.new.door.asked None c.event_unnoted-told.ensures.done

  done : is_trace_full (told_reply c.event_unnoted-told.result) ≡ false
  done = never_true (is_trace_full (told_reply c.event_unnoted-told.result))
      (λ full. false≢true (sym c.requires.unkept ∙ (sym c.requires.keeps ∙ (c.event_unnoted-told.ensures.keeps full).1)))

  views : c.leave.result.views ≡ (slot_left c.args.event (told_reply c.event_unnoted-told.result) c.into_mine-mine.result.0.me.0 ∷ []) ∷ []
  views = c.leave.ensures.trail ∙ ap (λ h. (h ∷ []) ∷ []) (slot_went c.args.event (told_reply c.event_unnoted-told.result) c.into_mine-mine.result.0.me.0 done)

  session : c.leave.new.mine.me.0 ≡ session_left c.args.event (told_reply c.event_unnoted-told.result) c.into_mine-mine.result.0.me.0 ∷ []
  session = ap (λ m. m.0) c.leave.ensures.told
      ∙ ap (λ h. h ∷ []) (session_went c.args.event (told_reply c.event_unnoted-told.result) c.into_mine-mine.result.0.me.0 done)

pub join-requires-clause-one : goal.join-requires-clause-one
join-requires-clause-one g c = one_free c.self.inside.slot.number c.self.inside.seat.views c.self.invariant.one

pub invariant_of-self : goal.invariant_of-self
invariant_of-self g c =
    let a = (goal.at.invariant_of-self g c).After-leave in
    let s = c.self.inside.slot in
    seat_next g.T.Trail.keeps ⊥ g.N.Naming.page_bytes s c.event_unnoted-told.new.self (run g a) c.args.event
    (told_reply c.event_unnoted-told.result) c.event_unnoted-told.new.door.asked None c.args.mine.me.0 c.into_mine-mine.result.0.me.0 (entered g a) (does g a)
    (λ full. sym c.requires.unkept) c.self.invariant.kept c.leave.result.views (views g a) g.N.Places.history c.leave.result.table_id c.leave.ensures.slot
    c.event_unnoted-told.ensures.number (mount_event s.mount c.args.event c.requires.of_mount) c.self.invariant.ends

pub returns-clause-done : goal.returns-clause-done
returns-clause-done g c =
    let a = (goal.at.returns-clause-done g c).After-leave in
    let s = c.self.inside.slot in
    let new : SeatedView = record { slot = c.event_unnoted-told.new.self; run = run_in c.leave.result.views } in
    subst (λ (x : SeatedView). IsSeatedDone g.T.Trail.keeps g.N.Naming.page_bytes x new c.args.event (told_reply c.event_unnoted-told.result) c.args.mine.me.0
    c.leave.new.mine.me.0 None) c.self.view_is
    (seated_done ⊥ g.T.Trail.keeps g.N.Naming.page_bytes (record { slot = s; run = run g a }) new c.args.event (told_reply c.event_unnoted-told.result)
    c.args.mine.me.0 c.leave.new.mine.me.0 None (done g a)
    (event_seated g.T.Trail.keeps ⊥ g.N.Naming.page_bytes s c.event_unnoted-told.new.self (run g a) c.args.event
    (told_reply c.event_unnoted-told.result) c.event_unnoted-told.new.door.asked None c.args.mine.me.0 c.into_mine-mine.result.0.me.0 (entered g a) (does g a)
    (λ full. sym c.requires.unkept) c.self.invariant.kept c.leave.result.views (views g a) c.leave.new.mine.me.0 c.requires.session (session g a)))

pub returns-clause-keeps : goal.returns-clause-keeps
returns-clause-keeps g c = done g (goal.at.returns-clause-keeps g c).After-leave
