use Rattle.hp_history.specs.History.{front_of}
use Rattle.std.proofs.Common.{◌≡◌, None, List, [], ◌∷◌, refl, ap, ◌∙◌, subst}
use Rattle.hp_history.specs.Sections.{free_slot, session_view}
use Rattle.hp_laws.proofs.Variants.{SlotEntry}
use Rattle.hp_model.specs.declared.event.SlotEvent.TheVariants.{Ls}
use Rattle.hp_events.specs.Replies.{names_reply}
use Rattle.hp_shared.specs.Seated.{IsSeatedEvent, SeatedView, run_in}
use Rattle.hp_shared.proofs.SeatedKept.{event_seated, held, one_free, seat_next}
use Rattle.hp_shared.proofs.seated_slot.SeatedSlot.names.Given.{Over}
use Rattle.hp_shared.proofs.seated_slot.SeatedSlot.names.Goals as goal
use Rattle.hp_shared.proofs.seated_slot.SeatedSlot.names.Goals.{After-leave_names}

module _ (g : Over) (c : After-leave_names g) where
  abbrev run : List SlotEntry
  run = run_in c.self.inside.seat.views

  at_join : c.join.new.mine.me.0 ≡ held c.self.inside.slot.number run c.args.mine.now.me.0 None
  at_join = ap (λ m. m.0) c.join.ensures.both ∙ ap (λ h. h ∷ session_view c.args.mine.now.me.0 ∷ []) (ap (λ vs. free_slot (front_of vs)) c.self.invariant.one)

pub join-requires-clause-one : goal.join-requires-clause-one
join-requires-clause-one g c = one_free c.self.inside.slot.number c.self.inside.seat.views c.self.invariant.one

pub invariant_of-self : goal.invariant_of-self
invariant_of-self g c =
    let a = (goal.at.invariant_of-self g c).After-leave_names in
    seat_next g.T.Trail.keeps ⊥ g.N.Naming.page_bytes c.self.inside.slot c.names-names.new.self (run g a) Ls
    (names_reply c.names-names.result.0) None c.names-names.result.1 c.args.mine.now.me.0 c.join.new.mine.me.0 (at_join g a) c.names-names.ensures.done
    c.names-names.ensures.given c.self.invariant.kept c.leave_names.result.views c.leave_names.ensures.trail g.N.Places.history c.leave_names.result.table_id c.leave_names.ensures.slot
    c.names-names.ensures.number refl c.self.invariant.ends

pub returns-clause-done : goal.returns-clause-done
returns-clause-done g c =
    let a = (goal.at.returns-clause-done g c).After-leave_names in
    subst (λ (x : SeatedView). IsSeatedEvent ⊥ g.T.Trail.keeps g.N.Naming.page_bytes x
    (record { slot = c.names-names.new.self; run = run_in c.leave_names.result.views }) Ls (names_reply c.names-names.result.0) c.args.mine.now.me.0
    c.leave_names.new.mine.me.0 c.names-names.result.1) c.self.view_is
    (event_seated g.T.Trail.keeps ⊥ g.N.Naming.page_bytes c.self.inside.slot c.names-names.new.self (run g a) Ls
    (names_reply c.names-names.result.0) None c.names-names.result.1 c.args.mine.now.me.0 c.join.new.mine.me.0 (at_join g a) c.names-names.ensures.done
    c.names-names.ensures.given c.self.invariant.kept c.leave_names.result.views c.leave_names.ensures.trail c.leave_names.new.mine.me.0 c.requires.session
    (ap (λ m. m.0) c.leave_names.ensures.told))
