use Rattle.std.proofs.Common.{◌≡◌, true, None, Some, refl, ap, ◌∙◌, subst, is_some}
use Rattle.hp_laws.proofs.Variants.{AtSlot, Slot as OnSlot}
use Rattle.hp_model.specs.declared.event.SlotEvent.TheVariants.{Ls}
use Rattle.hp_model.proofs.Words.{Reply}
use Rattle.hp_locked.specs.Told.{IsReceipt}
use Rattle.hp_events.specs.Replies.{names_reply}
use Rattle.hp_shared.specs.Slots.{IsSlotEvent, SlotView}
use Rattle.hp_shared.proofs.SlotsKept.{event_done, kept_none, none_added, slot_noted, went_acted}
use Rattle.hp_shared.proofs.locked_slot.Slot.names.Given.{Over}
use Rattle.hp_shared.proofs.locked_slot.Slot.names.Goals as goal
use Rattle.hp_shared.proofs.locked_slot.Slot.names.Goals.{After-note_names-receipt}
use Rattle.hp_trail.specs.Keeping.{with_entry}

pub returns-then-not-is_kept-clause-done : goal.returns-then-not-is_kept-clause-done
returns-then-not-is_kept-clause-done g c =
    let s = c.self.inside in
    let none : g.T.Trail.entries s.trail ≡ None = kept_none (g.T.Trail.entries s.trail) (let is = c.is_kept.ensures.kept in let t = c.if-not-is_kept.true in cc) in
    subst (λ (v : SlotView). IsSlotEvent ⊥ g.N.Naming.page_bytes v
    (record { number = s.number; mount = s.mount; entries = g.T.Trail.entries s.trail; left = g.T.Trail.left s.trail; extra = g.T.Trail.extra s.trail }) Ls
    (names_reply c.list.result) None None) c.self.view_is
    (event_done ⊥ g.N.Naming.page_bytes s.number (g.T.Trail.entries s.trail) (g.T.Trail.left s.trail) (g.T.Trail.extra s.trail) s.mount Ls (names_reply c.list.result) None s.mount
    (went_acted ⊥ g.N.Naming.page_bytes s.number s.mount Ls (names_reply c.list.result) None s.mount c.list.ensures.noted (c.list.ensures.went g.N.Naming.page_bytes s.number))
    c.list.ensures.noted (g.T.Trail.entries s.trail) (g.T.Trail.left s.trail) (g.T.Trail.extra s.trail) None (none_added (g.T.Trail.entries s.trail)
    (record { event = Ls; reply = names_reply c.list.result; asked = None }) none) none)

module _ (g : Over) (c : After-note_names-receipt g) where
  kept : is_some (g.T.Trail.entries c.self.inside.trail) ≡ true
  kept = (let is = c.is_kept.ensures.kept in let t = c.if-not-is_kept.false in cc)

  entries : g.T.Trail.entries c.note_names-receipt.new.trail ≡ with_entry (g.T.Trail.entries c.self.inside.trail)
      (record { event = Ls; reply = names_reply c.list_thrice-names.result.names; asked = None })
  entries = c.note_names-receipt.ensures.entries ∙ ap (λ (x : Reply). with_entry (g.T.Trail.entries c.self.inside.trail)
      (record { event = Ls; reply = x; asked = None })) c.list_thrice-names.ensures.reply

pub invariant_of-self-2 : goal.invariant_of-self-2
invariant_of-self-2 g c =
    let s = c.self.inside in
    let a = (goal.at.invariant_of-self-2 g c).After-note_names-receipt in
    slot_noted g.N.Naming.page_bytes s.number (g.T.Trail.entries s.trail) (g.T.Trail.left s.trail) (g.T.Trail.extra s.trail) s.mount Ls
    (names_reply c.list_thrice-names.result.names) None s.mount
    c.self.invariant (c.list_thrice-names.ensures.went g.N.Naming.page_bytes s.number) (g.T.Trail.entries c.note_names-receipt.new.trail) (g.T.Trail.left c.note_names-receipt.new.trail)
    (g.T.Trail.extra c.note_names-receipt.new.trail)
    refl (entries g a) (λ some. c.note_names-receipt.ensures.left) (λ none. absurd (let s = ap is_some none in let k = kept g a in cc)) c.note_names-receipt.ensures.extra
    (λ closing. (let is = c.has_room.ensures.room in let yes = c.if-not-has_room.false in cc))

pub returns-clause-done : goal.returns-clause-done
returns-clause-done g c =
    let s = c.self.inside in
    let a = (goal.at.returns-clause-done g c).After-note_names-receipt in
    subst (λ (v : SlotView). IsSlotEvent ⊥ g.N.Naming.page_bytes v
    (record {
      number = s.number;
      mount = s.mount;
      entries = g.T.Trail.entries c.note_names-receipt.new.trail;
      left = g.T.Trail.left c.note_names-receipt.new.trail;
      extra =
          g.T.Trail.extra c.note_names-receipt.new.trail;
    })
    Ls (names_reply c.list_thrice-names.result.names) None (Some c.note_names-receipt.result)) c.self.view_is
    (event_done ⊥ g.N.Naming.page_bytes s.number (g.T.Trail.entries s.trail) (g.T.Trail.left s.trail) (g.T.Trail.extra s.trail) s.mount Ls
    (names_reply c.list_thrice-names.result.names) None s.mount
    (went_acted ⊥ g.N.Naming.page_bytes s.number s.mount Ls (names_reply c.list_thrice-names.result.names) None s.mount c.list_thrice-names.ensures.noted
    (c.list_thrice-names.ensures.went g.N.Naming.page_bytes s.number))
    c.list_thrice-names.ensures.noted (g.T.Trail.entries c.note_names-receipt.new.trail) (g.T.Trail.left c.note_names-receipt.new.trail)
    (g.T.Trail.extra c.note_names-receipt.new.trail) (Some c.note_names-receipt.result) (entries g a)
    (subst (λ (x : Reply). IsReceipt (g.T.Trail.entries s.trail) (AtSlot s.number) (OnSlot s.number Ls) x
    (Some c.note_names-receipt.result)) c.list_thrice-names.ensures.again c.note_names-receipt.ensures.receipt))
