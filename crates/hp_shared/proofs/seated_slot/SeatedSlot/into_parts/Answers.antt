use Rattle.std.proofs.Common.{[], ◌∷◌, refl, ap, ◌∙◌, subst}
use Rattle.hp_history.proofs.Sections.{taken}
use Rattle.hp_history.specs.declared.held.Held.TheVariants.{Slot as SlotPart}
use Rattle.hp_locked.specs.Views.{IsTrailOf}
use Rattle.hp_model.proofs.Words.{IsLocalRun}
use Rattle.hp_shared.specs.Seated.{SeatedView, slot_view}
use Rattle.hp_shared.specs.Slots.{slot_start}
use Rattle.hp_shared.proofs.seated_slot.SeatedSlot.into_parts.Goals as goal

pub returns-clause-seat : goal.returns-clause-seat
returns-clause-seat g c =
    let s = c.self.inside in
    let part = taken s.seat.views s.seat.views (slot_view s.slot.number s.seat.views) c.into_seat.result.me.0 c.self.invariant.one refl c.into_seat.ensures.2 in
    (λ i. (part i, c.into_seat.ensures.3 i)) ∙ ap (λ (x : SeatedView). (SlotPart x.slot.number x.run ∷ [], [])) c.self.view_is

pub returns-clause-run : goal.returns-clause-run
returns-clause-run g c =
    subst (λ (x : SeatedView). IsLocalRun g.N.Naming.page_bytes x.slot.number (slot_start x.slot.number) x.run x.slot.mount) c.self.view_is c.self.invariant.ends

pub returns-clause-kept : goal.returns-clause-kept
returns-clause-kept g c = subst (λ (x : SeatedView). IsTrailOf x.run x.slot.entries) c.self.view_is c.self.invariant.kept
