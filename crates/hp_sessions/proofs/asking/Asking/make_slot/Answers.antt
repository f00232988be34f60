use Rattle.std.proofs.Common.{ap, arith}
use Rattle.hp_laws.proofs.Variants.{Slot as OnSlot}
use Rattle.hp_model.proofs.Words.{told_reply}
use Rattle.hp_sessions.specs.Calls.{SessionView}
use Rattle.hp_sessions.proofs.Carrying.{made_by, no_slot, on_slot_made}
use Rattle.hp_events.proofs.Fitting.{fits_result}
use Rattle.hp_sessions.proofs.asking.Asking.make_slot.Goals as goal

pub returns-then-at-count-clause-carried : goal.returns-then-at-count-clause-carried
returns-then-at-count-clause-carried g c =
    let many = c.count.ensures.count in
    let same = ap (λ (v : SessionView). v.slots) c.self.view_is in
    no_slot g.P.Parts.keeps g.P.Parts.page c.args.self.now c.args.slot c.args.event (let over = c.if-at-count.true in omega (arith, many, same, over))

pub returns-clause-carried : goal.returns-clause-carried
returns-clause-carried g c =
    let many = c.count.ensures.count in
    let same = ap (λ (v : SessionView). v.slots) c.self.view_is in
    let e = c.args.event in
    let told = c.slot in
    let parts = told.new.self in
    let t : SessionView = record { slots = g.P.Parts.slots parts; receipts = g.P.Parts.told parts; room = g.P.Parts.places parts; clock = g.P.Parts.clock parts } in
    on_slot_made g.P.Parts.keeps g.P.Parts.page c.args.self.now t c.args.slot e (told_reply c.slot.result)
    (let under = c.if-at-count.false in omega (arith, many, same, under))
    (made_by c.args.self.now t c.self.view_is told.ensures.slots told.ensures.places told.ensures.clock g.P.Parts.keeps g.P.Parts.page
    (OnSlot c.args.slot e) (told_reply c.slot.result) c.slot.ensures.handed)

pub returns-clause-answer : goal.returns-clause-answer
returns-clause-answer g c =
    fits_result g.P.Parts.keeps g.P.Parts.page c.args.slot c.args.event c.slot.result (g.P.Parts.told c.self.inside.parts) (g.P.Parts.told c.slot.new.self) c.slot.ensures.handed
