use Rattle.std.proofs.Common.{◌≡◌, sym, ap, subst, ◌∙◌, arith}
use Rattle.hp_model.proofs.Words.{Reply, on_slot, told_reply}
use Rattle.hp_laws.proofs.Variants.{Slot as OnSlot}
use Rattle.hp_model.specs.declared.event.SlotEvent.TheVariants.{Ls}
use Rattle.hp_events.specs.Replies.{names_reply}
use Rattle.hp_sessions.specs.Calls.{Carries, SessionView}
use Rattle.hp_sessions.proofs.Carrying.{made_by, on_slot_made}
use Rattle.hp_sessions.proofs.asking.Asking.make_names.Goals as goal
use Rattle.hp_sessions.proofs.asking.Asking.make_names.Goals.{in-Ok, in-Err}

pub returns-clause-carried : goal.returns-clause-carried
returns-clause-carried g c =
    let many = c.count.ensures.count in
    let same = ap (λ (v : SessionView). v.slots) c.self.view_is in
    let told = c.names in
    let parts = told.new.self in
    let t : SessionView = record { slots = g.P.Parts.slots parts; receipts = g.P.Parts.told parts; room = g.P.Parts.places parts; clock = g.P.Parts.clock parts } in
    let reply : names_reply c.names.result ≡ told_reply c.match-names.result = elim c.match-names.branch [
      | in-Ok w ↦ ap names_reply w.in-Ok.is ∙ sym (ap told_reply w.result-is)
      | in-Err w ↦ ap names_reply w.in-Err.is ∙ sym (ap told_reply w.result-is)
    ] in
    subst (λ (r : Reply). Carries g.P.Parts.keeps g.P.Parts.page c.args.self.now (on_slot c.args.self.now.slots c.args.slot Ls) r t) reply
    (on_slot_made g.P.Parts.keeps g.P.Parts.page c.args.self.now t c.args.slot Ls (names_reply c.names.result)
    (let under = c.if-at-count.false in omega (arith, many, same, under))
    (made_by c.args.self.now t c.self.view_is told.ensures.slots told.ensures.places told.ensures.clock g.P.Parts.keeps g.P.Parts.page (OnSlot c.args.slot Ls) (names_reply c.names.result)
    c.names.ensures.handed))
