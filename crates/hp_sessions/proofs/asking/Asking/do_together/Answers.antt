use Rattle.std.proofs.Common.{sym, ◌∙◌, arith}
use Rattle.hp_sessions.specs.Calls.{SessionView}
use Rattle.hp_sessions.proofs.Queueing.{together}
use Rattle.hp_sessions.proofs.asking.Asking.do_together.Goals as goal

pub returns-clause-done : goal.returns-clause-done
returns-clause-done g c =
    let many = c.count.ensures.count in
    let under = c.if-at-count.false in
    let told = c.accesses in
    let parts = told.new.self in
    let t : SessionView = record { slots = g.P.Parts.slots parts; receipts = g.P.Parts.told parts; room = g.P.Parts.places parts; clock = g.P.Parts.clock parts } in
    together g.P.Parts.keeps g.P.Parts.page c.access.result.now.slot c.accesses.result c.args.queue.now c.accesses.new.queue (sym c.is_kept.ensures ∙ c.if-is_kept.false)
    c.args.self.now t c.self.view_is (omega (arith, many, under)) told.ensures.slots told.ensures.places told.ensures.clock c.accesses.ensures.first
