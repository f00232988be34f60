use Rattle.hp_sessions.specs.Calls.{SessionView}
use Rattle.hp_sessions.proofs.Forking.{exit_leads}
use Rattle.hp_sessions.proofs.asking.Asking.make_exit.Goals as goal

pub returns-clause-leads : goal.returns-clause-leads
returns-clause-leads g c =
    let told = c.exit_maps-any in
    let parts = told.new.self in
    let t : SessionView = record { slots = g.P.Parts.slots parts; receipts = g.P.Parts.told parts; room = g.P.Parts.places parts; clock = g.P.Parts.clock parts } in
    exit_leads g.P.Parts.keeps g.P.Parts.page c.args.self.now t c.self.view_is told.ensures.slots told.ensures.places told.ensures.clock c.args.at c.args.task c.exit_maps-any.result
    c.exit_maps-any.ensures.handed
