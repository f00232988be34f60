use Rattle.std.proofs.Common.{List, [], ◌∷◌, ap}
use Rattle.hp_laws.proofs.Variants.{TableEntry}
use Rattle.hp_events.specs.Replies.{table_reply}
use Rattle.hp_history.proofs.Sections.{taken, together}
use Rattle.hp_history.specs.declared.held.Held.{Held}
use Rattle.hp_history.specs.declared.held.Held.TheVariants.{Tasks}
use Rattle.hp_history.specs.Sections.{session_view}
use Rattle.hp_shared.specs.Tables.{table_in}
use Rattle.hp_shared.proofs.TablesKept.{told_step}
use Rattle.hp_shared.proofs.table.tell.Goals as goal

pub noted-requires-clause-step : goal.noted-requires-clause-step
noted-requires-clause-step g c =
    let es : List TableEntry = table_in c.args.table.now.views in
    let mine : List Held = c.args.mine.now.me.0 in
    let part = taken _ c.replace.result.views (Tasks es ∷ []) c.into_seat.result.me.0 c.requires.trail (ap (λ b. b.views) c.replace.ensures.value) c.into_seat.ensures.2 in
    told_step g.N.Places.shape es c.args.event (table_reply c.args.told) c.args.change mine c.take_in.new.seat.me.0
    (together (Tasks es) (session_view mine ∷ []) c.into_seat.result.me.0 mine c.take_in.new.seat.me.0 part c.requires.session (ap (λ m. m.0) c.take_in.ensures.view))
    c.requires.next
