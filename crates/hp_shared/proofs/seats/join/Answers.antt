use Rattle.hp_history.specs.History.{front_of}
use Rattle.std.proofs.Common.{[], ◌∷◌, refl, ap, ◌∙◌}
use Rattle.hp_history.proofs.Sections.{taken, together}
use Rattle.hp_history.specs.Sections.{free_slot, session_view}
use Rattle.hp_shared.proofs.seats.join.Goals as goal

pub returns-clause-both : goal.returns-clause-both
returns-clause-both g c =
    let free = free_slot (front_of c.args.slot.now.views) in
    let mine = c.args.mine.now.me.0 in
    let part = taken _ c.replace.result.views (free ∷ []) c.into_seat.result.me.0 c.requires.one (ap (λ b. b.views) c.replace.ensures.value) c.into_seat.ensures.2 in
    let both = together free (session_view mine ∷ []) c.into_seat.result.me.0 mine _ part c.requires.session refl in
    c.take_in.ensures.view ∙ (λ i. (both i, c.requires.alone i))
