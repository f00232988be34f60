use Rattle.std.proofs.Common.{sym, ◌∙◌}
use Rattle.hp_locked.proofs.Added.{section_kept}
use Rattle.hp_locked.proofs.pool_core.Core.get_page.Goals as goal

pub invariant_of-self-2 : goal.invariant_of-self-2
invariant_of-self-2 g c =
    section_kept c.note-asked.result c.self.invariant c.note-asked.ensures.section c.note-asked.ensures.answer c.note-asked.ensures.entries c.note-asked.ensures.left
    c.note-asked.ensures.extra c.note-asked.ensures.pool c.note-asked.ensures.run
    (rw c.asked_for.ensures c.paged-claim.ensures.section) c.paged-claim.ensures.ready c.law.ensures.settled (sym c.has_room.ensures.room ∙ c.if-not-has_room.false)
