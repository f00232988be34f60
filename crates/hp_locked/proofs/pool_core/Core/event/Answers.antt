use Rattle.std.proofs.Common.{sym, ◌∙◌}
use Rattle.hp_laws.proofs.Variants.{OfPool}
use Rattle.hp_locked.specs.Told.{pool_reply}
use Rattle.hp_locked.proofs.Added.{entry_kept}
use Rattle.hp_laws.proofs.promises.SmallPool.{event_small}
use Rattle.hp_locked.proofs.pool_core.Core.event.Goals as goal

pub invariant_of-self-2 : goal.invariant_of-self-2
invariant_of-self-2 g c =
    entry_kept (OfPool c.args.event (pool_reply c.answered-told.result)) c.self.invariant c.note_event-place.ensures.entries c.note_event-place.ensures.left
    c.note_event-place.ensures.extra c.note_event-place.ensures.pool c.note_event-place.ensures.run
    c.answered-told.ensures.event c.answered-told.ensures.ready c.law.ensures.settled (sym c.has_room.ensures.room ∙ c.if-not-has_room.false)

pub returns-clause-limits : goal.returns-clause-limits
returns-clause-limits g c =
    event_small c.self.inside.pool c.answered-told.new.pool c.args.event (pool_reply c.answered-told.result) c.answered-told.ensures.event
    (c.law.ensures.settled c.answered-told.ensures.ready.settled) c.answered-told.ensures.ready.nodes
