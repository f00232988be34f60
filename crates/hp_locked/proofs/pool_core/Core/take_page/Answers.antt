use Rattle.std.proofs.Common.{sym, subst, ◌∙◌, ◌<◌, ℕ}
use Rattle.hp_laws.proofs.settled.Closing.{step_frames}
use Rattle.hp_laws.proofs.Variants.{OfSlot, TakePage}
use Rattle.hp_model.proofs.Words.{granted_at}
use Rattle.hp_locked.proofs.Added.{section_kept}
use Rattle.hp_locked.proofs.Frames.{few_frames}
use Rattle.hp_locked.proofs.pool_core.Core.take_page.Goals as goal

pub invariant_of-self-2 : goal.invariant_of-self-2
invariant_of-self-2 g c =
    section_kept c.note.result c.self.invariant c.note.ensures.section c.note.ensures.answer c.note.ensures.entries c.note.ensures.left
    c.note.ensures.extra c.note.ensures.pool c.note.ensures.run
    (rw c.granted-answer.ensures (rw c.node.ensures.node c.taken-claim.ensures.section)) c.taken-claim.ensures.ready c.law.ensures.settled (sym c.has_room.ensures.room ∙ c.if-not-has_room.false)

pub returns-clause-few : goal.returns-clause-few
returns-clause-few g c =
    let claim = c.taken-claim in
    let core = c.self.invariant.0 in
    let frames = step_frames c.self.inside.pool claim.new.pool (OfSlot (TakePage c.args.home) (granted_at claim.result.node)) core.settled claim.ensures.section in
    few_frames g.N.Naming.frames claim.new.pool claim.result.node c.law.ensures.rows claim.ensures.ready.nodes (frames ∙ core.frames)
    (subst (λ (k : ℕ). k < 4) c.node.ensures.node c.node.ensures.below)
