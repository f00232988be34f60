use Rattle.hp_wire.proofs.Added.{not_read}
use Rattle.hp_wire.proofs.replies.Replies.add_fault.Goals as goal

pub returns-in-Err-clause-answered : goal.returns-in-Err-clause-answered
returns-in-Err-clause-answered g c = not_read c.in-Err.refusal c.in-Err.ensures c.add_refusal.ensures.text c.add_refusal.ensures.page
