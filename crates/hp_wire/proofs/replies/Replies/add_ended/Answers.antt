use Rattle.std.proofs.Common.{arith}
use Rattle.hp_wire.proofs.replies.Replies.add_ended.Goals as goal

pub invariant_of-self : goal.invariant_of-self
invariant_of-self c =
    let kept = c.self.invariant.1 in
    let grown = (c.line_of_store.ensures 0).capacity in
    (c.self.invariant.0, omega (arith, kept, grown), c.self.invariant.2)
