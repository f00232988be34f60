use Rattle.std.proofs.Common.{◌≡◌, ◌∙◌, length, arith}
use Rattle.std.proofs.lemmas.Grind.{common_steps}
use Rattle.hp_frames.specs.Frame.{rewritten}
use Rattle.hp_nodes.proofs.page.Page.bytes_mut.Goals as goal

pub invariant_of-self-lent : goal.invariant_of-self-lent
invariant_of-self-lent g c = λ w.
    let h = c.self.invariant in
    let old = c.self.inside.frame.bytes in
    let long : length (rewritten old w) ≡ length old = grind (arith, common_steps) in
    record { below = h.below; marked = h.marked; memory_is = h.memory_is; length_is = long ∙ h.length_is }
