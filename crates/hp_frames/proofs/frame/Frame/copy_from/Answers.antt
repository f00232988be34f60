use Rattle.std.proofs.Common.{arith, subst, sym}
use Rattle.hp_frames.specs.Frame.{AreZerosUpTo}
use Rattle.hp_frames.proofs.Zeros.{zeros_before}
use Rattle.hp_frames.proofs.frame.Frame.copy_from.Goals as goal

pub copy_between-requires-clause-to_early : goal.copy_between-requires-clause-to_early
copy_between-requires-clause-to_early c =
    let own = c.self.inside.start in
    zeros_before c.deref_mut.result.now c.min-start.result own (omega (arith, c.min.ensures, c.min-start.ensures)) (subst (AreZerosUpTo own) (sym c.deref_mut.ensures.value) c.self.invariant.4)

pub copy_between-requires-clause-from_early : goal.copy_between-requires-clause-from_early
copy_between-requires-clause-from_early c =
    let own = c.other.inside.start in
    zeros_before c.deref.result.now c.min-start.result own (omega (arith, c.min.ensures, c.min-start.ensures)) (subst (AreZerosUpTo own) (sym c.deref.ensures.value) c.other.invariant.4)
