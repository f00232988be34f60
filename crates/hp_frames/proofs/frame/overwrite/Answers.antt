use Rattle.std.proofs.Common.{◌+◌, ◌-◌, ◌≡◌, ◌∙◌, ap, arith, length, sym}
use Rattle.hp_frames.proofs.Zeros.{zeros_overwritten}
use Rattle.hp_frames.proofs.frame.overwrite.Goals as goal

pub returns-clause-zeros : goal.returns-clause-zeros
returns-clause-zeros c =
    let a = c.args in
    let size : a.offset + length a.from.now - a.offset ≡ length a.from.now = omega arith in
    let fits = c.requires.fits in
    zeros_overwritten a.to.now c.copy_from_slice.new.self a.offset _ a.written c.max.result (ap length c.copy_from_slice.ensures.after ∙ sym size)
    (omega (arith, fits)) (omega (arith, c.max.ensures)) (omega (arith, c.max.ensures)) c.requires.zeros
