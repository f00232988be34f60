use Rattle.std.proofs.Common.{◌-◌, ◌∙◌, ap}
use borrow.Rule.Slice.PartMut.{put_mid}
use Rattle.hp_frames.proofs.Zeros.{zeros_around}
use Rattle.hp_frames.proofs.frame.copy_between.Goals as goal

pub returns : goal.returns
returns c =
    let to = c.args.to.now in
    let a = c.args.start in
    let e = c.args.end in
    ap (put_mid a (e - a) to) c.copy_from_slice.ensures.after
    ∙ zeros_around to c.args.from.now a e c.requires.order c.requires.same c.requires.to_early c.requires.to c.requires.from_early c.requires.from
