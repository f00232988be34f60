use Rattle.std.proofs.Common.{rules, ◌≡◌, ◌-◌, ◌∙◌, ap}
use borrow.Rule.Slice.PartMut.{put_mid}
use Rattle.hp_model.proofs.Words.{zeros}
use Rattle.hp_frames.proofs.Zeros.{zeros_filled}
use Rattle.hp_frames.proofs.frame.zero_between.Goals as goal

pub returns : goal.returns
returns c =
    let xs = c.args.bytes.now in
    let a = c.args.start in
    let e = c.args.end in
    let filled : c.fill.new.self ≡ zeros (e - a) = search rules in
    ap (put_mid a (e - a) xs) filled ∙ zeros_filled xs a e c.requires.order c.requires.within c.requires.early c.requires.zeros
