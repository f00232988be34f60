use Rattle.hp_text.proofs.Added.{adds_then}
use Rattle.hp_text.proofs.meminfo.meminfo_text.Goals as goal

pub returns : goal.returns
returns c =
    let total = adds_then c.push.ensures c.push_columns.ensures.adds in
    let free = adds_then (adds_then total c.push-2.ensures) c.push_columns-2.ensures.adds in
    let rsvd = adds_then (adds_then free c.push-3.ensures) c.push_columns-3.ensures.adds in
    let surp = adds_then (adds_then rsvd c.push-4.ensures) c.push_columns-4.ensures.adds in
    let size = adds_then (adds_then surp c.push-5.ensures) c.push_columns-5.ensures.adds in
    let all = adds_then (adds_then size c.push-6.ensures) c.push_columns-6.ensures.adds in
    adds_then all c.push-7.ensures
