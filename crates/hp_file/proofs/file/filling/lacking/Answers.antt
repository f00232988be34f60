use Rattle.std.proofs.Common.{◌≡◌, ◌+◌, ◌-◌, min, ap, ◌∙◌, arith, count_by}
use Rattle.hp_model.proofs.Words.{at_least, has_page, lacks_page, part}
use Rattle.hp_file.proofs.Lacking.{lacking_all}
use Rattle.hp_file.proofs.file.filling.lacking.Goals as goal

both : (c : goal.After-pages_within-paged) → c.pages_within-paged.result + count_by lacks_page (part c.args.a c.args.b (at_least c.args.b c.args.inode.now)) ≡ c.args.b - c.args.a
both c =
    let end = c.min-end.ensures ∙ ap (λ n. min n c.args.b) c.len.ensures.len in
    let paged = c.pages_within-paged.ensures ∙ ap (λ n. count_by has_page (part c.args.a n c.args.inode.now)) end in
    omega (arith, paged, lacking_all c.args.inode.now c.args.a c.args.b c.requires)

pub returns : goal.returns
returns c = omega (arith, both c)
