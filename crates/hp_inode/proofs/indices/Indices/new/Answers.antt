use Rattle.std.proofs.Common.{[], ◌∙◌}
use Rattle.hp_inode.proofs.Bare.{bare_kept, bare_paged}
use Rattle.hp_inode.proofs.Readying.{same_unready, unready}
use Rattle.hp_inode.proofs.indices.Indices.new.Goals as goal

pub invariant_of-result : goal.invariant_of-result
invariant_of-result c = same_unready c.args.len 0 [] c.new.result [] c.new-2.result c.new.ensures c.new-2.ensures.pages
    (unready c.args.len 0 0 [] [] 0 (bare_kept c.args.len c.requires) (bare_paged c.args.len)) (λ k has. c.new-2.ensures.slots k ∙ has) 0
