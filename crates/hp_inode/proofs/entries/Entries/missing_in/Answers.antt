use Rattle.std.proofs.Common.{sym, ap, ◌∙◌}
use Rattle.hp_inode.specs.EntryBlock.{missing_in}
use Rattle.hp_inode.proofs.Blocks.{none_missed}
use Rattle.hp_inode.proofs.entries.Entries.missing_in.Goals as goal

pub returns-in-None : goal.returns-in-None
returns-in-None c =
    rw (← c.self.view_is) (c.saturating_sub.ensures ∙ none_missed c.args.from c.args.to
    ∙ ap (λ block. missing_in block c.args.from c.args.to) (sym (rw c.in-None.is at c.block.ensures)))
