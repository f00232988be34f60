use Rattle.hp_inode.proofs.Bare.{bare_paged}
use Rattle.hp_inode.proofs.Inode.page_count.Goals as goal

pub returns-in-Holes : goal.returns-in-Holes
returns-in-Holes c = rw (← c.self.view_is, c.in-Holes.is) (bare_paged c.in-Holes.field-0)
