use Rattle.std.proofs.Common.{arith}
use Rattle.std.proofs.lemmas.Grind.{common_steps}
use Rattle.hp_inode.proofs.Finding.{page_later}
use Rattle.hp_inode.proofs.page_block.PageBlock.first_from.Goals as goal

pub returns : goal.returns
returns c = grind (arith, common_steps, page_later)
