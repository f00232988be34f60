use Rattle.std.proofs.Common.{◌∙◌}
use Rattle.hp_inode.proofs.Later.{here_now, others_now}
use Rattle.hp_inode.proofs.block_list.BlockList.clear.Goals as goal

pub returns-then-has-clause-here : goal.returns-then-has-clause-here
returns-then-has-clause-here g c = here_now g.B.Block.empty c.args.self.now c.args.at c.at_mut.result.now c.new-empty.result c.at_mut.ensures.value ∙ c.new-empty.ensures

pub returns-then-has-clause-others : goal.returns-then-has-clause-others
returns-then-has-clause-others g c = others_now g.B.Block.empty c.args.self.now c.args.at c.at_mut.result.now c.new-empty.result c.at_mut.ensures.value
