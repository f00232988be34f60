use Rattle.std.proofs.lemmas.Grind.{common_steps}
use Rattle.std.proofs.Common.{arith}
use Rattle.hp_inode.proofs.Later.{block_set, block_was, number_within, one_at_least}
use Rattle.hp_inode.proofs.block_list.BlockList.at_mut.Goals as goal

pub overflow_sub-n : goal.overflow_sub-n
overflow_sub-n g c = grind (arith, common_steps, one_at_least)

pub index_mut-requires : goal.index_mut-requires
index_mut-requires g c = grind (arith, common_steps, number_within)

pub returns : goal.returns
returns g c = grind (arith, common_steps, block_set, block_was)
