use Rattle.std.proofs.lemmas.Grind.{common_steps}
use Rattle.std.proofs.Common.{arith}
use Rattle.std.proofs.lemmas.List.{get_or_past, get_or_read}
use Rattle.hp_inode.proofs.Chunks.{slot_at}
use Rattle.hp_inode.proofs.chunk_list.ChunkList.page_at.Goals as goal

pub returns-then-slot-len : goal.returns-then-slot-len
returns-then-slot-len c = grind (arith, common_steps, get_or_read, slot_at)

pub returns-else-slot-len : goal.returns-else-slot-len
returns-else-slot-len c = grind (arith, common_steps, get_or_past, get_or_read, slot_at)
