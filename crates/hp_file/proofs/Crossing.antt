-- What a list of files owns names no thread, where a file does not.
use denote.Param.Send.{IsSend, sendable, view_send}
use denote.Param.SendFields.{declared_send}
use denote.RattleType.{RattleType}
use Rattle.hp_file.specs.contracts.file.File as File
use Rattle.hp_file.specs.contracts.file_list.FileList as FileList
use Rattle.hp_file.specs.contracts.file_list.FileList.TheInside as Inside
use Rattle.slab.specs.contracts.Slab as Slab
use Rattle.std.proofs.Crossing.{crosses}
use Rattle.std.specs.contracts.alloc.Global as Heap
use Rattle.std.specs.contracts.impls.GlobalAllocator.TheImpl.{ghosts}

slab_send : (T : RattleType) → IsSend T → IsSend (Slab.the_row T Heap.the_row ghosts)
slab_send T t = search (sendable, crosses) depth 40

pub file_list_send : IsSend File.the_row → IsSend FileList.the_row
file_list_send file = view_send Inside.the_row _ _ _ _ (declared_send Inside.the_type (slab_send _ file, (search (sendable, crosses) depth 20, tt)))
