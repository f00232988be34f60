-- What a mount owns names no thread.
use denote.Param.Send.{IsSend, sendable, view_send}
use denote.Param.SendFields.{declared_send}
use denote.RattleType.{RattleType}
use Rattle.hp_inode.specs.contracts.block_list.BlockList as BlockList
use Rattle.hp_inode.specs.contracts.chunk_list.ChunkList as ChunkList
use Rattle.hp_inode.specs.contracts.entries.Entries as Entries
use Rattle.hp_inode.specs.contracts.entry_block.EntryBlock as EntryBlock
use Rattle.hp_inode.specs.contracts.indices.Indices as Indices
use Rattle.hp_inode.specs.contracts.Inode as Inode
use Rattle.hp_inode.specs.contracts.page_block.PageBlock as PageBlock
use Rattle.hp_inode.specs.contracts.table.PageTable as PageTable
use Rattle.hp_inode.specs.declared.block.Block.{Ghosts as BlockGhosts}
use Rattle.hp_mapping.specs.contracts.dense.Dense as Dense
use Rattle.hp_mapping.specs.contracts.mapping.Mapping as Mapping
use Rattle.hp_mapping.specs.contracts.marks.Marks as Marks
use Rattle.hp_mapping.specs.contracts.places.Places as Places
use Rattle.hp_mapping.specs.contracts.row.Row as Row
use Rattle.hp_mapping.specs.contracts.sparse.Sparse as Sparse
use Rattle.hp_mapping.specs.contracts.summed.Summed as Summed
use Rattle.hp_laws.proofs.Variants.{Ghosts}
use Rattle.hp_mount.specs.contracts.mount.Mount as Mount
use Rattle.hp_file.proofs.Crossing as files
use Rattle.hp_file.specs.contracts.file.File as File
use Rattle.hp_file.specs.contracts.file_list.FileList as FileList
use Rattle.hp_mount_files.specs.contracts.files.Files as Files
use Rattle.hp_lookup.specs.contracts.hints.Hints as Hints
use Rattle.hp_lookup.specs.contracts.map_table.MapTable as MapTable
use Rattle.hp_lookup.specs.contracts.name.FileName as FileName
use Rattle.hp_lookup.specs.contracts.name.FileName.TheInside as FileNameInside
use Rattle.hp_lookup.specs.contracts.name_bytes.NameBytes as NameBytes
use Rattle.hp_lookup.specs.contracts.tagged.Tagged as Tagged
use Rattle.hp_lookup.specs.contracts.task_maps.TaskMaps as TaskMaps
use Rattle.hp_nodes.proofs.Crossing.{page_send}
use Rattle.hp_permit.proofs.Crossing.{permit_send}
use Rattle.hp_store.specs.contracts.holdings.Holdings as Holdings
use Rattle.hp_store.specs.contracts.slots.Slots as Slots
use Rattle.hp_store.specs.contracts.store.PageStore as PageStore
use Rattle.hp_subpool.specs.contracts.subpool.Subpool as Subpool
use Rattle.std.proofs.Crossing.{crosses}

summed_send : IsSend Summed.the_row
summed_send = search (sendable, crosses) depth 30

marks_send : IsSend Marks.the_row
marks_send = search (sendable, crosses, summed_send) depth 30

dense_send : IsSend Dense.the_row
dense_send = search (sendable, crosses) depth 30

sparse_send : IsSend Sparse.the_row
sparse_send = search (sendable, crosses) depth 30

row_send : IsSend Row.the_row
row_send = search (sendable, crosses, dense_send, sparse_send) depth 30

places_send : IsSend Places.the_row
places_send = search (sendable, row_send, marks_send) depth 30

pub mapping_send : IsSend Mapping.the_row
mapping_send = search (sendable, crosses, places_send) depth 30

chunk_list_send : IsSend ChunkList.the_row
chunk_list_send = search (sendable, crosses) depth 30

entry_block_send : IsSend EntryBlock.the_row
entry_block_send = search (sendable, crosses) depth 30

block_list_send : (B : RattleType) (block : BlockGhosts B.Denot) → IsSend B → IsSend (BlockList.the_row B block)
block_list_send B block b = search (sendable, crosses) depth 30

entries_send : IsSend Entries.the_row
entries_send = search (sendable, crosses, entry_block_send, block_list_send) depth 30

page_block_send : IsSend PageBlock.the_row
page_block_send = search (sendable, crosses, chunk_list_send) depth 30

page_table_send : IsSend PageTable.the_row
page_table_send = search (sendable, crosses, page_block_send, block_list_send) depth 30

indices_send : IsSend Indices.the_row
indices_send = search (sendable, crosses, page_table_send, entries_send) depth 30

pub inode_send : IsSend Inode.the_row
inode_send = search (sendable, crosses, indices_send) depth 30

name_bytes_send : IsSend NameBytes.the_row
name_bytes_send = search (sendable, crosses) depth 30

file_name_send : IsSend FileName.the_row
file_name_send = view_send FileNameInside.the_row _ _ _ _ (declared_send FileNameInside.the_type (name_bytes_send, tt))

file_send : IsSend File.the_row
file_send = search (sendable, crosses, mapping_send, inode_send, file_name_send) depth 30

file_list_send : IsSend FileList.the_row
file_list_send = files.file_list_send file_send

tagged_send : (K T : RattleType) → IsSend K → IsSend T → IsSend (Tagged.the_row K T)
tagged_send K T k t = search (sendable, crosses) depth 30

task_maps_send : IsSend TaskMaps.the_row
task_maps_send = search (sendable, crosses, tagged_send) depth 40 fits 5000

map_table_send : IsSend MapTable.the_row
map_table_send = search (sendable, crosses, task_maps_send) depth 40 fits 5000

hints_send : IsSend Hints.the_row
hints_send = search (sendable, crosses, tagged_send, file_name_send, map_table_send) depth 40 fits 5000

module _ (N : RattleType) (names : Ghosts N.Denot) where
  subpool_send : IsSend (Subpool.the_row N names)
  subpool_send = search (sendable, permit_send) depth 30

  holdings_send : IsSend (Holdings.the_row N names)
  holdings_send = search (sendable, crosses, page_send) depth 30

  slots_send : IsSend (Slots.the_row N names)
  slots_send = search (sendable, crosses, holdings_send) depth 30

  store_send : IsSend (PageStore.the_row N names)
  store_send = search (sendable, crosses, slots_send, page_send) depth 30

  files_send : IsSend (Files.the_row N names)
  files_send = search (sendable, crosses, store_send, file_list_send, hints_send) depth 40 fits 5000

  pub mount_send : IsSend (Mount.the_row N names)
  mount_send = search (sendable, subpool_send, files_send) depth 40
