-- What a lease, a heap and a stock own names no thread.
use Rattle.std.proofs.Common.{ℕ, List, [], ◌∷◌}
use base.Shift.{Keyless}
use denote.Param.Send.{Frees, IsSend, IsSync, part_keyless, owning_send, sendable, view_send}
use denote.Builtin.{u8 as byte}
use denote.Param.SendFields.{declared_send, owner_send}
use denote.RattleType.{RattleType}
use Rattle.std.specs.declared.alloc.Allocator.{Ghosts}
use denote.RawPtr.{Ptr, block_ptr, null_ptr}
use Rattle.hp_frames.proofs.Leasing.{way_back}
use Rattle.hp_frames.specs.contracts.lodging.Lease as Lease
use Rattle.hp_frames.specs.contracts.frame.Frame as Frame
use Rattle.hp_frames.specs.contracts.stock.Stock as Stock
use Rattle.hp_frames.specs.contracts.stock.Stock.TheInside as Inside
use Rattle.linked_list_allocator.specs.Holes.{Span}
use Rattle.linked_list_allocator.specs.Ownership.{links, units_of}
use Rattle.linked_list_allocator.specs.contracts.heap.Heap as Heap
use Rattle.linked_list_allocator.specs.contracts.hole.HoleList as HoleList
use Rattle.linked_list_allocator.specs.contracts.memory.Lease as MemoryLease
use Rattle.std.proofs.Crossing as global
use Rattle.std_alloc.proofs.SendSync as any
use Rattle.std_alloc.specs.contracts.vec.Vec as Vec
use Rattle.std_alloc.specs.contracts.vec.lodged.Lodged as Lodged
use Rattle.std_alloc.specs.contracts.vec.lodged.LodgedAllocator.TheImpl.{ghosts}

way_back-keyless : (p : Ptr) (n : ℕ) → Keyless (way_back p n)
way_back-keyless (block_ptr b o) n = (tt, tt)
way_back-keyless null_ptr n = (tt, tt)

pub lease_send : IsSend Lease.the_row
lease_send = owning_send Lease.the_type tt (λ d. way_back-keyless d.ptr d.size) (λ k x w. tt)

-- a `&` to it shows nothing
pub lease_sync : IsSync Lease.the_row
lease_sync = record { shared = λ d b o κ q. part_keyless Lease.the_row lease_send q d b o }

links-keyless : (b : ℕ) (hs : List Span) (last : Ptr) → Keyless (links b hs last)
links-keyless b [] last = tt
links-keyless b (h ∷ hs) last = ((tt, (tt, tt)), links-keyless b hs last)

holes_send : IsSend HoleList.the_row
holes_send = owning_send HoleList.the_type (search sendable, tt) (λ l. links-keyless l.region.block ((l.region.start, 0) ∷ l.holes) null_ptr) (λ k x w. tt)

leased_send : (A : RattleType) (g : Ghosts A.Denot) → IsSend A → Frees g g.dealloc_token → IsSend (MemoryLease.the_row A g)
leased_send A g s f = owner_send (MemoryLease.the_type A g) (search sendable depth 20, tt) (λ l. f.frees l.alloc (units_of l.size) l.ptr) (λ k x w. tt)

pub heap_send : IsSend Heap.the_row
heap_send = declared_send Heap.the_type (search sendable, (search sendable, (holes_send, (global.send, (leased_send _ _ global.send global.frees, tt)))))

bytes_send : IsSend (Vec.the_row byte Lodged.the_row ghosts)
bytes_send = any.Vec-send byte Lodged.the_row ghosts (search sendable) (search sendable depth 20) (record { frees = λ a τ p. tt })

pub frame_send : IsSend Frame.the_row
frame_send = search (sendable, lease_send, bytes_send) depth 40

pub stock_send : IsSend Stock.the_row
stock_send = view_send Inside.the_row _ _ _ _ (declared_send Inside.the_type
    (heap_send, (global.Vec-send Frame.the_row frame_send, (search sendable, (search sendable, (search sendable, (search sendable, tt)))))))
