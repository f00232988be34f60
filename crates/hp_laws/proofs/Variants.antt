-- The types of the machine that code declares, and their variants, for pages of proofs. They stand here since the kit passes none on
-- from the crate that declares them to another.
pub use Rattle.hp_model.specs.declared.answer.Answer.{Answer}
pub use Rattle.hp_model.specs.declared.answer.Answer.TheVariants.{Bytes, Done, Home, MapNo, Names, Number, Numbers, PerNode, Stat as StatAnswer, Usage}
pub use Rattle.hp_model.specs.declared.answer.NodeCount.{NodeCount}
pub use Rattle.hp_model.specs.declared.cell.Cell.{Cell}
pub use Rattle.hp_model.specs.declared.cell.Cell.TheVariants.{Entered, Hole, Present}
pub use Rattle.hp_model.specs.declared.entry.Asked.{Asked}
pub use Rattle.hp_model.specs.declared.entry.Part.{Part}
pub use Rattle.hp_model.specs.declared.entry.Part.TheVariants.{Pool as AtPool, Slot as AtSlot}
pub use Rattle.hp_model.specs.declared.entry.PoolEntry.{PoolEntry}
pub use Rattle.hp_model.specs.declared.entry.PoolEntry.TheVariants.{OfPool, OfSlot}
pub use Rattle.hp_model.specs.declared.entry.Receipt.{Receipt}
pub use Rattle.hp_model.specs.declared.entry.SlotEntry.{SlotEntry}
pub use Rattle.hp_model.specs.declared.entry.TableEntry.{TableEntry}
pub use Rattle.hp_model.specs.declared.event.Event.{Event}
pub use Rattle.hp_model.specs.declared.event.Event.TheVariants.{Pool, Slot, Tasks}
pub use Rattle.hp_model.specs.declared.event.PoolEvent.{PoolEvent}
pub use Rattle.hp_model.specs.machine.SlotEvent.{SlotEvent}
pub use Rattle.hp_model.specs.declared.event.SlotEvent.TheVariants.{ExitMaps, ForkMaps}
pub use Rattle.hp_model.specs.declared.event.TableEvent.{TableEvent}
pub use Rattle.hp_model.specs.declared.event.TableEvent.TheVariants.{Add, Find, FindAndAdd, Remove}
pub use Rattle.hp_model.specs.declared.fault.RunFault.{RunFault}
pub use Rattle.hp_model.specs.declared.fault.RunFault.TheVariants.{Memory, TooLong}
pub use Rattle.hp_model.specs.declared.limits.Limits.{Limits}
pub use Rattle.hp_model.specs.declared.naming.Naming.{Ghosts}
pub use Rattle.hp_model.specs.declared.node.Kind.TheVariants.{Free, FreeSurplus, Idle, Surplus}
pub use Rattle.hp_model.specs.declared.node.NodeRow.{NodeRow}
pub use Rattle.hp_model.specs.declared.place.Place.{Place}
pub use Rattle.hp_model.specs.declared.place.Place.TheVariants.{Gone, Live}
pub use Rattle.hp_model.specs.declared.refusal.Refusal.{Refusal}
pub use Rattle.hp_model.specs.declared.refusal.Refusal.TheVariants.{BadName, BeyondEnd, Busy, CrossesPage, FileExists, MinOverSize, MountFull, NoPages, NoSuchFile, NoSuchMap, NoSuchNode, NoSuchSlot}
pub use Rattle.hp_model.specs.declared.refusal.Refusal.TheVariants.{NoSuchTask, OutOfMemory, OutOfRange, SlotTaken, TakenByOwner, TaskExists, TooMany, TraceFull}
pub use Rattle.hp_model.specs.declared.section.PoolAnswer.{PoolAnswer}
pub use Rattle.hp_model.specs.declared.section.Section.{Section}
pub use Rattle.hp_model.specs.declared.section.Section.TheVariants.{FillPages, GiveBack, Grant, GrantAndReturn, GrantPage, ReadAndGiveBack, ReadAndGrant, TakePage}
pub use Rattle.hp_model.specs.declared.service.Access.{Access}
pub use Rattle.hp_model.specs.declared.step.Intent.{Intent}
pub use Rattle.hp_model.specs.declared.step.Intent.TheVariants.{Read, Write}
pub use Rattle.hp_model.specs.declared.step.Reserving.{Reserving}
pub use Rattle.hp_model.specs.declared.step.Reserving.TheVariants.{NoReserve, Reserve}
pub use Rattle.hp_model.specs.declared.step.Sharing.{Sharing}
pub use Rattle.hp_model.specs.declared.step.Sharing.TheVariants.{Private, Shared}
pub use Rattle.hp_model.specs.declared.step.Step.{Step}
pub use Rattle.hp_model.specs.declared.step.Step.TheVariants.{Anon, Attach, Connect, Create, Df, Exit, Fault, Fork, Load, Ls, Map, Meminfo, Mount, Nodes, Nr, Overcommit, Preallocate, Punch, Remount}
pub use Rattle.hp_model.specs.declared.step.Step.TheVariants.{Stat, Store, Truncate, Umount, Unlink, Unmap}
pub use Rattle.hp_model.specs.declared.told.Told.{Told}
