-- Files, maps and mounts.
pub mod Page
pub mod File
pub mod Mapping
pub mod MountCounts
pub mod Value
pub mod Reserved
pub mod Spot
pub mod MakeMap
pub mod Access
pub mod CopyWrite
pub mod Fork
pub mod Fill
pub mod GiveBack
pub mod Options
