pub mod Kept
pub mod Places
pub mod TablesKept
pub mod Acting
pub mod SlotsKept
pub mod Parted
pub mod SeatedKept
pub mod Running
pub mod Naming
pub mod Opened
mod Gathered
mod Joining
mod CrossingEntries
mod CrossingMounts
pub mod Crossing
mod Claimed
mod Entered
