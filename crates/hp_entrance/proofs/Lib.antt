pub mod Forking
pub mod Handed
pub mod Held
pub mod Following
pub mod Runs
