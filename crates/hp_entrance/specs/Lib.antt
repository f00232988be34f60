pub mod Members
pub mod Runs
