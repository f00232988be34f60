-- Trails and receipts of several threads.
pub mod TableRun
pub mod LocalRun
pub mod PoolRun
pub mod JointRun
pub mod Differ
pub mod Closing
pub mod Telling
