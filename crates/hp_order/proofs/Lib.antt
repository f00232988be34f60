pub mod Crossing
pub mod Cycles
pub mod Runs
