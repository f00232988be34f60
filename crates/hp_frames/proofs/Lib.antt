pub mod Crossing
pub mod Cuts
pub mod Leasing
pub mod Zeros
