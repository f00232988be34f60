-- What follows from the footprint of each step.
pub mod Slots
pub mod Ways
pub mod Stays
pub mod Gone
pub mod CutOff
pub mod Others
pub mod Set
pub mod Touched
pub mod Quiet
pub mod Accessed
pub mod Kept
pub mod Follows
