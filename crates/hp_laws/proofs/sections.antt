-- What each section leaves in the pool, and the pool's numbers as sums over the slots.
pub mod Sections
pub mod SectionTies
pub mod PoolTied
pub mod Lengths
pub mod SectionFrames
