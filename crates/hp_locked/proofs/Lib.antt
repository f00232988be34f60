pub mod Added
pub mod Giving
pub mod Doors
pub mod Frames
