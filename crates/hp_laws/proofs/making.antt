-- What a new map's number and a remount are.
pub mod Remounts
pub mod NewNumbers
pub mod FilesMade
