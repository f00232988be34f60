pub mod Bits
pub mod Cleared
pub mod Range
pub mod Words
