pub mod Commands
pub mod Frames
pub mod Refused
pub mod Usual
pub mod Values
