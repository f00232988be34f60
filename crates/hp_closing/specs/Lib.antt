pub mod Joined
pub mod OneRun
pub mod Left
pub mod Time
