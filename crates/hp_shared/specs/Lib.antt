pub mod Tables
pub mod Slots
pub mod Sharing
pub mod Runs
pub mod Seated
pub mod Ended
