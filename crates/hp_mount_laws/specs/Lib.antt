pub mod Kept
pub mod Reach
pub mod Done
pub mod Alone
pub mod Making
