pub mod Found
pub mod Running
