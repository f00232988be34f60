pub mod Keeping
pub mod Tellers
pub mod Walk
pub mod Audit
