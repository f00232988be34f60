pub mod Mounts
pub mod Asking
