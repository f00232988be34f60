-- Where names and numbers are found, and what they mean after a change.
pub mod Keys
pub mod Placed
pub mod Accessed
pub mod Meanings
pub mod Named
pub mod Changes
pub mod Follows
pub mod ByPlace
