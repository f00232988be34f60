pub mod Kept
pub mod Ledgers
pub mod Moves
