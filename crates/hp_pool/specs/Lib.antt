pub mod Ledgers
pub mod Sums
