pub mod Added
mod Columns
pub mod Cuts
mod Digits
mod Firsts
