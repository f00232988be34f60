pub mod Words
pub mod Rows
pub mod Digits
pub mod Accesses
pub mod Commands
