pub mod Limiting
pub mod Returning
pub mod Takings
pub mod Starting
pub mod Shares
