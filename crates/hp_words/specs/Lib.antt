pub mod Asked
pub mod Config
