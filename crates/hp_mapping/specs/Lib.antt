pub mod Chunks
pub mod Forms
pub mod Mapped
pub mod Flags
pub mod Marks
pub mod Packed
