-- Steps, refusals and text.
pub mod Names
pub mod Lines
pub mod Words
pub mod Reading
pub mod Writing
pub mod Text
