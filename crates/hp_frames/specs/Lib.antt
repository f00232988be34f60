pub mod Drafts
pub mod Drawn
pub mod Frame
pub mod Stock
