pub mod Numbers
pub mod Output
pub mod Pieces
