-- Words that the definitions of a script's run do not rest on: those that several crates share.
pub mod Ranges
pub mod Accesses
pub mod Told
pub mod Run
pub mod Plain
pub mod Copying
pub mod Queue
pub mod Bytes
