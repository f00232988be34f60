pub mod Ended
pub mod Session
pub mod FirstLine
pub mod Connection
pub mod Tcp
