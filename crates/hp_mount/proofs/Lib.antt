mod Commands
mod Copying
mod Filling
mod Here
pub mod Loading
mod Refusing
mod Running
mod Storing
