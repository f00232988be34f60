pub mod Balance
pub mod Follows
pub mod Laws
pub mod Runs
pub mod Closing
pub mod Answers
