pub mod Came
pub mod Fitting
pub mod Homes
