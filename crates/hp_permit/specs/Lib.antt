pub mod Claim
pub mod Quad
