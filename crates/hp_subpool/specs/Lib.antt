pub mod Subpool
