-- What is left after unmaps, unlinks, umounts and exits.
pub mod Cuts
pub mod Unmaps
pub mod Fades
pub mod Swept
pub mod RefusedForks
