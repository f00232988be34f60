mod Accesses
mod Carries
mod Ending
mod MachineSteps
pub mod Start
mod Forking
pub mod Ready
pub mod Scripts
pub mod Seen
