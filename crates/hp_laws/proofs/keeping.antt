-- What names and numbers keep after a step, and what sections leave of nr.
pub mod Homes
pub mod SettingsKept
