mod Apart
mod Counts
mod Members
mod Places
