mod Noted
mod Ordered
mod Slots
mod Tasks
