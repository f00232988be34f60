mod Ready
mod Whole
mod Time
