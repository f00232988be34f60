-- The run of a script: what it reads, answers and writes.
pub mod Ran
pub mod Served
