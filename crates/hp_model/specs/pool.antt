-- The pool, its nodes, and what may be committed.
pub mod PoolCounts
pub mod NodeRows
pub mod Pool
pub mod Grant
pub mod Resize
