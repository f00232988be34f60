pub mod Chunked
pub mod FilledWords
pub mod MarkedPlaces
pub mod Packed
pub mod Ranges
pub mod SummedWords
pub mod Untouched
