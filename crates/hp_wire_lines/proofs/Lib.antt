pub mod Pieces
mod LineEnds
mod Fronts
mod LastHex
mod Keywords
mod HexValues
mod SameWords
mod WordEnds
mod Readings
