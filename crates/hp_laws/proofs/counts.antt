-- What files and mounts count, the copies that maps hold, and when both are sound.
pub mod Filled
pub mod CopiesHeld
pub mod FileMoves
pub mod Falls
pub mod OneMapMore
pub mod MountMoves
pub mod NodeSums
pub mod Copies
pub mod FewerCopies
pub mod FilesSound
pub mod MountsSound
