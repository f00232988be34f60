-- What files and maps show after loads, stores and faults.
pub mod Reserved
pub mod Shown
pub mod SlotShows
pub mod Backed
pub mod CopiesSound
pub mod EndsDone
