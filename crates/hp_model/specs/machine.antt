-- Slots, events, the whole machine, its steps, and what is promised of them.
pub mod Table
pub mod Plan
pub mod SlotEvent
pub mod State
pub mod Machine
pub mod Event
pub mod Step
pub mod Sound
pub mod Settled
pub mod Ready
pub mod Tests
pub mod Named
pub mod Short
pub mod Footprint
pub mod Promises
