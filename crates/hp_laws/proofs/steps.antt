-- One walk over the plans of all events, how they balance, and from events to steps.
pub mod CopyWrites
pub mod Plans
pub mod Accesses
pub mod SlotsBalanced
pub mod Tells
pub mod RefusalsKeep
pub mod Outcomes
pub mod Runs
pub mod Walk
pub mod Whole
pub mod PlanRules
