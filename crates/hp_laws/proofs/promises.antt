-- What a step answers, why it is refused, and what is promised of it.
pub mod TestsDecide
pub mod Shortage
pub mod Promised
pub mod SmallPool
pub mod SmallReplies
pub mod DoneAnswers
pub mod Answered
pub mod Parents
pub mod Listing
pub mod Surplus
pub mod InRuns
