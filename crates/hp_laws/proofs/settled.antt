-- What every run of a settled machine keeps.
pub mod StaysSettled
pub mod JoinedRun
pub mod CountsHold
pub mod LeavesWalk
pub mod EventsSound
pub mod FewTasks
pub mod Closing
pub mod FewEvents
