-- The definitions that the contracts of this crate cite, in reading order.
pub mod FrameRuns
pub mod Updates
pub mod ShardRuns
pub mod FaultNumber
pub mod SingleRuns
