-- The definitions that the contracts of this program cite.
pub mod Alone
pub mod AtWork
pub mod FrameOptions
pub mod Measured
pub mod Sinks
