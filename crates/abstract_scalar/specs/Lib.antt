pub mod Intervals
pub mod Transfer
pub mod Cuts
