-- The definitions that the contracts of this crate cite, in reading order.
pub mod Counted
pub mod Standings
pub mod OpenFaultNumber
