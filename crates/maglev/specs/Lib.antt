-- The definitions that the contracts of this crate cite, in reading order.
pub mod RingSize
pub mod Population
pub mod Turns
pub mod Hashing
pub mod Given
pub mod Refusals
pub mod FaultNumber
