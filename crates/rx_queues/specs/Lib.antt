-- The definitions that the contracts of this crate cite, in reading order.
pub mod Spread
pub mod Fifo
pub mod Passes
