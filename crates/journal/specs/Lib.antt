-- The definitions that the contracts of this crate cite, in reading order.
pub mod Journaled
pub mod Ranges
pub mod Entries
pub mod Rows
pub mod Kept
