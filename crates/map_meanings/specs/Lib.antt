-- The definitions that the contracts of this crate cite, in reading order.
pub mod Pieces
pub mod Meanings
