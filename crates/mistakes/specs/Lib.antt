-- The definitions that the contracts of this crate cite.
pub mod Notes
pub mod Namesakes
