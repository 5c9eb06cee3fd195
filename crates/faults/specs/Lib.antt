-- The definitions that the contracts of this crate cite.
pub mod Explanations
pub mod FaultTable
pub mod Refusals
