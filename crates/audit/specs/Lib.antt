-- The definitions that the contracts of this crate cite.
pub mod Audited
pub mod FaultNumber
pub mod HeldCells
