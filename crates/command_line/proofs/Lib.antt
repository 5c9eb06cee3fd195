-- The lemmas that proofs of this crate share.
pub mod FaultNumbers
pub mod Named
pub mod Numbers
pub mod PartWords
pub mod Pushed
