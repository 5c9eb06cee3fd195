-- Lemmas for the answers of this crate.
pub mod CountLemmas
pub mod RowLemmas
pub mod Outcomes
