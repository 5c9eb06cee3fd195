-- Lemmas for the answers of this crate.
pub mod ReadingLemmas
