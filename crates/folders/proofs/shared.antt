-- The lemmas that proofs of other crates use, too.
pub mod ReadingLemmas
