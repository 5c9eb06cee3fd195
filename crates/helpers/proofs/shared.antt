-- Lemmas that proofs of other crates cite.
pub mod ReachLemmas
