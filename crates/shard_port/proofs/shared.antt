-- Lemmas that other crates cite.
pub mod Chains
pub mod MayAskLemmas
pub mod ReadyLemmas
pub mod PassAskLemmas
