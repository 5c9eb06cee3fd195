-- Lemmas that other crates cite.
pub mod LineLemmas
pub mod ByteLemmas
pub mod ResultLemmas
