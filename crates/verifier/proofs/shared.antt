-- Lemmas that other crates cite.
pub mod LocalLemmas
pub mod PlaceLemmas
pub mod RunLemmas
pub mod SafetyLemmas
pub mod EntryStates
