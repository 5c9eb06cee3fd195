-- Lemmas that other crates cite.
pub mod FaultLemmas
pub mod LawLemmas
pub mod RunLemmas
pub mod SlotLemmas
