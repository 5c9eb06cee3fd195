-- Lemmas that other crates cite.
pub mod RuleLemmas
pub mod ResultLemmas
pub mod MapLemmas
