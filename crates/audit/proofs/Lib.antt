-- The lemmas that proofs of this crate share.
pub mod Audits
pub mod HeldLemmas
pub mod PlanFacts
