-- The lemmas that proofs of this crate share.
pub mod HeaderLemmas
pub mod FrontLemmas
