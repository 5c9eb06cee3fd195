-- The lemmas that proofs of this crate share.
pub mod PlaceLemmas
pub mod TableLemmas
