-- Lemmas for the answers of this crate.
pub mod MoveLemmas
pub mod TallyLemmas
pub mod TableLemmas
pub mod ShareLemmas
pub mod LastShareLemmas
pub mod AppliedLemmas
pub mod OwnerLemmas
pub mod OwnerWords
pub mod DownLemmas
