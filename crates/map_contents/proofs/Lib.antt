-- The lemmas that proofs of this crate share.
pub mod Places
pub mod Remaking
pub mod Texts
