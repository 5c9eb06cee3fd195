-- The lemmas that proofs of this crate share.
pub mod FrontLemmas
pub mod WindowLemmas
pub mod CaptureFronts
pub mod RecordFronts
pub mod AlteringLemmas
pub mod shared
