-- The lemmas that proofs of this crate share.
pub mod FrameLemmas
pub mod FlowLemmas
pub mod ChecksumLemmas
pub mod DeviceLemmas
pub mod CaptureWriting
pub mod shared
