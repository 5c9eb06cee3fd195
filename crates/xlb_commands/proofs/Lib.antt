-- The lemmas that proofs of this crate share.
pub mod AcceptedJournals
pub mod Earlier
pub mod EndMaps
pub mod EndsInPieces
pub mod LongImages
pub mod LookingBack
pub mod Outcomes
pub mod PartScripts
pub mod PieceLemmas
pub mod ReaderFiles
pub mod RecordBytes
pub mod ReportPieces
pub mod Refusals
pub mod SameFiles
pub mod SameFolders
pub mod TakingLemmas
