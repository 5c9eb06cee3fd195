pub mod shared
pub mod WorkerRunLemmas
pub mod UpdateLemmas
pub mod OpeningLemmas
pub mod RunLemmas
pub mod AloneLemmas
pub mod Places
