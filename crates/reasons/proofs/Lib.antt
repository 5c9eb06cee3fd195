pub mod IndexedLemmas
pub mod TellingLemmas
pub mod FairLemmas
pub mod MeetingLemmas
pub mod OriginLemmas
