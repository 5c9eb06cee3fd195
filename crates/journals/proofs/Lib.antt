mod EntryLemmas
pub mod Bytes
pub mod Words
pub mod Lines
pub mod Headers
pub mod Whole
pub mod LegalCalls
pub mod LegalReplies
pub mod FileJournals
