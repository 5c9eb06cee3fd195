-- The definitions that the contracts of this crate cite, in reading order.
pub mod EntryRows
pub mod KeptEntries
pub mod JournalsView
pub mod KeptIn
pub mod LegalJournals
pub mod JournalText
pub mod EntryForm
pub mod ToldReading
pub mod JournalReading
pub mod FileJournals
pub mod FaultNumber
