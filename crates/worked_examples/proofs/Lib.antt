pub mod FiveEntries
